use Rattle.std.proofs.Common.{◌≡◌, ℕ, ◌+◌, ◌*◌, ◌/◌, ◌≤◌, ◌++◌, length, take, drop, Option, ◌∙◌, ap, sym, subst, arith, length-append}
use Rattle.std.proofs.lemmas.List.{length-drop, length-take-le, take_all}
use Rattle.std.proofs.lemmas.Result.{err_from_is_err_and}
use Rattle.nvd_media.specs.Images.{Images}
use Rattle.cut_words.specs.WordBytes.{bytes_of}
use Rattle.namespace_words.specs.Source.{Reveals, words_by}
use Rattle.namespace_words.proofs.HeldBytes.{words_long}
use Rattle.shell_export.specs.Printing.{PrintsAll, PrintsFront}
use Rattle.shell_export.proofs.Fronts.{all_more, bytes_at, bytes_more, front_more}
use Rattle.shell_export.proofs.raw.print_pieces.Goals as goal

pub loop-at-preserved : goal.loop-at-preserved
loop-at-preserved g c =
    let at : ℕ = c.loop-at.at in
    let size : ℕ = c.min-size.result in
    let inv = c.loop-at.invariant in
    let fits : 8 * c.min-size.result ≤ length c.loop-at.piece = omega (arith, c.min-size.ensures, c.loop-at.invariant.piece) in
    let count : length (take (8 * c.min-size.result) c.loop-at.piece) ≡ 8 * c.min-size.result = length-take-le (8 * c.min-size.result) c.loop-at.piece fits in
    let eighth : c.min-size.result ≡ length (take (8 * c.min-size.result) c.loop-at.piece) / 8 = omega (arith, count) in
    let read_before = inv.later in
    let read_after = c.print_piece.ensures.later in
    let text_before = inv.later_text in
    let text_after = c.print_piece.ensures.later_text in
    record {
      inside = omega (arith, c.min-size.ensures, c.bytes-count.ensures.bytes, inv.inside, c.loop-at-test.true);
      piece = omega (arith, fits, inv.piece, c.print_piece.auto.piece, count, length-append c.print_piece.new.piece (drop (8 * c.min-size.result) c.loop-at.piece), length-drop (8 * c.min-size.result) c.loop-at.piece);
      same = c.print_piece.ensures.same ∙ inv.same;
      later = omega (arith, read_before, read_after);
      later_text = omega (arith, text_before, text_after);
      printed =
          all_more (Reveals (g.S.ImageSource.held c.args.images.now) c.args.extent.now.set) (λ contents. bytes_of (take at (words_by c.args.extent.now contents)))
          (g.O.TextSink.written c.args.text.now) (g.O.TextSink.written c.loop-at.text) (g.O.TextSink.written c.print_piece.new.text)
          (g.O.TextSink.kept c.args.text.now) (g.O.TextSink.kept c.loop-at.text) (g.O.TextSink.kept c.print_piece.new.text)
          (λ contents. bytes_of (take (length (take (8 * c.min-size.result) c.loop-at.piece) / 8) (drop at (words_by c.args.extent.now contents))))
          (λ contents. bytes_of (take (at + size) (words_by c.args.extent.now contents)))
          (λ contents.
          bytes_more (words_by c.args.extent.now contents) at size
          ∙ ap (λ (n : ℕ). bytes_of (take at (words_by c.args.extent.now contents)) ++ bytes_of (take n (drop at (words_by c.args.extent.now contents)))) eighth)
          inv.printed
          (subst
          (λ (held : Option Images). PrintsAll (Reveals held c.args.extent.now.set) (λ contents. bytes_of (take (length (take (8 * c.min-size.result) c.loop-at.piece) / 8) (drop at (words_by c.args.extent.now contents))))
          (g.O.TextSink.written c.loop-at.text) (g.O.TextSink.written c.print_piece.new.text) (g.O.TextSink.kept c.loop-at.text) (g.O.TextSink.kept c.print_piece.new.text))
          inv.same c.in_ok-print_piece.ensures.all);
    }

pub returns-in_err-print_piece-clause-part : goal.returns-in_err-print_piece-clause-part
returns-in_err-print_piece-clause-part g c =
    let at : ℕ = c.loop-at.at in
    let inv = c.loop-at.invariant in
    let size : ℕ = length (take (8 * c.min-size.result) c.loop-at.piece) / 8 in
    let p = err_from_is_err_and c.from_residual.result c.from_residual.ensures.1 in
    rw p.1
    (front_more (Reveals (g.S.ImageSource.held c.args.images.now) c.args.extent.now.set) (λ contents. bytes_of (take at (words_by c.args.extent.now contents)))
    (g.O.TextSink.written c.args.text.now) (g.O.TextSink.written c.loop-at.text) (g.O.TextSink.written c.print_piece.new.text)
    (g.O.TextSink.kept c.args.text.now) (g.O.TextSink.kept c.loop-at.text) (g.O.TextSink.kept c.loop-at.text)
    (λ contents. bytes_of (take size (drop at (words_by c.args.extent.now contents))))
    (λ contents. bytes_of (words_by c.args.extent.now contents))
    (λ contents. bytes_of (drop size (drop at (words_by c.args.extent.now contents))))
    (λ contents. bytes_at (words_by c.args.extent.now contents) at size)
    inv.printed
    (subst
    (λ (held : Option Images). PrintsFront (Reveals held c.args.extent.now.set) (λ contents. bytes_of (take size (drop at (words_by c.args.extent.now contents)))) (g.O.TextSink.written c.loop-at.text) (g.O.TextSink.written c.print_piece.new.text))
    inv.same c.in_err-print_piece.ensures.part))

pub returns-clause-all : goal.returns-clause-all
returns-clause-all g c =
    let inv = c.loop-at.invariant in (
      inv.printed.0,
      inv.printed.1,
      (λ contents reveals.
          ap bytes_of (sym (take_all c.loop-at.at (words_by c.args.extent.now contents) (omega (arith, words_long c.args.extent.now contents, c.loop-at-test.false, c.bytes-count.ensures.bytes))))
          ∙ inv.printed.2 contents reveals),
    )
