use Rattle.std.proofs.Common.{◌≡◌, ◌*◌, ◌/◌, ◌∙◌, ℕ, drop, take, length, ap, sym, subst, arith}
use Rattle.cut_words.specs.WordBytes.{bytes_of}
use Rattle.namespace_words.specs.Source.{AreBytesOf, Reveals, words_by}
use Rattle.namespace_words.proofs.HeldBytes.{raw_fits}
use Rattle.shell_export.proofs.Fronts.{piece_all, piece_front}
use Rattle.shell_export.proofs.SectorBytes.{on_err_more, on_more, piece_is}
use Rattle.shell_export.proofs.raw.print_piece.Goals as goal

pub overflow_mul-at : goal.overflow_mul-at
overflow_mul-at g c = omega (arith, c.requires.inside, raw_fits c.args.extent.now c.bytes-bytes.ensures.laid)

pub returns-in-Ok-clause-all : goal.returns-in-Ok-clause-all
returns-in-Ok-clause-all g c =
    on_more c.print_bytes.result _ _
    (piece_all (Reveals (g.S.ImageSource.held c.args.images.now) c.args.extent.now.set) (λ contents. bytes_of (take (length c.args.piece.now / 8) (drop c.args.at (words_by c.args.extent.now contents))))
    (g.O.TextSink.written c.args.text.now) (g.O.TextSink.written c.print_bytes.new.text) (g.O.TextSink.kept c.args.text.now) (g.O.TextSink.kept c.print_bytes.new.text) c.read_extent.new.into
    (λ contents reveals.
    ap (λ (n : ℕ). bytes_of (take (n / 8) (drop c.args.at (words_by c.args.extent.now contents)))) (sym c.read_extent.auto.into)
    ∙ piece_is (words_by c.args.extent.now contents) c.read_extent.new.into c.args.at c.in-Ok.ensures.fit (omega (arith, c.read_extent.auto.into, c.requires.whole))
    (subst (λ (n : ℕ). AreBytesOf (words_by c.args.extent.now contents) n c.read_extent.new.into) (let e : 8 * c.args.at / 8 ≡ c.args.at = omega arith in e) (c.in-Ok.ensures.words contents reveals (omega arith)))))
    c.print_bytes.ensures.all

pub returns-in-Ok-clause-part : goal.returns-in-Ok-clause-part
returns-in-Ok-clause-part g c =
    on_err_more c.print_bytes.result _ _
    (piece_front (Reveals (g.S.ImageSource.held c.args.images.now) c.args.extent.now.set) (λ contents. bytes_of (take (length c.args.piece.now / 8) (drop c.args.at (words_by c.args.extent.now contents))))
    (g.O.TextSink.written c.args.text.now) (g.O.TextSink.written c.print_bytes.new.text) c.read_extent.new.into
    (λ contents reveals.
    ap (λ (n : ℕ). bytes_of (take (n / 8) (drop c.args.at (words_by c.args.extent.now contents)))) (sym c.read_extent.auto.into)
    ∙ piece_is (words_by c.args.extent.now contents) c.read_extent.new.into c.args.at c.in-Ok.ensures.fit (omega (arith, c.read_extent.auto.into, c.requires.whole))
    (subst (λ (n : ℕ). AreBytesOf (words_by c.args.extent.now contents) n c.read_extent.new.into) (let e : 8 * c.args.at / 8 ≡ c.args.at = omega arith in e) (c.in-Ok.ensures.words contents reveals (omega arith)))))
    c.print_bytes.ensures.part
