use Rattle.std.proofs.Common.{◌≡◌, ℕ, ◌+◌, ◌<◌, List, ◌++◌, ◌/◌, drop, take, get_or, length, Option, refl, ◌∙◌, subst, ap, arith}
use Rattle.std.proofs.lemmas.List.{at_drop_more}
use Rattle.std.proofs.lemmas.Result.{err_from_is_err_and}
use Rattle.nvd_media.specs.Images.{Images}
use Rattle.map_table.specs.declared.kinds.MapEntry.{MapEntry}
use Rattle.map_table.specs.Entry.{entry_of}
use Rattle.arena_open.specs.Reading.{cell_with}
use Rattle.cut_words.specs.WordBytes.{bytes_of}
use Rattle.arena_check.proofs.BlockWords.{entry_below}
use Rattle.namespace_words.specs.Source.{Reveals, words_by}
use Rattle.shell_export.specs.Export.{cell_words}
use Rattle.shell_export.specs.Printing.{PrintsBut}
use Rattle.shell_rescue.specs.Rescue.{arena_bytes, entries_bytes, entry_bytes}
use Rattle.shell_rescue.proofs.Rest.{to_begin, to_front, to_more}
use Rattle.shell_rescue.proofs.print.add_arena.Goals as goal

pub loop-sector-init : goal.loop-sector-init
loop-sector-init g c = record {
  filled = c.requires.filled;
  buffer = c.requires.buffer;
  same = refl;
  later = omega arith;
  later_text = omega arith;
  printed =
      to_begin (Reveals (g.S.ImageSource.held c.args.images.now) c.args.extent.now.set)
      (λ contents. arena_bytes (words_by c.args.extent.now contents) c.args.arena.now)
      (g.O.TextSink.written c.args.text.now) (g.O.TextSink.kept c.args.text.now) (take c.args.filled c.args.buffer.now);
}

pub add_entry-requires-clause-block : goal.add_entry-requires-clause-block
add_entry-requires-clause-block g c =
    let inside : c.loop-sector.sector < length c.args.arena.now.entries = omega (arith, c.loop-sector-test.true, ap length c.as_slice-word-items.ensures) in
    let found : c.entry-found.result ≡ entry_of (get_or c.args.arena.now.entries c.loop-sector.sector 0) c.loop-sector.sector =
    c.entry-found.ensures ∙ ap (λ (es : List ℕ). entry_of (get_or es c.loop-sector.sector 0) c.loop-sector.sector) c.as_slice-word-items.ensures in
    omega (arith, ap (λ (e : MapEntry). e.block) found, entry_below c.args.arena.now.layout.internal c.args.arena.now.entries c.loop-sector.sector c.requires.readable.blocks inside)

pub loop-sector-preserved : goal.loop-sector-preserved
loop-sector-preserved g c =
    let k : ℕ = c.loop-sector.sector in
    let inv = c.loop-sector.invariant in
    let inside : c.loop-sector.sector < length c.args.arena.now.entries = omega (arith, c.loop-sector-test.true, ap length c.as_slice-word-items.ensures) in
    let found : c.entry-found.result ≡ entry_of (get_or c.args.arena.now.entries c.loop-sector.sector 0) c.loop-sector.sector =
    c.entry-found.ensures ∙ ap (λ (es : List ℕ). entry_of (get_or es c.loop-sector.sector 0) c.loop-sector.sector) c.as_slice-word-items.ensures in
    let read_before = inv.later in
    let read_after = c.add_entry.ensures.later in
    let text_before = inv.later_text in
    let text_after = c.add_entry.ensures.later_text in
    let waiting : List ℕ = take c.loop-sector.end c.loop-sector.buffer in
    let left : List ℕ = take c.in_ok-end.end c.add_entry.new.buffer in
    record {
      filled = c.in_ok-end.ensures.filled;
      buffer = c.add_entry.ensures.buffer ∙ inv.buffer;
      same = c.add_entry.ensures.same ∙ inv.same;
      later = omega (arith, read_before, read_after);
      later_text = omega (arith, text_before, text_after);
      printed =
          to_more (Reveals (g.S.ImageSource.held c.args.images.now) c.args.extent.now.set)
          (λ contents. take c.args.filled c.args.buffer.now ++ arena_bytes (words_by c.args.extent.now contents) c.args.arena.now)
          (λ contents. entries_bytes c.args.arena.now.layout (drop c.args.arena.now.at (words_by c.args.extent.now contents)) k (drop k c.args.arena.now.entries))
          (g.O.TextSink.written c.args.text.now) (g.O.TextSink.written c.loop-sector.text) (g.O.TextSink.written c.add_entry.new.text)
          (g.O.TextSink.kept c.args.text.now) (g.O.TextSink.kept c.loop-sector.text) (g.O.TextSink.kept c.add_entry.new.text) waiting
          (λ contents. entry_bytes c.args.arena.now.layout (drop c.args.arena.now.at (words_by c.args.extent.now contents)) (get_or c.args.arena.now.entries k 0) k)
          (λ contents. entries_bytes c.args.arena.now.layout (drop c.args.arena.now.at (words_by c.args.extent.now contents)) (k + 1) (drop (k + 1) c.args.arena.now.entries))
          left
          (λ contents. at_drop_more (entries_bytes c.args.arena.now.layout (drop c.args.arena.now.at (words_by c.args.extent.now contents)) k) c.args.arena.now.entries k 0 inside)
          inv.printed
          (subst
          (λ (held : Option Images). PrintsBut (Reveals held c.args.extent.now.set)
          (λ contents. waiting ++ entry_bytes c.args.arena.now.layout (drop c.args.arena.now.at (words_by c.args.extent.now contents)) (get_or c.args.arena.now.entries k 0) k)
          (g.O.TextSink.written c.loop-sector.text) (g.O.TextSink.written c.add_entry.new.text) (g.O.TextSink.kept c.loop-sector.text) (g.O.TextSink.kept c.add_entry.new.text) left)
          inv.same
          (subst
          (λ (found : MapEntry). PrintsBut (Reveals (g.S.ImageSource.held c.loop-sector.images) c.args.extent.now.set)
          (λ contents. waiting ++ bytes_of (cell_words (c.args.arena.now.layout.sector / 8) (cell_with c.args.arena.now.layout (drop c.args.arena.now.at (words_by c.args.extent.now contents)) found)))
          (g.O.TextSink.written c.loop-sector.text) (g.O.TextSink.written c.add_entry.new.text) (g.O.TextSink.kept c.loop-sector.text) (g.O.TextSink.kept c.add_entry.new.text) left)
          found c.in_ok-end.ensures.all));
    }

pub returns-in_err-end-clause-part : goal.returns-in_err-end-clause-part
returns-in_err-end-clause-part g c =
    let k : ℕ = c.loop-sector.sector in
    let p = err_from_is_err_and c.from_residual.result c.from_residual.ensures.1 in
    rw p.1
    (to_front (Reveals (g.S.ImageSource.held c.args.images.now) c.args.extent.now.set)
    (λ contents. take c.args.filled c.args.buffer.now ++ arena_bytes (words_by c.args.extent.now contents) c.args.arena.now)
    (λ contents. entries_bytes c.args.arena.now.layout (drop c.args.arena.now.at (words_by c.args.extent.now contents)) k (drop k c.args.arena.now.entries))
    (g.O.TextSink.written c.args.text.now) (g.O.TextSink.written c.loop-sector.text) (g.O.TextSink.written c.add_entry.new.text)
    (g.O.TextSink.kept c.args.text.now) (g.O.TextSink.kept c.loop-sector.text) (g.O.TextSink.kept c.loop-sector.text)
    (take c.loop-sector.end c.loop-sector.buffer) c.loop-sector.invariant.printed c.in_err-end.ensures.part)
