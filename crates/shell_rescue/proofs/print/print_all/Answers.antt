use Rattle.std.proofs.Common.{ℕ, ◌+◌, List, ◌++◌, drop, take, Option, ◌∙◌, subst, sym, ap, arith}
use Rattle.std.proofs.lemmas.List.{at_drop_all, at_drop_more}
use Rattle.std.proofs.lemmas.Result.{err_from_is_err_and}
use Rattle.nvd_media.specs.Images.{Images}
use Rattle.namespace_words.specs.Source.{Reveals, words_by}
use Rattle.shell_export.specs.Printing.{PrintsBut, PrintsFront}
use Rattle.shell_export.proofs.SectorBytes.{on_err_more, on_more}
use Rattle.shell_rescue.specs.declared.arena.ArenaRescued.{ArenaRescued}
use Rattle.shell_rescue.specs.Rescue.{arena_bytes, arenas_bytes}
use Rattle.shell_rescue.proofs.Rest.{to_all, to_front, to_more, to_part}
use Rattle.shell_rescue.proofs.print.print_all.Goals as goal

pub loop-arena-preserved : goal.loop-arena-preserved
loop-arena-preserved g c =
    let k : ℕ = c.loop-arena.arena-index in
    let arena : ArenaRescued = c.arena-item.result in
    let inv = c.loop-arena.invariant in
    let read_before = inv.later in
    let read_after = c.add_arena.ensures.later in
    let text_before = inv.later_text in
    let text_after = c.add_arena.ensures.later_text in
    let waiting : List ℕ = take c.loop-arena.filled c.loop-arena.buffer in
    let left : List ℕ = take c.in_ok-filled.filled c.add_arena.new.buffer in
    record {
      filled = c.in_ok-filled.ensures.filled;
      buffer = c.add_arena.ensures.buffer ∙ inv.buffer;
      same = c.add_arena.ensures.same ∙ inv.same;
      later = omega (arith, read_before, read_after);
      later_text = omega (arith, text_before, text_after);
      printed =
          to_more (Reveals (g.S.ImageSource.held c.args.images.now) c.args.extent.now.set)
          (λ contents. arenas_bytes (words_by c.args.extent.now contents) c.args.arenas.now)
          (λ contents. arenas_bytes (words_by c.args.extent.now contents) (drop k c.args.arenas.now))
          (g.O.TextSink.written c.args.text.now) (g.O.TextSink.written c.loop-arena.text) (g.O.TextSink.written c.add_arena.new.text)
          (g.O.TextSink.kept c.args.text.now) (g.O.TextSink.kept c.loop-arena.text) (g.O.TextSink.kept c.add_arena.new.text) waiting
          (λ contents. arena_bytes (words_by c.args.extent.now contents) arena)
          (λ contents. arenas_bytes (words_by c.args.extent.now contents) (drop (k + 1) c.args.arenas.now)) left
          (λ contents. at_drop_more (arenas_bytes (words_by c.args.extent.now contents)) c.args.arenas.now k arena c.loop-arena-test.true
          ∙ ap (λ (a : ArenaRescued). arena_bytes (words_by c.args.extent.now contents) a ++ arenas_bytes (words_by c.args.extent.now contents) (drop (k + 1) c.args.arenas.now)) (sym c.arena-item.is))
          inv.printed
          (subst
          (λ (held : Option Images). PrintsBut (Reveals held c.args.extent.now.set) (λ contents. waiting ++ arena_bytes (words_by c.args.extent.now contents) arena)
          (g.O.TextSink.written c.loop-arena.text) (g.O.TextSink.written c.add_arena.new.text) (g.O.TextSink.kept c.loop-arena.text) (g.O.TextSink.kept c.add_arena.new.text) left)
          inv.same c.in_ok-filled.ensures.all);
    }

pub returns-in_err-filled-clause-part : goal.returns-in_err-filled-clause-part
returns-in_err-filled-clause-part g c =
    let k : ℕ = c.loop-arena.arena-index in
    let arena : ArenaRescued = c.arena-item.result in
    let inv = c.loop-arena.invariant in
    let waiting : List ℕ = take c.loop-arena.filled c.loop-arena.buffer in
    let p = err_from_is_err_and c.from_residual.result c.from_residual.ensures.1 in
    rw p.1
    (to_part (Reveals (g.S.ImageSource.held c.args.images.now) c.args.extent.now.set)
    (λ contents. arenas_bytes (words_by c.args.extent.now contents) c.args.arenas.now)
    (λ contents. arenas_bytes (words_by c.args.extent.now contents) (drop k c.args.arenas.now))
    (g.O.TextSink.written c.args.text.now) (g.O.TextSink.written c.loop-arena.text) (g.O.TextSink.written c.add_arena.new.text)
    (g.O.TextSink.kept c.args.text.now) (g.O.TextSink.kept c.loop-arena.text) (g.O.TextSink.kept c.loop-arena.text) waiting
    (λ contents. arena_bytes (words_by c.args.extent.now contents) arena)
    (λ contents. arenas_bytes (words_by c.args.extent.now contents) (drop (k + 1) c.args.arenas.now))
    (λ contents. at_drop_more (arenas_bytes (words_by c.args.extent.now contents)) c.args.arenas.now k arena c.loop-arena-test.true
    ∙ ap (λ (a : ArenaRescued). arena_bytes (words_by c.args.extent.now contents) a ++ arenas_bytes (words_by c.args.extent.now contents) (drop (k + 1) c.args.arenas.now)) (sym c.arena-item.is))
    inv.printed
    (subst
    (λ (held : Option Images). PrintsFront (Reveals held c.args.extent.now.set) (λ contents. waiting ++ arena_bytes (words_by c.args.extent.now contents) arena)
    (g.O.TextSink.written c.loop-arena.text) (g.O.TextSink.written c.add_arena.new.text))
    inv.same c.in_err-filled.ensures.part))

pub returns-clause-all : goal.returns-clause-all
returns-clause-all g c =
    on_more c.print_bytes.result _ _
    (to_all (Reveals (g.S.ImageSource.held c.args.images.now) c.args.extent.now.set)
    (λ contents. arenas_bytes (words_by c.args.extent.now contents) c.args.arenas.now)
    (λ contents. arenas_bytes (words_by c.args.extent.now contents) (drop c.loop-arena.arena-index c.args.arenas.now))
    (g.O.TextSink.written c.args.text.now) (g.O.TextSink.written c.loop-arena.text) (g.O.TextSink.written c.print_bytes.new.text)
    (g.O.TextSink.kept c.args.text.now) (g.O.TextSink.kept c.loop-arena.text) (g.O.TextSink.kept c.print_bytes.new.text)
    (take c.loop-arena.filled c.loop-arena.buffer)
    (λ contents. at_drop_all (arenas_bytes (words_by c.args.extent.now contents)) c.args.arenas.now c.loop-arena.arena-index (omega (arith, c.loop-arena-test.false)))
    c.loop-arena.invariant.printed)
    c.print_bytes.ensures.all

pub returns-clause-part : goal.returns-clause-part
returns-clause-part g c =
    on_err_more c.print_bytes.result _ _
    (to_front (Reveals (g.S.ImageSource.held c.args.images.now) c.args.extent.now.set)
    (λ contents. arenas_bytes (words_by c.args.extent.now contents) c.args.arenas.now)
    (λ contents. arenas_bytes (words_by c.args.extent.now contents) (drop c.loop-arena.arena-index c.args.arenas.now))
    (g.O.TextSink.written c.args.text.now) (g.O.TextSink.written c.loop-arena.text) (g.O.TextSink.written c.print_bytes.new.text)
    (g.O.TextSink.kept c.args.text.now) (g.O.TextSink.kept c.loop-arena.text) (g.O.TextSink.kept c.loop-arena.text)
    (take c.loop-arena.filled c.loop-arena.buffer) c.loop-arena.invariant.printed)
    c.print_bytes.ensures.part
