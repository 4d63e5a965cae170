use Rattle.std.proofs.Common.{◌∙◌, ◌++◌, List, ap, arith}
use Rattle.std.proofs.lemmas.List.{take_all}
use Rattle.namespace_bytes.specs.declared.runs.Run.{Run}
use Rattle.namespace_words.specs.Moves.{link_runs, move_runs}
use Rattle.namespace_words.proofs.MadeMoves.{links_more}
use Rattle.namespace_words.proofs.moves.move_runs.Goals as goal

pub loop-arena-preserved : goal.loop-arena-preserved
loop-arena-preserved c =
    c.in_ok-push_moves.ensures
    ∙ ap (λ (rs : List Run). rs ++ link_runs c.arena-item.result) c.loop-arena.invariant
    ∙ links_more c.args.arenas.now c.loop-arena.arena-index c.arena-item.result c.loop-arena-test.true c.arena-item.is

pub returns : goal.returns
returns c = c.loop-arena.invariant ∙ ap move_runs (take_all c.loop-arena.arena-index c.args.arenas.now (omega (arith, c.loop-arena-test.false)))
