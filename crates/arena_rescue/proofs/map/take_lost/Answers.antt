use Rattle.std.proofs.Common.{◌∙◌, sym, refl, arith}
use Rattle.arena_check.specs.Check.{in_arena}
use Rattle.arena_rescue.specs.Counting.{counted_twice}
use Rattle.arena_rescue.proofs.Taking.{taken_all, taken_lost, taken_none, taken_own}
use Rattle.arena_rescue.proofs.map.take_lost.Goals as goal
use Rattle.arena_rescue.proofs.map.take_lost.Goals.{in-Some+in_ok-push, in_default}

pub loop-sector-init : goal.loop-sector-init
loop-sector-init g c =
    taken_none c.args.layout.now (in_arena c.args.at (g.B.BadWords.bad c.args.bad.now)) (counted_twice c.args.counts.now) c.args.entries.now _ _ refl c.new-losses.ensures

pub loop-sector-preserved : goal.loop-sector-preserved
loop-sector-preserved g c = elim c.match-loss_of.branch [
  | in-Some+in_ok-push w ↦
      taken_lost c.args.layout.now (in_arena c.args.at (g.B.BadWords.bad c.args.bad.now)) (counted_twice c.args.counts.now) c.args.entries.now c.loop-sector.entries c.loop-sector.losses
      c.loop-sector.sector c.loop-sector.invariant _ _ w.in-Some.loss w.zero.result (omega arith) (sym c.loss_of.ensures ∙ w.in-Some.is) w.zero.ensures.word w.entries-is
      (w.losses-is ∙ w.in_ok-push.ensures.ok)
  | in_default w ↦
      taken_own c.args.layout.now (in_arena c.args.at (g.B.BadWords.bad c.args.bad.now)) (counted_twice c.args.counts.now) c.args.entries.now c.loop-sector.entries c.loop-sector.losses
      c.loop-sector.sector c.loop-sector.invariant _ _ (sym c.loss_of.ensures ∙ w.in_default.is) w.entries-is w.losses-is
]

pub returns-clause-entries : goal.returns-clause-entries
returns-clause-entries g c =
    taken_all c.args.layout.now (in_arena c.args.at (g.B.BadWords.bad c.args.bad.now)) (counted_twice c.args.counts.now) c.args.entries.now c.loop-sector.entries c.loop-sector.losses
    c.loop-sector.sector c.loop-sector.invariant (omega arith)
