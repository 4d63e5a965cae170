use Rattle.std.proofs.Common.{◌≡◌, false, refl, sym, ap, ◌∙◌, arith}
use Rattle.lane_core.specs.Held.{held_by}
use Rattle.lane_replay.specs.Steps.{and_text, steps}
use Rattle.lane_replay.proofs.Parts.{keeps_on, keeps_same, no_steps}
use Rattle.lane_replay.proofs.steps.make_steps.Goals as goal

pub loop-left-init : goal.loop-left-init
loop-left-init c = record { keeps = keeps_same c.args.core.now c.requires.core; same = refl }

pub loop-left-preserved : goal.loop-left-preserved
loop-left-preserved c = record {
  keeps = keeps_on c.args.core.now c.loop-left.core c.go_on.new.core c.loop-left.invariant.keeps c.go_on.ensures.keeps;
  same = c.in_ok-left.ensures.same ∙ c.loop-left.invariant.same;
}

pub returns-clause-plays : goal.returns-clause-plays
returns-clause-plays c =
    let none : c.loop-left.left ≡ 0 = omega arith in
    no_steps c.args.lane (held_by c.loop-left.core) (steps c.args.count c.args.lane false (held_by c.args.core.now)) c.args.text.now.items c.loop-left.text.items
    (ap (λ n. and_text c.loop-left.text.items (steps n c.args.lane false (held_by c.loop-left.core))) (sym none) ∙ c.loop-left.invariant.same)
