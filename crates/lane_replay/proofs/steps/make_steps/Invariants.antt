use Rattle.std.proofs.Common.{◌≡◌, false}
use Rattle.lane_core.specs.Held.{held_by}
use Rattle.lane_core.specs.Keeping.{Keeps}
use Rattle.lane_replay.specs.Steps.{and_text, steps}
use Rattle.lane_replay.proofs.steps.make_steps.Given as goal

abbrev pub invariant-loop-left : goal.invariant-loop-left
invariant-loop-left l = record {
  keeps : Keeps l.fn.core l.core;
  same : and_text l.text.items (steps l.left l.lane false (held_by l.core)) ≡ and_text l.fn.text.items (steps l.count l.lane false (held_by l.fn.core));
}

abbrev pub decreases-loop-left : goal.decreases-loop-left
decreases-loop-left l = l.left
