use Rattle.lane_core.specs.Held.{held_by}
use Rattle.lane_core.specs.Keeping.{Keeps}
use Rattle.lane_replay.proofs.Rounds.{IsAt}
use Rattle.lane_replay.proofs.scanning.scan_round.Given as goal

abbrev pub invariant-loop-made : goal.invariant-loop-made
invariant-loop-made l = record {
  keeps : Keeps l.fn.core l.core;
  at : IsAt (held_by l.fn.core) (held_by l.core) l.lane l.made;
}
