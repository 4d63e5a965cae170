use Rattle.std.proofs.Common.{◌≡◌, ◌++◌}
use Rattle.lane_core.specs.Held.{held_by}
use Rattle.lane_replay.specs.Playing.{cut_lines}
use Rattle.lane_replay.proofs.playing.add_cuts.Given as goal

abbrev pub invariant-loop-lane : goal.invariant-loop-lane
invariant-loop-lane l = l.text.items ≡ l.fn.text.items ++ cut_lines l.lane (held_by l.core)
