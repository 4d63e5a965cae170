use Rattle.std.proofs.Common.{◌≡◌, ◌+◌, length}
use Rattle.lane_core.specs.Held.{held_by}
use Rattle.lane_core.specs.Keeping.{Keeps}
use Rattle.lane_replay.specs.Playing.{played_all, replayed}
use Rattle.lane_replay.specs.Steps.{and_text}
use Rattle.lane_replay.proofs.playing.play_lines.Given as goal

abbrev pub invariant-loop-line : goal.invariant-loop-line
invariant-loop-line l = record {
  keeps : Keeps l.fn.core l.core;
  count : l.number + length l.left ≡ length l.lines;
  same : and_text l.text.items (played_all (l.number + 1) (held_by l.core) l.left) ≡ and_text l.fn.text.items (replayed (held_by l.fn.core) l.lines);
}

abbrev pub decreases-loop-line : goal.decreases-loop-line
decreases-loop-line l = length l.left
