use Rattle.std.proofs.Common.{◌≡◌, ◌/◌, ℕ, List}
use Rattle.std.specs.List.{filter_map, range_with_len}
use Rattle.arena_check.specs.Check.{in_arena}
use Rattle.arena_open.specs.Halves.{AreInRange}
use Rattle.namespace_words.specs.Source.{AreBytesOf}
use Rattle.shell_rescue.specs.Rescue.{counted_group}
use Rattle.shell_rescue.proofs.log.counted_groups.Given as goal

abbrev pub invariant-loop-lane : goal.invariant-loop-lane
invariant-loop-lane g l = record {
  -- the groups of the lanes so far
  groups : (words : List ℕ) → AreBytesOf words (l.layout.flog_off / 8) l.log → l.groups ≡ filter_map (counted_group l.layout (in_arena l.at (g.B.BadWords.bad l.bad)) words) (range_with_len 0 l.lane);
  in_range : AreInRange l.layout.external l.groups;
}
