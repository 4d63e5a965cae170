use Rattle.std.proofs.Common.{◌≡◌, map, drop}
use Rattle.std.specs.List.{range_with_len}
use Rattle.arena_open.specs.Reading.{entry_at}
use Rattle.arena_open.proofs.read.read_map.Given as goal

abbrev pub invariant-loop-sector : goal.invariant-loop-sector
invariant-loop-sector g l = l.entries.items ≡ map (entry_at l.layout (drop l.at (g.W.WordSpace.words l.space).kept)) (range_with_len 0 l.sector)
