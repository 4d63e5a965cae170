use Rattle.std.proofs.Common.{◌≡◌, ◌*◌, ◌^◌, ◌≤◌, take}
use Rattle.std.specs.Prelude.{sum_by}
use Rattle.arena_open.specs.InPlace.{external_in}
use Rattle.arena_open.proofs.chain_in_place.sectors_in.Given as goal

abbrev pub invariant-loop-arena : goal.invariant-loop-arena
invariant-loop-arena l = record { sum : l.count ≡ sum_by external_in (take l.arena-index l.arenas); few : l.count ≤ 2 ^ 30 * l.arena-index }
