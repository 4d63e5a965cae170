use Rattle.std.proofs.Common.{◌≡◌, ◌*◌, ◌^◌, ◌≤◌, take}
use Rattle.session_service.specs.Namespaces.{externals}
use Rattle.session_service.proofs.finding.sectors_in.Given as goal

abbrev pub invariant-loop-arena : goal.invariant-loop-arena
invariant-loop-arena l = record { sum : l.count ≡ externals (take l.arena-index l.arenas); few : l.count ≤ 2 ^ 32 * l.arena-index }
