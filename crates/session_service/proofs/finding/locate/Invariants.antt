use Rattle.std.proofs.Common.{◌≡◌, ◌+◌, take}
use Rattle.session_service.specs.Namespaces.{externals}
use Rattle.session_service.proofs.finding.locate.Given as goal

abbrev pub invariant-loop-k : goal.invariant-loop-k
invariant-loop-k l = l.sector ≡ externals (take l.k l.arenas) + l.own
