use Rattle.std.proofs.Common.{◌≡◌, ◌++◌, drop}
use Rattle.std.specs.Prelude.{filter}
use Rattle.served_namespaces.specs.Opening.{firsts}
use Rattle.served_namespaces.proofs.Firsts.{fresh}
use Rattle.served_namespaces.proofs.finding.set_of.Given as goal

abbrev pub invariant-loop-uuid : goal.invariant-loop-uuid
invariant-loop-uuid l = l.ones.keys ++ filter (fresh l.ones.keys) (firsts (drop l.uuid-index l.uuids)) ≡ firsts l.uuids
