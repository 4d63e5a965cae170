use Rattle.std.proofs.Common.{◌≡◌, drop}
use Rattle.std.specs.Prelude.{find}
use Rattle.namespace_map.specs.Namespaces.{is_read_only}
use Rattle.namespace_areas.proofs.entries.read_only_module.Given as goal

abbrev pub invariant-loop-placed : goal.invariant-loop-placed
invariant-loop-placed l = find is_read_only (drop l.placed-index l.labels) ≡ find is_read_only l.labels
