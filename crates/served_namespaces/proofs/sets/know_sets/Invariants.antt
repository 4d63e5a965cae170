use Rattle.std.proofs.Common.{ℕ, ◌<◌}
use Rattle.namespace_areas.specs.Finding.{set_at}
use Rattle.served_namespaces.specs.Places.{PlacesBytes}
use Rattle.served_namespaces.proofs.sets.know_sets.Given as goal

abbrev pub invariant-loop-set : goal.invariant-loop-set
invariant-loop-set l = (region : ℕ) → region < l.set-index → PlacesBytes (set_at l.sets region)
