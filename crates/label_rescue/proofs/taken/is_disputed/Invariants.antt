use Rattle.std.proofs.Common.{◌≡◌, ℕ, ◌<◌, false, get_or}
use Rattle.nfit_reader.specs.declared.table.Mapping.{Mapping}
use Rattle.label_rescue.specs.Rescue.{is_taken_on}
use Rattle.label_rescue.proofs.taken.is_disputed.Given as goal

abbrev pub invariant-loop-position : goal.invariant-loop-position
invariant-loop-position l = (k : ℕ) (blank : Mapping) → k < l.position → is_taken_on l.namespaces l.namespace l.found (get_or l.set k blank) ≡ false
