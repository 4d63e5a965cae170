use Rattle.std.proofs.Common.{◌≡◌, ℕ, ◌<◌, false, get_or}
use Rattle.nfit_reader.specs.declared.table.Mapping.{Mapping}
use Rattle.region_space.specs.Fitting.{is_met}
use Rattle.region_space.proofs.fitting.offset_past.Given as goal

abbrev pub invariant-loop-position : goal.invariant-loop-position
invariant-loop-position l = (k : ℕ) (blank : Mapping) → k < l.position → is_met l.space l.raw l.offset (get_or l.set k blank) ≡ false
