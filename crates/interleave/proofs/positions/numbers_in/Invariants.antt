use Rattle.std.proofs.Common.{ℕ, ◌<◌, get_or}
use Rattle.nfit_reader.specs.declared.table.Mapping.{Mapping}
use Rattle.interleave.proofs.positions.numbers_in.Given as goal

abbrev pub invariant-loop-position : goal.invariant-loop-position
invariant-loop-position l = (p : ℕ) (d : Mapping) → p < l.position → (get_or l.mappings p d).«module» < l.numbers
