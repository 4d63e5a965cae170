use Rattle.std.proofs.Common.{ℕ, ◌<◌, get_or}
use Rattle.nfit_reader.specs.declared.table.Mapping.{Mapping}
use Rattle.power_cut.specs.Namespace.{HasBytes}
use Rattle.power_cut.proofs.namespace.reach_ends.Given as goal

abbrev pub invariant-loop-position : goal.invariant-loop-position
invariant-loop-position l = (p : ℕ) (d : Mapping) → p < l.position → HasBytes l.modules (get_or l.set p d).«module» (get_or l.set p d).start (get_or l.set p d).size
