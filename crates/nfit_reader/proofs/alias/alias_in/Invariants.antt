use Rattle.std.proofs.Common.{◌≡◌, drop}
use Rattle.nfit_reader.specs.Table.{alias_in}
use Rattle.nfit_reader.proofs.alias.alias_in.Given as goal

abbrev pub invariant-loop-place : goal.invariant-loop-place
invariant-loop-place l = alias_in (drop l.place l.dpa_ranges) ≡ alias_in l.dpa_ranges
