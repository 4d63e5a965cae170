use Rattle.std.proofs.Common.{◌≡◌, ℕ, ◌+◌, ◌<◌, true, get_or}
use Rattle.nfit_reader.specs.declared.alias.DpaRange.{DpaRange}
use Rattle.nfit_reader.specs.Apart.{is_before}
use Rattle.nfit_reader.proofs.alias.stand_apart.Given as goal

abbrev pub invariant-loop-place : goal.invariant-loop-place
invariant-loop-place l = (k : ℕ) (d : DpaRange) → k + 1 < l.place → is_before (get_or l.sorted k d) (get_or l.sorted (k + 1) d) ≡ true
