use Rattle.std.proofs.Common.{◌≡◌, Bool, drop}
use Rattle.std.specs.List.{position_from}
use Rattle.map_table.proofs.counts.first_flag.Given as goal

abbrev pub invariant-loop-place : goal.invariant-loop-place
invariant-loop-place l = position_from (λ (flag : Bool). flag) 0 l.flags ≡ position_from (λ (flag : Bool). flag) l.place (drop l.place l.flags)
