-- What a caller knows of a tally.
use Rattle.std.specs.Prelude.{ℕ, List, slice_index}
use Rattle.turn_callers.specs.declared.tally.Quota.{Quota}

abbrev pub quota_at : List ℕ → ℕ → ℕ → Quota
quota_at left all q = record { left = slice_index left q; all = all }
