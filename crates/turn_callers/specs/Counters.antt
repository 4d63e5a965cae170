-- The passes of a tally's callers, before and after their turns.
use Rattle.std.specs.Prelude.{◌≡◌, ℕ, ◌<◌, List, length, None, IsSomeAnd, slice_index_or}
use Rattle.atomic_table.specs.Seated.{TableId}
use Rattle.turn_lock.specs.declared.parted.Parted.{Ghosts}
use Rattle.turn_lock.specs.declared.pass.TurnPass.{TurnPass}
use Rattle.turn_lock.specs.Passes.{lock_of, number_of, part_of, out_of}
use Rattle.turn_callers.specs.declared.tally.Quota.{Quota}
use Rattle.turn_callers.specs.declared.tally.Tally.{Tally}

module _ {g : Ghosts Tally Quota} where
  -- a pass of caller q, outside, with n turns left
  abbrev pub HasLeft : TableId → ℕ → ℕ → TurnPass Tally Quota g → Type 0
  HasLeft lock n q p = (lock_of p ≡ lock) × (number_of p ≡ q) × (out_of p ≡ None) × IsSomeAnd (part_of p) (λ s. s.left ≡ n)

  -- pass q is that of caller q, and has n turns left
  abbrev pub HaveLeft : TableId → ℕ → List (TurnPass Tally Quota g) → Type 0
  HaveLeft lock n ps = (q : ℕ) (p : TurnPass Tally Quota g) → q < length ps → HasLeft lock n q (slice_index_or ps q p)
