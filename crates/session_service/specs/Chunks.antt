-- A list of which each item has a number, and the first one not always 0.
use Rattle.std.specs.Prelude.{ℕ, ◌+◌, ◌<◌, List, length, slice_index_or}

-- P holds of each item and its number, if the first item has number base
abbrev pub EachFrom : {X : Type 0} → (ℕ → X → Type 0) → ℕ → List X → Type 0
EachFrom {X} P base xs = (k : ℕ) (d : X) → k < length xs → P (base + k) (slice_index_or xs k d)

-- R holds of each item's number, and of the item before and after
pub record EachChangesFrom {X : Type 0} (R : ℕ → X → X → Type 0) (base : ℕ) (xs ys : List X) : Type 0 where
  pub each : (k : ℕ) (d : X) → k < length xs → R (base + k) (slice_index_or xs k d) (slice_index_or ys k d)
