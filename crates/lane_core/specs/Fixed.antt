-- The words of an arena that no lane stores: its info blocks and its padding. They stay as opening
-- found them.
use Rattle.std.specs.Prelude.{◌≡◌, ◌≢◌, ℕ, ◌+◌, ◌<◌, List, slice_index}
use Rattle.lane_core.specs.declared.shape.Shape.{Shape}
use Rattle.lane_core.specs.Places.{Place, IsIn, word_of}

-- word i of the arena belongs to no sector, no map word and no log half
pub record IsFixed (x : Shape) (i : ℕ) : Type 0 where
  pub inside : i < x.total
  pub apart : (p : Place) → IsIn x p → word_of x p ≢ i

-- both have the same values there
abbrev pub SameFixed : Shape → List ℕ → List ℕ → Type 0
SameFixed x words left = (i : ℕ) → IsFixed x i → slice_index left i ≡ slice_index words i

-- a row has the values of these words there, seen and kept
abbrev pub RowHasFixed : Shape → List ℕ → List ℕ → Type 0
RowHasFixed x words row = (i : ℕ) → IsFixed x i → (slice_index row i ≡ slice_index words i) × (slice_index row (x.total + i) ≡ slice_index words i)
