-- Rows that grow by one place at once.
use Rattle.std.specs.Prelude.{◌≡◌, ℕ, ◌<◌, List, [], ◌∷◌, ◌++◌, length, Some, Vec, slice_get, slice_index_or}

-- as many elements as there are places, and each stands as P says to what is at its place
pub record Along {A B : Type 0} (P : A → B → Type 0) (places : List A) (xs : List B) : Type 0 where
  pub count : length xs ≡ length places
  pub each : (j : ℕ) (a : A) (d : B) → slice_get places j ≡ Some a → P a (slice_index_or xs j d)

-- each row has one element more, the one of the items at its place
pub record Gain {B Z : Type 0} (rows : List (Vec B Z)) (items : List B) (rows' : List (Vec B Z)) : Type 0 where
  pub same : length rows' ≡ length rows
  pub each : (i : ℕ) (d : Vec B Z) (e : B) → i < length rows → (slice_index_or rows' i d).items ≡ (slice_index_or rows i d).items ++ slice_index_or items i e ∷ []

-- row i along the places, as P i says
abbrev pub AreRows : {A B Z : Type 0} → (ℕ → A → B → Type 0) → List A → List (Vec B Z) → Type 0
AreRows {A} {B} {Z} P places rows = (i : ℕ) (d : Vec B Z) → i < length rows → Along (P i) places (slice_index_or rows i d).items
