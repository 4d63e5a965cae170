-- The passes that one caller has, one of each of several locks, and lists indexed by the caller's number.
use Rattle.std.specs.Prelude.{◌≡◌, ℕ, zero, suc, ◌<◌, List, [], ◌∷◌, length, Some, None, Vec, slice_index_or}
use Rattle.atomic_table.specs.Seated.{TableId}
use Rattle.turn_lock.specs.declared.parted.Parted.{Ghosts}
use Rattle.turn_lock.specs.declared.pass.TurnPass.{TurnPass}
use Rattle.turn_lock.specs.Passes.{lock_of, number_of, part_of, out_of}

-- a pass of caller q at this lock, outside, whose part meets K
abbrev pub IsPassOf : {T D : Type 0} {g : Ghosts T D} → TableId → ℕ → (D → Type 0) → TurnPass T D g → Type 0
IsPassOf {T} {D} lock q K p = (lock_of p ≡ lock) × (number_of p ≡ q) × (out_of p ≡ None) × ((d : D) × (part_of p ≡ Some d) × K d)

-- one pass of each lock, in the order of the locks; the part that the j-th knows meets K j
pub record ArePassesOf {T D : Type 0} {g : Ghosts T D} (locks : List TableId) (q : ℕ) (K : ℕ → D → Type 0) (ps : List (TurnPass T D g)) : Type 0 where
  pub count : length ps ≡ length locks
  pub each : (j : ℕ) (p : TurnPass T D g) (e : TableId) → j < length locks → IsPassOf (slice_index_or locks j e) q (K j) (slice_index_or ps j p)

-- the elements of the i-th list, none if there is no such list
abbrev pub items_at : {X Z : Type 0} → List (Vec X Z) → ℕ → List X
items_at [] i = []
items_at (v ∷ vs) zero = v.items
items_at (v ∷ vs) (suc i) = items_at vs i
