-- The words after a crash that a chooser decides: this project's model of a power cut.
use Rattle.std.specs.Prelude.{◌≡◌, ℕ, ◌+◌, Bool, if◌then◌else◌, List, [], ◌∷◌, Option, Some, None}

-- One word after a crash, and the chooser. A word that isn't pending has its kept value, and the chooser isn't asked. For a
-- pending word the chooser is asked once: if it says so, the word has its stored value, else the kept one. `picks` says how the
-- chooser may answer for a word, and its state afterwards.
abbrev pub LeavesOne : {C : Type 0} → (C → ℕ → Bool → C → Type 0) → ℕ → ℕ → Option ℕ → ℕ → C → C → Type 0
LeavesOne picks i kept None left before after = (left ≡ kept) × (after ≡ before)
LeavesOne picks i kept (Some stored) left before after = (answer : Bool) × picks before i answer after × (left ≡ (if answer then stored else kept))

-- the words from word i on, in ascending order
abbrev pub LeavesFrom : {C : Type 0} → (C → ℕ → Bool → C → Type 0) → ℕ → List ℕ → List (Option ℕ) → List ℕ → C → C → Type 0
LeavesFrom picks i [] stored left before after = (left ≡ []) × (after ≡ before)
LeavesFrom picks i (kept ∷ others) [] left before after = (left ≡ kept ∷ others) × (after ≡ before)
LeavesFrom {C} picks i (kept ∷ others) (stored ∷ since) left before after =
    (value : ℕ) × (between : C) × LeavesOne picks i kept stored value before between
    × ((rest : List ℕ) × (left ≡ value ∷ rest) × LeavesFrom picks (i + 1) others since rest between after)
