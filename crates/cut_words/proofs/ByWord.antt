-- After a crash each word has, independently, its kept value or the one that a load returns.
use Rattle.std.proofs.Common.{◌≡◌, ℕ, zero, suc, ◌+◌, Bool, true, false, cond, List, [], ◌∷◌, length, get_or, Option, Some, None, sym, ap, ◌∙◌, subst, arith, inl, inr}
use Rattle.std.specs.Prelude.{◌⊎◌, unwrap_or}
use Rattle.cut_words.specs.Words.{Words, IsLeft}
use Rattle.cut_words.specs.Leaving.{LeavesOne, LeavesFrom}

abbrev Either : List ℕ → List (Option ℕ) → List ℕ → Type 0
Either kept stored left = (k : ℕ) → (get_or left k 0 ≡ get_or kept k 0) ⊎ (get_or left k 0 ≡ unwrap_or (get_or stored k None) (get_or kept k 0))

one_left : {C : Type 0} (picks : C → ℕ → Bool → C → Type 0) (i kept : ℕ) (stored : Option ℕ) (value : ℕ) (c c' : C) → LeavesOne picks i kept stored value c c'
    → (value ≡ kept) ⊎ (value ≡ unwrap_or stored kept)
one_left picks i kept None value c c' one = inl one.0
one_left picks i kept (Some v) value c c' one = by_answer one.0 one.2
  where
    by_answer : (answer : Bool) → value ≡ cond answer v kept → (value ≡ kept) ⊎ (value ≡ v)
    by_answer true is = inr is
    by_answer false is = inl is

from_one : {C : Type 0} (picks : C → ℕ → Bool → C → Type 0) (i : ℕ) (kept : List ℕ) (stored : List (Option ℕ)) (left : List ℕ) (c c' : C) → length stored ≡ length kept
    → LeavesFrom picks i kept stored left c c' → (length left ≡ length kept) × Either kept stored left
from_one picks i [] stored left c c' sized leaves = (ap length leaves.0, λ k. inl (ap (λ (xs : List ℕ). get_or xs k 0) leaves.0))
from_one picks i (x ∷ kept) [] left c c' sized leaves = absurd (omega arith)
from_one picks i (x ∷ kept) (o ∷ stored) left c c' sized leaves =
    let value : ℕ = leaves.0 in
    let rest : List ℕ = leaves.3.0 in
    let others = from_one picks (i + 1) kept stored leaves.3.0 leaves.1 c' (omega arith) leaves.3.2 in (
      ap length leaves.3.1 ∙ ap suc others.0,
      λ k. subst (λ (xs : List ℕ). (get_or xs k 0 ≡ get_or (x ∷ kept) k 0) ⊎ (get_or xs k 0 ≡ unwrap_or (get_or (o ∷ stored) k None) (get_or (x ∷ kept) k 0)))
          (sym leaves.3.1) (at_place k (one_left picks i x o leaves.0 c leaves.1 leaves.2) others.1),
    )
  where
    at_place : (k : ℕ) → (leaves.0 ≡ x) ⊎ (leaves.0 ≡ unwrap_or o x) → Either kept stored leaves.3.0
        → (get_or (leaves.0 ∷ leaves.3.0) k 0 ≡ get_or (x ∷ kept) k 0) ⊎ (get_or (leaves.0 ∷ leaves.3.0) k 0 ≡ unwrap_or (get_or (o ∷ stored) k None) (get_or (x ∷ kept) k 0))
    at_place zero here there = here
    at_place (suc k) here there = there k

pub is_left : {C : Type 0} (picks : C → ℕ → Bool → C → Type 0) (view : Words) (left : List ℕ) (c c' : C) → length view.stored ≡ length view.kept
    → LeavesFrom picks 0 view.kept view.stored left c c' → IsLeft view left
is_left picks view left c c' sized leaves =
    let whole = from_one picks 0 view.kept view.stored left c c' sized leaves in
    record { same_length = whole.0; each = whole.1 }
