-- The element at the first place that passes a test.
use Rattle.std.proofs.Common.{◌≡◌, ℕ, suc, ◌+◌, ◌-◌, ◌≤◌, Bool, true, false, cond, List, [], ◌∷◌, get_or, Some, None, refl, sym, ap, ◌∙◌, subst, arith}
use Rattle.std.specs.Prelude.{find, position}
use Rattle.std.specs.List.{position_from}
use Rattle.std.proofs.lemmas.Iterator.Adapters.{position_from-zero}

-- the state when a search has ended
pub record IsFound {X : Type 0} (p : X → Bool) (xs : List X) (i : ℕ) : Type 0 where
  pub item : X
  pub found : find p xs ≡ Some item
  pub stands : (d : X) → get_or xs i d ≡ item

found_by : {X : Type 0} (b : Bool) (p : X → Bool) (x : X) (xs : List X) (k i : ℕ) → p x ≡ b → cond b (Some k) (position_from p (k + 1) xs) ≡ Some i
    → (position_from p (k + 1) xs ≡ Some i → (k + 1 ≤ i) × IsFound p xs (i - (k + 1))) → (k ≤ i) × IsFound p (x ∷ xs) (i - k)
found_by true p x xs k i passes e on =
    let same : k ≡ i = cc in
    (omega (arith, same), record { item = x; found = rw passes refl; stands = λ d. ap (λ (n : ℕ). get_or (x ∷ xs) n d) (let z : i - k ≡ 0 = omega (arith, same) in z) })
found_by false p x xs k i fails e on =
    let rest : (k + 1 ≤ i) × IsFound p xs (i - (k + 1)) = on e in (
      omega (arith, rest.0),
      record {
        item = rest.1.item;
        found = rw fails rest.1.found;
        stands = λ d. ap (λ (n : ℕ). get_or (x ∷ xs) n d) (let z : i - k ≡ suc (i - (k + 1)) = omega (arith, rest.0) in z) ∙ rest.1.stands d;
      },
    )

found_from : {X : Type 0} (p : X → Bool) (xs : List X) (k i : ℕ) → position_from p k xs ≡ Some i → (k ≤ i) × IsFound p xs (i - k)
found_from p [] k i e = cc
found_from p (x ∷ xs) k i e = found_by (p x) p x xs k i refl e (λ on. found_from p xs (k + 1) i on)

pub found_at : {X : Type 0} (p : X → Bool) (xs : List X) (i : ℕ) → position p xs ≡ Some i → IsFound p xs i
found_at p xs i e =
    subst (λ (n : ℕ). IsFound p xs n) (let z : i - 0 ≡ i = omega arith in z) (found_from p xs 0 i (sym (position_from-zero p xs) ∙ e)).1

none_by : {X : Type 0} (b : Bool) (p : X → Bool) (x : X) (xs : List X) (k : ℕ) → p x ≡ b → cond b (Some k) (position_from p (k + 1) xs) ≡ None
    → (position_from p (k + 1) xs ≡ None → find p xs ≡ None) → find p (x ∷ xs) ≡ None
none_by true p x xs k passes e on = cc
none_by false p x xs k fails e on = rw fails (on e)

none_from : {X : Type 0} (p : X → Bool) (xs : List X) (k : ℕ) → position_from p k xs ≡ None → find p xs ≡ None
none_from p [] k e = refl
none_from p (x ∷ xs) k e = none_by (p x) p x xs k refl e (λ on. none_from p xs (k + 1) on)

pub not_found : {X : Type 0} (p : X → Bool) (xs : List X) → position p xs ≡ None → find p xs ≡ None
not_found p xs e = none_from p xs 0 (sym (position_from-zero p xs) ∙ e)
