-- Fronts of lists that a test parts.
use Rattle.std.proofs.Common.{◌≡◌, ℕ, zero, suc, ◌<◌, ◌≤◌, Bool, true, false, List, [], ◌∷◌, get_or, length, drop, take, refl, sym, ap, ◌∙◌, inl, inr, arith}
use Rattle.std.specs.Prelude.{◌-◌, filter}
use Rattle.std.proofs.lemmas.List.{take_all, length-drop}
use Rattle.std.specs.List.{AllByRecursion}
use Rattle.std.specs.List.Sorted.{IsPartitionPoint, IsPartitionedBy}
use Rattle.std.proofs.lemmas.Bool.{cases_Bool, false≢true}

module _ {X : Type 0} (p : X → Bool) where
  abbrev IsPoint : List X → ℕ → Type 0
  IsPoint xs i = IsPartitionPoint (λ y. p y ≡ true) (λ y. p y ≡ false) xs i

  pub none_passes : (xs : List X) → AllByRecursion (λ y. p y ≡ false) xs → filter p xs ≡ []
  none_passes [] none = refl
  none_passes (x ∷ xs) (one, rest) = rw one (none_passes xs rest)

  point_more : (x : X) (xs : List X) (i : ℕ) → IsPoint (x ∷ xs) (suc i) → IsPoint xs i
  point_more x xs i (before, after) = (λ k d low high. before (suc k) d (omega arith) (omega arith), λ k d low high. after (suc k) d (omega arith) (omega arith))

  all_after : (xs : List X) → ((k : ℕ) (d : X) → 0 ≤ k → k < length xs → p (get_or xs k d) ≡ false) → AllByRecursion (λ y. p y ≡ false) xs
  all_after [] none = tt
  all_after (x ∷ xs) none = (none 0 x (omega arith) (omega arith), all_after xs (λ k d low high. none (suc k) d (omega arith) (omega arith)))

  -- what passes stands before the point
  pub filter_front : (xs : List X) (i : ℕ) → i ≤ length xs → IsPoint xs i → filter p xs ≡ take i xs
  filter_front xs zero le (before, after) = none_passes xs (all_after xs after)
  filter_front [] (suc i) le point = refl
  filter_front (x ∷ xs) (suc i) le point =
      let first : p x ≡ true = point.0 0 x (omega arith) (omega arith) in
      rw first (ap (λ (l : List X). x ∷ l) (filter_front xs i (omega arith) (point_more x xs i point)))

  -- behind it nothing does
  pub behind_point : (xs : List X) (i : ℕ) → i ≤ length xs → IsPoint xs i → AllByRecursion (λ y. p y ≡ false) (drop i xs)
  behind_point xs zero le (before, after) = all_after xs after
  behind_point [] (suc i) le point = tt
  behind_point (x ∷ xs) (suc i) le point = behind_point xs i (omega arith) (point_more x xs i point)

  -- what another test passes stands behind it, if no element passes both
  pub filter_behind : (q : X → Bool) → ((x : X) → p x ≡ true → q x ≡ false) → (xs : List X) (i : ℕ) → i ≤ length xs → IsPoint xs i → filter q xs ≡ filter q (drop i xs)
  filter_behind q other xs zero le point = refl
  filter_behind q other [] (suc i) le point = refl
  filter_behind q other (x ∷ xs) (suc i) le point =
      let first : q x ≡ false = other x (point.0 0 x (omega arith) (omega arith)) in
      rw first (filter_behind q other xs i (omega arith) (point_more x xs i point))

  -- of a list that the test parts: what passes is a front, and nothing behind it passes
  pub front_of_parted : (xs : List X) → IsPartitionedBy p xs → (filter p xs ≡ take (length (filter p xs)) xs) × AllByRecursion (λ y. p y ≡ false) (drop (length (filter p xs)) xs)
  front_of_parted [] parted = (refl, tt)
  front_of_parted (x ∷ xs) parted =
      elim (cases_Bool (p x)) [
        | inl it ↦ let rest = front_of_parted xs tail in rw it (ap (λ (l : List X). x ∷ l) rest.0, rest.1)
        | inr not_it ↦ let none = all_after xs (λ k d low high. fails (p (get_or xs k d)) refl not_it (λ h. parted 0 (suc k) d (omega arith) (omega arith) h)) in let empty : filter p xs ≡ [] = none_passes xs none in rw not_it (rw empty (refl, (not_it, none)))
      ]
    where
      tail : IsPartitionedBy p xs
      tail i j d le lt h = parted (suc i) (suc j) d (omega arith) (omega arith) h

      fails : (b : Bool) → {y : Bool} → y ≡ b → p x ≡ false → (y ≡ true → p x ≡ true) → y ≡ false
      fails false is not_it later = is
      fails true is not_it later = absurd (false≢true (sym not_it ∙ later is))

-- a slice from a place on
pub tail_whole : {X : Type 0} (n : ℕ) (xs : List X) → take (length xs - n) (drop n xs) ≡ drop n xs
tail_whole n xs = take_all (length xs - n) (drop n xs) (omega (arith, length-drop n xs))
