-- Lists in which one item is read or replaced.
use Rattle.std.proofs.Common.{◌≡◌, ℕ, zero, suc, ◌+◌, ◌<◌, ◌≤◌, List, [], ◌∷◌, length, drop, get_or, slice_get, slice_set, Some, refl, ap, sym, ◌∙◌, arith}

pub there_is : {A : Type 0} {a b : A} → Some a ≡ Some b → a ≡ b
there_is e = cc

-- an item is replaced by itself
pub set_same : {A : Type 0} (xs : List A) (i : ℕ) (x : A) → slice_get xs i ≡ Some x → slice_set xs i x ≡ xs
set_same [] i x at = refl
set_same (y ∷ ys) zero x at = ap (λ z. z ∷ ys) (there_is (sym at))
set_same (y ∷ ys) (suc i) x at = ap (λ zs. y ∷ zs) (set_same ys i x at)

pub get_set : {A : Type 0} (xs : List A) (i : ℕ) (x : A) → i < length xs → slice_get (slice_set xs i x) i ≡ Some x
get_set [] i x lt = absurd (omega arith)
get_set (y ∷ ys) zero x lt = refl
get_set (y ∷ ys) (suc i) x lt = get_set ys i x (omega arith)

-- the item at a place, and what stands behind it
pub drop_here : {A : Type 0} (xs : List A) (i : ℕ) (x : A) → i < length xs → x ≡ get_or xs i x → drop i xs ≡ x ∷ drop (i + 1) xs
drop_here [] i x lt is = absurd (omega arith)
drop_here (y ∷ ys) zero x lt is = ap (λ z. z ∷ ys) (sym is)
drop_here (y ∷ ys) (suc i) x lt is = let e : suc i + 1 ≡ suc (i + 1) = omega arith in drop_here ys i x (omega arith) is ∙ ap (λ n. x ∷ drop n (y ∷ ys)) (sym e)

pub drop_end : {A : Type 0} (xs : List A) (i : ℕ) → length xs ≤ i → drop i xs ≡ []
drop_end [] zero le = refl
drop_end [] (suc i) le = refl
drop_end (y ∷ ys) zero le = absurd (omega arith)
drop_end (y ∷ ys) (suc i) le = drop_end ys i (omega arith)
