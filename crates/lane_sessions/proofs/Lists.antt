-- Elements of lists.
use Rattle.std.proofs.Common.{◌≡◌, ℕ, zero, suc, ◌<◌, List, [], ◌∷◌, ◌++◌, length, get_or, Some, refl, arith}
use Rattle.std.specs.Prelude.{Any, slice_get}
use mathlib.Core.Option.{none, some}
use lib.ListN.{get_elem?}

pub some_at : {A : Type 0} (xs : List A) (i : ℕ) → i < length xs → (x : A) × (get_elem? xs i ≡ some x)
some_at [] i h = absurd (omega arith)
some_at (x ∷ xs) zero h = (x, refl)
some_at (x ∷ xs) (suc i) h = some_at xs i (omega arith)

none_some : {A B : Type 0} {x : A} → none ≡ some x → B
none_some e = absurd (cc)

pub is_within : {A : Type 0} (xs : List A) (i : ℕ) (x : A) → get_elem? xs i ≡ some x → i < length xs
is_within [] i x e = none_some e
is_within (y ∷ xs) zero x e = omega arith
is_within (y ∷ xs) (suc i) x e = let h = is_within xs i x e in omega (arith, h)

pub elem_is : {A : Type 0} (xs : List A) (i : ℕ) (x d : A) → get_elem? xs i ≡ some x → get_or xs i d ≡ x
elem_is [] i x d e = none_some e
elem_is (y ∷ xs) zero x d e = cc
elem_is (y ∷ xs) (suc i) x d e = elem_is xs i x d e

pub slice_get_seam : {A : Type 0} (xs : List A) (x : A) (ys : List A) → slice_get (xs ++ x ∷ ys) (length xs) ≡ Some x
slice_get_seam [] x ys = refl
slice_get_seam (y ∷ xs) x ys = slice_get_seam xs x ys

pub in_front : {A : Type 0} (xs ys : List A) (i : ℕ) (x : A) → get_elem? xs i ≡ some x → get_elem? (xs ++ ys) i ≡ some x
in_front [] ys i x e = none_some e
in_front (y ∷ xs) ys zero x e = e
in_front (y ∷ xs) ys (suc i) x e = in_front xs ys i x e

pub behind : {A : Type 0} (xs ys : List A) (i : ℕ) (x : A) → get_elem? ys i ≡ some x → (k : ℕ) × (get_elem? (xs ++ ys) k ≡ some x)
behind [] ys i x e = (i, e)
behind (y ∷ xs) ys i x e = let r = behind xs ys i x e in (suc r.0, r.1)

-- ---- one that meets a property

pub any_front : {A : Type 0} (P : A → Type 0) (xs ys : List A) → Any P xs → Any P (xs ++ ys)
any_front P [] ys a = let h = a.2 in absurd (omega (arith, h))
any_front P (x ∷ xs) ys (zero, y, h, is, p) = (0, y, omega arith, is, p)
any_front P (x ∷ xs) ys (suc i, y, h, is, p) = let r = any_front P xs ys (i, y, omega (arith, h), is, p) in let l = r.2 in (suc r.0, r.1, omega (arith, l), r.3, r.4)

pub any_behind : {A : Type 0} (P : A → Type 0) (xs ys : List A) → Any P ys → Any P (xs ++ ys)
any_behind P [] ys a = a
any_behind P (x ∷ xs) ys a = let r = any_behind P xs ys a in let l = r.2 in (suc r.0, r.1, omega (arith, l), r.3, r.4)

pub any_one : {A : Type 0} (P : A → Type 0) (x : A) → P x → Any P (x ∷ [])
any_one P x p = (0, x, omega arith, refl, p)
