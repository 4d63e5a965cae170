-- Elements of a list, by their place.
use Rattle.std.proofs.Common.{◌≡◌, ℕ, zero, suc, ◌<◌, List, [], ◌∷◌, ◌++◌, length, length-append, get_or, map, refl, sym, ap, ◌∙◌, subst, arith}
use Rattle.std.specs.Prelude.{All, Vec, vec_len}
use mathlib.Core.Logic.{dite}
use native.Mathlib.Decide.{ℕ_discrete}
use Rattle.std.proofs.lemmas.List.{get_or-map}
use Rattle.std.proofs.Math.ListN.{get_or-append}
use Rattle.std.proofs.Math.Seq.{get_or-append_seam}
use Rattle.turn_lock.specs.Rows.{items_at}

-- the element at i, for any default
pub there : {A : Type 0} (xs : List A) (i : ℕ) → i < length xs → (x : A) × (get_or xs i x ≡ x)
there [] i h = absurd (omega arith)
there (x ∷ xs) zero h = (x, refl)
there (x ∷ xs) (suc i) h = there xs i (omega arith)

-- the image of an element
pub mapped : {A B : Type 0} (f : A → B) (xs : List A) (i : ℕ) (x : A) (d : B) → i < length xs → get_or xs i x ≡ x → get_or (map f xs) i d ≡ f x
mapped f xs i x d h is = get_or-map f xs i x d h ∙ ap f is

-- the element after ys
pub at_seam : {A : Type 0} (xs ys zs : List A) (x d : A) → ys ++ x ∷ zs ≡ xs → (length ys < length xs) × (get_or xs (length ys) d ≡ x)
at_seam xs ys zs x d is = (omega (arith, ap length is, length-append ys (x ∷ zs)), ap (λ l. get_or l (length ys) d) (sym is) ∙ get_or-append_seam ys x zs d)

-- a property of each element holds of the one after ys
pub all_at_seam : {A : Type 0} (P : A → Type 0) (xs ys zs : List A) (x : A) → ys ++ x ∷ zs ≡ xs → All P xs → P x
all_at_seam P xs ys zs x is all = let at = at_seam xs ys zs x x is in subst P at.1 (all (length ys) x at.0)

-- a property of each element at its place still holds with one more
pub each_push : {A : Type 0} (P : ℕ → A → Type 0) (xs : List A) (x : A) → ((k : ℕ) (d : A) → k < length xs → P k (get_or xs k d)) → P (length xs) x → (k : ℕ) (d : A) → k < length (xs ++ x ∷ []) → P k (get_or (xs ++ x ∷ []) k d)
each_push P xs x front last k d h = dite (ℕ_discrete k (length xs))
    (λ is. subst (λ (n : ℕ). P n (get_or (xs ++ x ∷ []) n d)) (sym is) (subst (P (length xs)) (sym (get_or-append_seam xs x [] d)) last))
    (λ other. let h' : k < length xs = omega (arith, length-append xs (x ∷ [])) in subst (P k) (sym (get_or-append xs (x ∷ []) d k h')) (front k d h'))

-- and with one less
pub all_pop : {A : Type 0} (P : A → Type 0) (xs ys : List A) (y : A) → xs ≡ ys ++ y ∷ [] → All P xs → All P ys × P y
all_pop {A} P xs ys y is all =
    let all' : All P (ys ++ y ∷ []) = subst (All P) is all in (
      (λ k d h. subst P (get_or-append ys (y ∷ []) d k h) (all' k d (omega (arith, length-append ys (y ∷ []))))),
      subst P (get_or-append_seam ys y [] y) (all' (length ys) y (omega (arith, length-append ys (y ∷ [])))),
    )

-- the list at i
pub items_at_is : {X Z : Type 0} (vs : List (Vec X Z)) (i : ℕ) (d : Vec X Z) → i < length vs → items_at vs i ≡ (get_or vs i d).items
items_at_is [] i d h = absurd (omega arith)
items_at_is (v ∷ vs) zero d h = refl
items_at_is (v ∷ vs) (suc i) d h = items_at_is vs i d (omega arith)

pub length_at : {X Z : Type 0} (vs : List (Vec X Z)) (i : ℕ) → get_or (map vec_len vs) i 0 ≡ length (items_at vs i)
length_at [] i = refl
length_at (v ∷ vs) zero = v.ok.0
length_at (v ∷ vs) (suc i) = length_at vs i

pub items_at_front : {X Z : Type 0} (vs : List (Vec X Z)) (w : Vec X Z) (j : ℕ) → j < length vs → items_at (vs ++ w ∷ []) j ≡ items_at vs j
items_at_front [] w j h = absurd (omega arith)
items_at_front (v ∷ vs) w zero h = refl
items_at_front (v ∷ vs) w (suc j) h = items_at_front vs w j (omega arith)

pub items_at_last : {X Z : Type 0} (vs : List (Vec X Z)) (w : Vec X Z) → items_at (vs ++ w ∷ []) (length vs) ≡ w.items
items_at_last [] w = refl
items_at_last (v ∷ vs) w = items_at_last vs w
