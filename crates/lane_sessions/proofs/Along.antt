-- Rows that grow by one place at once.
use Rattle.std.proofs.Common.{◌≡◌, ℕ, zero, suc, ◌<◌, List, [], ◌∷◌, ◌++◌, length, length-append, get_or, Some, None, refl, sym, ap, ◌∙◌, subst, arith}
use Rattle.std.specs.Prelude.{All, Vec, slice_get}
use Rattle.std.proofs.lemmas.Option.{get_or_from_slice_get, slice_get_within}
use Rattle.turn_lock.proofs.Places.{each_push, there}
use Rattle.lane_sessions.specs.Rows.{Along, AreRows, Gain}

in_some : {A : Type 0} {x y : A} → Some x ≡ Some y → x ≡ y
in_some e = cc

none_some : {A : Type 0} {x : A} → None ≡ Some x → ⊥
none_some e = cc

pub get_front : {A : Type 0} (xs ys : List A) (k : ℕ) → k < length xs → slice_get (xs ++ ys) k ≡ slice_get xs k
get_front [] ys k h = absurd (omega (arith, h))
get_front (x ∷ xs) ys zero h = refl
get_front (x ∷ xs) ys (suc k) h = get_front xs ys k (omega (arith, h))

get_last : {A : Type 0} (xs : List A) (x : A) → slice_get (xs ++ x ∷ []) (length xs) ≡ Some x
get_last [] x = refl
get_last (y ∷ ys) x = get_last ys x

-- no place
pub along_none : {A B : Type 0} (P : A → B → Type 0) → Along P [] []
along_none P = record { count = refl; each = λ j a d e. absurd (none_some e) }

-- one place more
pub along_push : {A B : Type 0} (P : A → B → Type 0) (places : List A) (xs : List B) (a : A) (x : B) → Along P places xs → P a x → Along P (places ++ a ∷ []) (xs ++ x ∷ [])
along_push {A} {B} P places xs a x along here = record {
  count = omega (arith, length-append xs (x ∷ []), length-append places (a ∷ []), along.count);
  each = λ j b d e.
      let lt : j < length (xs ++ x ∷ []) = omega (arith, slice_get_within (places ++ a ∷ []) j b e, length-append xs (x ∷ []), length-append places (a ∷ []), along.count) in
      each_push (λ k y. (b : A) → slice_get (places ++ a ∷ []) k ≡ Some b → P b y) xs x
      (λ k f h b e. along.each k b f (sym (get_front places (a ∷ []) k (omega (arith, h, along.count))) ∙ e))
      (λ b e. subst (λ z. P z x) (in_some (sym (ap (λ (k : ℕ). slice_get (places ++ a ∷ []) k) along.count ∙ get_last places a) ∙ e)) here)
      j d lt b e;
}

-- what is at a place, with what is along it
pub along_at : {A B : Type 0} (P : A → B → Type 0) (places : List A) (xs : List B) (j : ℕ) (a : A) (x : B) → Along P places xs → slice_get places j ≡ Some a → slice_get xs j ≡ Some x → P a x
along_at P places xs j a x along is at = subst (λ z. P a z) (get_or_from_slice_get xs j x x at) (along.each j a x is)

-- rows of no place
pub rows_none : {A B Z : Type 0} (P : ℕ → A → B → Type 0) (rows : List (Vec B Z)) → All (λ (row : Vec B Z). row.items ≡ []) rows → AreRows P [] rows
rows_none P rows empty i d h = subst (λ l. Along (P i) [] l) (sym (empty i d h)) (along_none (P i))

-- and of one place more
pub rows_push : {A B Z : Type 0} (P : ℕ → A → B → Type 0) (places : List A) (a : A) (rows rows' : List (Vec B Z)) (items : List B) → AreRows P places rows → Gain rows items rows' → length items ≡ length rows → ((i : ℕ) (e : B) → i < length items → P i a (get_or items i e))
    → AreRows P (places ++ a ∷ []) rows'
rows_push P places a rows rows' items are gain count new i d h =
    let lt : i < length rows = omega (arith, h, gain.same) in
    let within : i < length items = omega (arith, lt, count) in
    let e = there items i within in
    subst (λ l. Along (P i) (places ++ a ∷ []) l) (sym (gain.each i d e.0 lt)) (along_push (P i) places (get_or rows i d).items a (get_or items i e.0) (are i d lt) (new i e.0 within))
