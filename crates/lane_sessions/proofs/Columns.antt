-- Columns of rows, and lists that are maps of others.
use Rattle.std.proofs.Common.{◌≡◌, ◌≢◌, ◌⊎◌, inl, inr, ℕ, zero, suc, ◌+◌, ◌<◌, ◌≤◌, List, [], ◌∷◌, ◌++◌, length, length-append, get_or, map, set, Option, Some, None, refl, sym, ap, ◌∙◌, subst, arith}
use Rattle.std.specs.Prelude.{All, Any, Vec, slice_get}
use Rattle.std.proofs.Math.ListN.{get_or-append}
use Rattle.std.proofs.Math.Seq.{get_or-append_seam}
use mathlib.Core.Option.{none, some}
use Rattle.lane_core.proofs.Put.{same_or_not}
use lib.ListN.{get_elem?}
use Rattle.lane_pool.specs.declared.sets.LaneSet.{LaneSet}
use Rattle.lane_calls.specs.declared.session.Session.{Session}
use Rattle.lane_calls.specs.Sessions.{end_at, pass_at}
use Rattle.lane_sessions.specs.Ending.{AreWide, LoseLast, column, there}

none_get : {A B : Type 0} {x : A} → None ≡ Some x → B
none_get e = absurd (cc)

none_some : {A B : Type 0} {x : A} → none ≡ some x → B
none_some e = absurd (cc)

-- ---- elements

pub get_some : {A : Type 0} (xs : List A) (i : ℕ) → i < length xs → (x : A) × (slice_get xs i ≡ Some x)
get_some [] i h = absurd (omega (arith, h))
get_some (x ∷ xs) zero h = (x, refl)
get_some (x ∷ xs) (suc i) h = get_some xs i (omega (arith, h))

pub get_front : {A : Type 0} (xs ys : List A) (i : ℕ) (x : A) → slice_get xs i ≡ Some x → slice_get (xs ++ ys) i ≡ Some x
get_front [] ys i x e = none_get e
get_front (y ∷ xs) ys zero x e = e
get_front (y ∷ xs) ys (suc i) x e = get_front xs ys i x e

-- of a list with one more at its end
pub get_push : {A : Type 0} (xs : List A) (y : A) (i : ℕ) (x : A) → slice_get (xs ++ y ∷ []) i ≡ Some x → (slice_get xs i ≡ Some x) ⊎ ((i ≡ length xs) × (y ≡ x))
get_push [] y zero x e = inr (refl, cc)
get_push [] y (suc i) x e = none_get e
get_push (z ∷ xs) y zero x e = inl e
get_push (z ∷ xs) y (suc i) x e = elim (get_push xs y i x e) [
  | inl f ↦ inl f
  | inr f ↦ inr (ap suc f.0, f.1)
]

pub as_elem : {A : Type 0} (xs : List A) (i : ℕ) (x : A) → slice_get xs i ≡ Some x → get_elem? xs i ≡ some x
as_elem [] i x e = none_get e
as_elem (y ∷ xs) zero x e = cc
as_elem (y ∷ xs) (suc i) x e = as_elem xs i x e

pub as_get : {A : Type 0} (xs : List A) (i : ℕ) (x : A) → get_elem? xs i ≡ some x → slice_get xs i ≡ Some x
as_get [] i x e = none_some e
as_get (y ∷ xs) zero x e = cc
as_get (y ∷ xs) (suc i) x e = as_get xs i x e

pub get_is : {A : Type 0} (xs : List A) (i : ℕ) (x d : A) → slice_get xs i ≡ Some x → (i < length xs) × (get_or xs i d ≡ x)
get_is [] i x d e = none_get e
get_is (y ∷ xs) zero x d e = (omega arith, cc)
get_is (y ∷ xs) (suc i) x d e = let r = get_is xs i x d e in let h = r.0 in (omega (arith, h), r.1)

-- an element of one list behind another
pub elem_split : {A : Type 0} (xs ys : List A) (i : ℕ) (x : A) → get_elem? (xs ++ ys) i ≡ some x → (get_elem? xs i ≡ some x) ⊎ ((k : ℕ) × (i ≡ length xs + k) × (get_elem? ys k ≡ some x))
elem_split [] ys i x e = inr (i, omega arith, e)
elem_split (y ∷ xs) ys zero x e = inl e
elem_split (y ∷ xs) ys (suc i) x e = elim (elem_split xs ys i x e) [
  | inl f ↦ inl f
  | inr f ↦ inr (f.0, (let h = f.1 in omega (arith, h)), f.2)
]

-- ---- maps

pub map_get : {A B : Type 0} (f : A → B) (xs : List A) (i : ℕ) (x : A) (d : B) → slice_get xs i ≡ Some x → get_or (map f xs) i d ≡ f x
map_get f [] i x d e = none_get e
map_get f (y ∷ xs) zero x d e = let same : y ≡ x = cc in ap f same
map_get f (y ∷ xs) (suc i) x d e = map_get f xs i x d e

pub all_map : {A B : Type 0} (P : B → Type 0) (f : A → B) (xs : List A) → ((i : ℕ) (x : A) → slice_get xs i ≡ Some x → P (f x)) → All P (map f xs)
all_map P f [] h i d lt = absurd (omega (arith, lt))
all_map P f (x ∷ xs) h zero d lt = h zero x refl
all_map P f (x ∷ xs) h (suc i) d lt = all_map P f xs (λ k y e. h (suc k) y e) i d (omega (arith, lt))

pub of_all_map : {A B : Type 0} (P : B → Type 0) (f : A → B) (xs : List A) → All P (map f xs) → (i : ℕ) (x : A) → slice_get xs i ≡ Some x → P (f x)
of_all_map P f [] h i x e = none_get e
of_all_map P f (y ∷ xs) h zero x e = let same : y ≡ x = cc in subst (λ z. P (f z)) same (h zero (f y) (omega arith))
of_all_map P f (y ∷ xs) h (suc i) x e = of_all_map P f xs (λ k d lt. h (suc k) d (omega (arith, lt))) i x e

pub any_map : {A B : Type 0} (P : B → Type 0) (f : A → B) (xs : List A) → Any P (map f xs) → (i : ℕ) × (x : A) × (slice_get xs i ≡ Some x) × P (f x)
any_map P f [] (i, y, lt, is, p) = absurd (omega (arith, lt))
any_map P f (x ∷ xs) (zero, y, lt, is, p) = (zero, x, refl, subst P (sym is) p)
any_map P f (x ∷ xs) (suc i, y, lt, is, p) = let r = any_map P f xs (i, y, omega (arith, lt), is, p) in (suc r.0, r.1, r.2, r.3)

pub any_at : {A : Type 0} (P : A → Type 0) (xs : List A) (i : ℕ) (x : A) → slice_get xs i ≡ Some x → P x → Any P xs
any_at P xs i x e p = let r = get_is xs i x x e in (i, x, r.0, r.1, p)

pub all_of : {A : Type 0} (P : A → Type 0) (xs : List A) → ((i : ℕ) (x : A) → slice_get xs i ≡ Some x → P x) → All P xs
all_of P [] h i d lt = absurd (omega (arith, lt))
all_of P (x ∷ xs) h zero d lt = h zero x refl
all_of P (x ∷ xs) h (suc i) d lt = all_of P xs (λ k y e. h (suc k) y e) i d (omega (arith, lt))

-- ---- those that are there

module _ {A B : Type 0} (f : A → Option B) where
  there_cons : (x : A) (xs : List A) (y : B) → f x ≡ Some y → there (map f (x ∷ xs)) ≡ y ∷ there (map f xs)
  there_cons x xs y e = ap (λ o. there (o ∷ map f xs)) e

  pub there_at : (xs : List A) → ((i : ℕ) (x : A) → slice_get xs i ≡ Some x → (y : B) × (f x ≡ Some y)) → (i : ℕ) (x : A) (y : B) → slice_get xs i ≡ Some x → f x ≡ Some y → get_elem? (there (map f xs)) i ≡ some y
  there_at [] all i x y e is = none_get e
  there_at (z ∷ xs) all zero x y e is = ap (λ l. get_elem? l 0) (there_cons z xs y (let same : z ≡ x = cc in ap f same ∙ is))
  there_at (z ∷ xs) all (suc i) x y e is =
      let first = all zero z refl in
      ap (λ l. get_elem? l (suc i)) (there_cons z xs first.0 first.1) ∙ there_at xs (λ k w. all (suc k) w) i x y e is

  pub there_of : (xs : List A) → ((i : ℕ) (x : A) → slice_get xs i ≡ Some x → (y : B) × (f x ≡ Some y)) → (i : ℕ) (y : B) → get_elem? (there (map f xs)) i ≡ some y → (x : A) × (slice_get xs i ≡ Some x) × (f x ≡ Some y)
  there_of [] all i y e = none_some e
  there_of (z ∷ xs) all zero y e =
      let first = all zero z refl in
      let same : some first.0 ≡ some y = sym (ap (λ l. get_elem? l 0) (there_cons z xs first.0 first.1)) ∙ e in
      let is : first.0 ≡ y = cc in
      (z, refl, first.1 ∙ ap (λ v. Some v) is)
  there_of (z ∷ xs) all (suc i) y e =
      let first = all zero z refl in
      there_of xs (λ k w. all (suc k) w) i y (sym (ap (λ l. get_elem? l (suc i)) (there_cons z xs first.0 first.1)) ∙ e)

  pub there_count : (xs : List A) → ((i : ℕ) (x : A) → slice_get xs i ≡ Some x → (y : B) × (f x ≡ Some y)) → length (there (map f xs)) ≡ length xs
  there_count [] all = refl
  there_count (z ∷ xs) all =
      let first = all zero z refl in
      ap length (there_cons z xs first.0 first.1) ∙ ap suc (there_count xs (λ k w. all (suc k) w))

pub there_push : {A : Type 0} (xs : List (Option A)) (o : Option A) → there (xs ++ o ∷ []) ≡ there xs ++ there (o ∷ [])
there_push [] o = refl
there_push (None ∷ xs) o = there_push xs o
there_push (Some x ∷ xs) o = ap (λ l. x ∷ l) (there_push xs o)

-- ---- columns

pub ends_column : (j : ℕ) (sets : List LaneSet) → column j (map (λ s. s.ends) sets) ≡ map (λ s. end_at s j) sets
ends_column j [] = refl
ends_column j (s ∷ sets) = ap (λ l. end_at s j ∷ l) (ends_column j sets)

pub passes_column : (j : ℕ) (sessions : List Session) → column j (map (λ s. s.passes) sessions) ≡ map (λ s. pass_at s j) sessions
passes_column j [] = refl
passes_column j (s ∷ sessions) = ap (λ l. pass_at s j ∷ l) (passes_column j sessions)

-- ---- an element is replaced

set_at : {B : Type 0} (xs : List B) (i : ℕ) (x d : B) → i < length xs → get_or (set xs i x) i d ≡ x
set_at [] i x d h = absurd (omega (arith, h))
set_at (y ∷ xs) zero x d h = refl
set_at (y ∷ xs) (suc i) x d h = set_at xs i x d (omega (arith, h))

set_other : {B : Type 0} (xs : List B) (i k : ℕ) (x d : B) → k ≢ i → get_or (set xs i x) k d ≡ get_or xs k d
set_other [] i k x d ne = refl
set_other (y ∷ xs) zero zero x d ne = absurd (ne refl)
set_other (y ∷ xs) zero (suc k) x d ne = refl
set_other (y ∷ xs) (suc i) zero x d ne = refl
set_other (y ∷ xs) (suc i) (suc k) x d ne = set_other xs i k x d (λ e. ne (ap suc e))

default_of : {B : Type 0} (xs : List B) (i : ℕ) (d e : B) → i < length xs → get_or xs i d ≡ get_or xs i e
default_of [] i d e h = absurd (omega (arith, h))
default_of (y ∷ ys) zero d e h = refl
default_of (y ∷ ys) (suc i) d e h = default_of ys i d e (omega (arith, h))

-- ---- a column goes

module _ {A Z : Type 0} where
  -- the columns before it stay
  pub columns_stay : (j : ℕ) (rows rows' : List (Vec (Option A) Z)) (last : List (Option A)) → length rows' ≡ length rows → LoseLast rows last rows' → AreWide (suc j) rows → (k : ℕ) → k < j → column k rows ≡ column k rows'
  columns_stay j [] [] last count lose wide k lt = refl
  columns_stay j [] (r' ∷ rows') last count lose wide k lt = absurd (omega (arith, count))
  columns_stay j (r ∷ rows) [] last count lose wide k lt = absurd (omega (arith, count))
  columns_stay j (r ∷ rows) (r' ∷ rows') last count lose wide k lt =
      let is : r.items ≡ r'.items ++ get_or last 0 None ∷ [] = lose 0 r None (omega arith) in
      let long : length r.items ≡ suc j = wide 0 r (omega arith) in
      let long' = ap length is in
      let e : get_or r.items k None ≡ get_or r'.items k None = ap (λ l. get_or l k None) is ∙ get_or-append r'.items (get_or last 0 None ∷ []) None k (omega (arith, long, long', lt, length-append r'.items (get_or last 0 None ∷ []))) in
      ap (λ o. o ∷ column k rows) e ∙ ap (λ l. get_or r'.items k None ∷ l) (columns_stay j rows rows' (drop_first last) (omega (arith, count)) (λ i d o h. lose (suc i) d o (omega (arith, h)) ∙ ap (λ x. (get_or rows' i d).items ++ x ∷ []) (drop_at last i o)) (λ i d h. wide (suc i) d (omega (arith, h))) k lt)
    where
      drop_first : List (Option A) → List (Option A)
      drop_first [] = []
      drop_first (x ∷ xs) = xs

      drop_at : (xs : List (Option A)) (i : ℕ) (o : Option A) → get_or xs (suc i) o ≡ get_or (drop_first xs) i o
      drop_at [] i o = refl
      drop_at (x ∷ xs) i o = refl

  -- and it is the column
  pub last_column : (j : ℕ) (rows rows' : List (Vec (Option A) Z)) (last : List (Option A)) → length rows' ≡ length rows → length last ≡ length rows → LoseLast rows last rows' → AreWide (suc j) rows → column j rows ≡ last
  last_column j [] rows' [] count many lose wide = refl
  last_column j [] rows' (x ∷ last) count many lose wide = absurd (omega (arith, many))
  last_column j (r ∷ rows) rows' [] count many lose wide = absurd (omega (arith, many))
  last_column j (r ∷ rows) [] (x ∷ last) count many lose wide = absurd (omega (arith, count))
  last_column j (r ∷ rows) (r' ∷ rows') (x ∷ last) count many lose wide =
      let is : r.items ≡ r'.items ++ x ∷ [] = lose 0 r None (omega arith) in
      let long : length r.items ≡ suc j = wide 0 r (omega arith) in
      let long' = ap length is in
      let place : length r'.items ≡ j = omega (arith, long, long', length-append r'.items (x ∷ [])) in
      let e : get_or r.items j None ≡ x = ap (λ l. get_or l j None) is ∙ ap (λ (n : ℕ). get_or (r'.items ++ x ∷ []) n None) (sym place) ∙ get_or-append_seam r'.items x [] None in
      ap (λ o. o ∷ column j rows) e ∙ ap (λ l. x ∷ l) (last_column j rows rows' last (omega (arith, count)) (omega (arith, many)) (λ i d o h. lose (suc i) d o (omega (arith, h))) (λ i d h. wide (suc i) d (omega (arith, h))))

  pub wide_front : (j : ℕ) (rows rows' : List (Vec (Option A) Z)) (last : List (Option A)) → length rows' ≡ length rows → LoseLast rows last rows' → AreWide (suc j) rows → AreWide j rows'
  wide_front j [] [] last count lose wide i d h = absurd (omega (arith, h))
  wide_front j [] (r' ∷ rows') last count lose wide i d h = absurd (omega (arith, count))
  wide_front j (r ∷ rows) rows' last count lose wide i d h =
      let lt : i < length (r ∷ rows) = omega (arith, h, count) in
      let w = wide i r lt in
      let same : get_or rows' i r ≡ get_or rows' i d = default_of rows' i r d h in
      let e = ap length (lose i r None lt) in
      ap (λ v. length v.items) (sym same) ∙ omega (arith, w, e, length-append (get_or rows' i r).items (get_or last i None ∷ []))

  -- ---- one row more has lost its last

  module _ (first rows : List (Vec (Option A) Z)) (last last' : List (Option A)) (n : ℕ) (old row : Vec (Option A) Z) (x : Option A) (same : length rows ≡ length first) (count : length last ≡ n) (inside : n < length rows)
      (before : (i : ℕ) (d : Vec (Option A) Z) → n ≤ i → get_or rows i d ≡ get_or first i d) (after : (i : ℕ) (d : Vec (Option A) Z) (e : Option A) → i < n → (get_or first i d).items ≡ (get_or rows i d).items ++ get_or last i e ∷ [])
      (popped : (get_or rows n old).items ≡ row.items ++ x ∷ []) (pushed : last' ≡ last ++ x ∷ []) where
    pub count_more : length last' ≡ n + 1
    count_more = (let m = ap length pushed in omega (arith, m, count, length-append last (x ∷ [])))

    pub before_more : (i : ℕ) (d : Vec (Option A) Z) → n + 1 ≤ i → get_or (set rows n row) i d ≡ get_or first i d
    before_more i d h = set_other rows n i row d (λ e. omega (arith, h, e)) ∙ before i d (omega (arith, h))

    pub after_more : (i : ℕ) (d : Vec (Option A) Z) (e : Option A) → i < n + 1 → (get_or first i d).items ≡ (get_or (set rows n row) i d).items ++ get_or last' i e ∷ []
    after_more i d e h = by (same_or_not i n) ∙ ap (λ l. (get_or (set rows n row) i d).items ++ get_or l i e ∷ []) (sym pushed)
      where
        by : (i ≡ n) ⊎ (i ≢ n) → (get_or first i d).items ≡ (get_or (set rows n row) i d).items ++ get_or (last ++ x ∷ []) i e ∷ []
        by (inl at) =
            let f : get_or first i d ≡ get_or rows n old = sym (before i d (omega (arith, at))) ∙ ap (λ (k : ℕ). get_or rows k d) at ∙ default_of rows n d old inside in
            let r : get_or (set rows n row) i d ≡ row = ap (λ (k : ℕ). get_or (set rows n row) k d) at ∙ set_at rows n row d inside in
            let l : get_or (last ++ x ∷ []) i e ≡ x = ap (λ (k : ℕ). get_or (last ++ x ∷ []) k e) (at ∙ sym count) ∙ get_or-append_seam last x [] e in
            ap (λ v. v.items) f ∙ popped ∙ ap (λ v. v.items ++ x ∷ []) (sym r) ∙ ap (λ o. (get_or (set rows n row) i d).items ++ o ∷ []) (sym l)
        by (inr other) =
            let lt : i < n = omega (arith, h, other) in
            let r : get_or (set rows n row) i d ≡ get_or rows i d = set_other rows n i row d other in
            let l : get_or (last ++ x ∷ []) i e ≡ get_or last i e = get_or-append last (x ∷ []) e i (omega (arith, lt, count)) in
            after i d e lt ∙ ap (λ v. v.items ++ get_or last i e ∷ []) (sym r) ∙ ap (λ o. (get_or (set rows n row) i d).items ++ o ∷ []) (sym l)
