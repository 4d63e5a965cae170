-- No two ranges of a table have one index, and a mapping's DPA range is of the region of its range.
use Rattle.std.proofs.Common.{◌≡◌, ◌≢◌, ℕ, zero, suc, ◌+◌, ◌-◌, ◌<◌, ◌≤◌, Bool, true, false, ◌&&◌, List, [], ◌∷◌, map, filter, length, get_or, Option, Some, None, refl, sym, ap, ◌∙◌, subst, arith, inl, inr}
use Rattle.std.specs.Prelude.{Contains, ◌==◌, ◌⊎◌, slice_get}
use Rattle.std.specs.List.{list_any, filter_map, position_from, AllByRecursion}
use Rattle.std.proofs.lemmas.Bool.{cases_Bool, eq-eqb, eqb-true, true≢false, or_parts}
use Rattle.std.proofs.lemmas.Option.{none-some}
use Rattle.nfit_reader.specs.declared.table.Region.{Region}
use Rattle.nfit_reader.specs.declared.structures.Structure.{Structure}
use Rattle.nfit_reader.specs.declared.structures.Structure.TheVariants as structure
use Rattle.nfit_reader.specs.declared.structures.Range.{Range}
use Rattle.nfit_reader.specs.Table.{as_range, name_of, twice_in, region_of, regions_of, is_region, ranges_of}

-- ---- lists

-- membership by recursion
abbrev pub In : {X : Type 0} → List X → X → Type 0
In [] x = ⊥
In (y ∷ ys) x = (y ≡ x) ⊎ In ys x

in_at : {X : Type 0} (xs : List X) (x : X) (k : ℕ) → k < length xs → get_or xs k x ≡ x → In xs x
in_at [] x k lt e = absurd (omega arith)
in_at (y ∷ ys) x zero lt e = inl e
in_at (y ∷ ys) x (suc k) lt e = inr (in_at ys x k (omega arith) e)

pub in_from : {X : Type 0} (xs : List X) (x : X) → Contains xs x → In xs x
in_from xs x c = in_at xs x c.0 c.1 c.2

pub in_filter : {X : Type 0} (test : X → Bool) (xs : List X) (x : X) → In (filter test xs) x → In xs x × (test x ≡ true)
in_filter test [] x i = absurd i
in_filter test (y ∷ ys) x i =
    elim (cases_Bool (test y)) [
      | inl it ↦
          let j = rw it at i in
          elim j [
            | inl same ↦ (inl same, subst (λ z. test z ≡ true) same it)
            | inr on ↦ (let more = in_filter test ys x on in (inr more.0, more.1))
          ]
      | inr not_it ↦ (let more = in_filter test ys x (rw not_it at i) in (inr more.0, more.1))
    ]

pub in_map : {X Y : Type 0} (f : X → Y) (xs : List X) (y : Y) → In (map f xs) y → (x : X) × In xs x × (f x ≡ y)
in_map f [] y i = absurd i
in_map f (x ∷ xs) y (inl same) = (x, inl refl, same)
in_map f (x ∷ xs) y (inr on) = let more = in_map f xs y on in (more.0, inr more.1, more.2)

filter_map_more : {X Y : Type 0} (f : X → Option Y) (z : X) (zs : List X) (y : Y) (o : Option Y) → f z ≡ o → In (filter_map f zs) y → In (filter_map f (z ∷ zs)) y
filter_map_more f z zs y None is rest = rw is rest
filter_map_more f z zs y (Some w) is rest = rw is (inr rest)

pub in_filter_map : {X Y : Type 0} (f : X → Option Y) (xs : List X) (x : X) (y : Y) → In xs x → f x ≡ Some y → In (filter_map f xs) y
in_filter_map f [] x y i e = absurd i
in_filter_map f (z ∷ zs) x y (inl same) e = rw (ap f same ∙ e) (inl refl)
in_filter_map f (z ∷ zs) x y (inr on) e = filter_map_more f z zs y (f z) refl (in_filter_map f zs x y on e)

pub in_get : {X : Type 0} (xs : List X) (i : ℕ) (x : X) → slice_get xs i ≡ Some x → In xs x
in_get [] i x e = absurd (none-some x e)
in_get (y ∷ ys) zero x e = inl (let e' = e in cc)
in_get (y ∷ ys) (suc i) x e = inr (in_get ys i x e)

-- ---- indexes

-- the index isn't one of these
abbrev pub IsNone : ℕ → List Range → Type 0
IsNone index ranges = AllByRecursion (λ (r : Range). index ≢ r.index) ranges

abbrev pub RangesApart : List Range → Type 0
RangesApart [] = Unit {0}
RangesApart (r ∷ rs) = IsNone r.index rs × RangesApart rs

unnamed : (index : ℕ) (structures : List Structure) → list_any (λ (other : ℕ × ℕ). (other.0 == 0) && (other.1 == index)) (filter_map name_of structures) ≡ false → IsNone index (filter_map as_range structures)
unnamed index [] e = tt
unnamed index (structure.Range r ∷ ss) e =
    let parts = or_parts ((0 == 0) && (r.index == index)) (list_any (λ (other : ℕ × ℕ). (other.0 == 0) && (other.1 == index)) (filter_map name_of ss)) e in
    (λ same. true≢false (sym (eq-eqb r.index index (sym same)) ∙ parts.0), unnamed index ss parts.1)
unnamed index (structure.Mapping m ∷ ss) e = unnamed index ss e
unnamed index (structure.Interleave i ∷ ss) e = unnamed index ss (or_parts ((2 == 0) && (i.index == index)) (list_any (λ (other : ℕ × ℕ). (other.0 == 0) && (other.1 == index)) (filter_map name_of ss)) e).1
unnamed index (structure.Control c ∷ ss) e = unnamed index ss (or_parts ((4 == 0) && (c.index == index)) (list_any (λ (other : ℕ × ℕ). (other.0 == 0) && (other.1 == index)) (filter_map name_of ss)) e).1
unnamed index (structure.PassedOver ∷ ss) e = unnamed index ss e

twice_parts : (n : ℕ × ℕ) (names : List (ℕ × ℕ)) → twice_in (n ∷ names) ≡ None → (list_any (λ (other : ℕ × ℕ). (other.0 == n.0) && (other.1 == n.1)) names ≡ false) × (twice_in names ≡ None)
unfolding twice_in
twice_parts n names e =
    elim (cases_Bool (list_any (λ (other : ℕ × ℕ). (other.0 == n.0) && (other.1 == n.1)) names)) [
      | inl it ↦ absurd (let e' = rw it at e in none-some _ (sym e'))
      | inr not_it ↦ (not_it, rw not_it at e)
    ]

-- no two ranges of a table have one index
pub ranges_apart : (structures : List Structure) → twice_in (filter_map name_of structures) ≡ None → RangesApart (filter_map as_range structures)
ranges_apart [] e = tt
ranges_apart (structure.Range r ∷ ss) e = let parts = twice_parts (0, r.index) (filter_map name_of ss) e in (unnamed r.index ss parts.0, ranges_apart ss parts.1)
ranges_apart (structure.Mapping m ∷ ss) e = ranges_apart ss e
ranges_apart (structure.Interleave i ∷ ss) e = ranges_apart ss (twice_parts (2, i.index) (filter_map name_of ss) e).1
ranges_apart (structure.Control c ∷ ss) e = ranges_apart ss (twice_parts (4, c.index) (filter_map name_of ss) e).1
ranges_apart (structure.PassedOver ∷ ss) e = ranges_apart ss e

none_filtered : (index : ℕ) (test : Range → Bool) (rs : List Range) → IsNone index rs → IsNone index (filter test rs)
none_filtered index test [] all = tt
none_filtered index test (r ∷ rs) (one, all) = elim (cases_Bool (test r)) [
  | inl it ↦ rw it (one, none_filtered index test rs all)
  | inr not_it ↦ rw not_it (none_filtered index test rs all)
]

apart_filtered : (test : Range → Bool) (rs : List Range) → RangesApart rs → RangesApart (filter test rs)
apart_filtered test [] all = tt
apart_filtered test (r ∷ rs) (one, all) = elim (cases_Bool (test r)) [
  | inl it ↦ rw it (none_filtered r.index test rs one, apart_filtered test rs all)
  | inr not_it ↦ rw not_it (apart_filtered test rs all)
]

none_at : (index : ℕ) (f : Range → Region) → ((r : Range) → (f r).index ≡ r.index) → (rs : List Range) → IsNone index rs → (i : ℕ) (s : Region) → slice_get (map f rs) i ≡ Some s → index ≢ s.index
none_at index f keeps [] all i s e same = absurd (none-some s e)
none_at index f keeps (r ∷ rs) (one, all) zero s e same = one (same ∙ sym (let e' = e in let k = keeps r in cc))
none_at index f keeps (r ∷ rs) (one, all) (suc i) s e same = none_at index f keeps rs all i s e same

-- regions of different numbers have different indexes
pub apart_at : (f : Range → Region) → ((r : Range) → (f r).index ≡ r.index) → (rs : List Range) → RangesApart rs → (i j : ℕ) (r s : Region) → slice_get (map f rs) i ≡ Some r → slice_get (map f rs) j ≡ Some s → i ≢ j → r.index ≢ s.index
apart_at f keeps [] apart i j r s e e' ne same = absurd (none-some r e)
apart_at f keeps (x ∷ xs) (one, apart) zero zero r s e e' ne same = ne refl
apart_at f keeps (x ∷ xs) (one, apart) zero (suc j) r s e e' ne same = none_at x.index f keeps xs one j s e' (sym (keeps x) ∙ (let g = e in cc) ∙ same)
apart_at f keeps (x ∷ xs) (one, apart) (suc i) zero r s e e' ne same = none_at x.index f keeps xs one i r e (sym (keeps x) ∙ (let g = e' in cc) ∙ sym same)
apart_at f keeps (x ∷ xs) (one, apart) (suc i) (suc j) r s e e' ne same = apart_at f keeps xs apart i j r s e e' (λ is. ne (ap (λ k. suc k) is)) same

pub regions_apart : (structures : List Structure) → twice_in (filter_map name_of structures) ≡ None → (i j : ℕ) (r s : Region) → slice_get (regions_of structures) i ≡ Some r → slice_get (regions_of structures) j ≡ Some s → i ≢ j → r.index ≢ s.index
unfolding regions_of region_of
regions_apart structures once i j r s e e' ne =
    apart_at (region_of structures) (λ x. refl) (filter (is_region structures) (ranges_of structures)) (apart_filtered (is_region structures) (ranges_of structures) (ranges_apart structures once)) i j r s e e' ne

-- ---- the first region of an index

-- a region with the index has a place
pub place_there : (index i : ℕ) (rs : List Region) (s : Region) → In rs s → s.index ≡ index → (p : ℕ) × (position_from (λ (r : Region). r.index == index) i rs ≡ Some p)
place_there index i [] s j e = absurd j
place_there index i (r ∷ rs) s j e =
    elim (cases_Bool (r.index == index)) [
      | inl it ↦ (i, rw it refl)
      | inr not_it ↦
          elim j [
            | inl same ↦ absurd (true≢false (sym (eq-eqb r.index index (ap (λ (x : Region). x.index) same ∙ e)) ∙ not_it))
            | inr on ↦ (let more = place_there index (i + 1) rs s on e in (more.0, rw not_it more.1))
          ]
    ]

-- the region at that place has the index
pub place_named : (index i p : ℕ) (rs : List Region) → position_from (λ (r : Region). r.index == index) i rs ≡ Some p → (i ≤ p) × ((s : Region) → slice_get rs (p - i) ≡ Some s → s.index ≡ index)
place_named index i p [] e = absurd (none-some p e)
place_named index i p (r ∷ rs) e =
    elim (cases_Bool (r.index == index)) [
      | inl it ↦
          let here : i ≡ p = (let e' = rw it at e in cc) in (
            omega (arith, here),
            λ s at_it. (let z : p - i ≡ zero = omega (arith, here) in let q : slice_get (r ∷ rs) zero ≡ Some s = subst (λ k. slice_get (r ∷ rs) k ≡ Some s) z at_it in let same : r ≡ s = (let q' = q in cc) in ap (λ (x : Region). x.index) (sym same) ∙ eqb-true r.index index it),
          )
      | inr not_it ↦
          let more = place_named index (i + 1) p rs (rw not_it at e) in (
            omega (arith, more.0),
            λ s at_it. (let z : p - i ≡ suc (p - (i + 1)) = omega (arith, more.0) in more.1 s (subst (λ k. slice_get (r ∷ rs) k ≡ Some s) z at_it)),
          )
    ]

pub place_inside : (index i p : ℕ) (rs : List Region) → position_from (λ (r : Region). r.index == index) i rs ≡ Some p → (s : Region) × (slice_get rs (p - i) ≡ Some s)
place_inside index i p [] e = absurd (none-some p e)
place_inside index i p (r ∷ rs) e =
    elim (cases_Bool (r.index == index)) [
      | inl it ↦
          let here : i ≡ p = (let e' = rw it at e in cc) in
          let z : zero ≡ p - i = omega (arith, here) in
          (r, subst (λ k. slice_get (r ∷ rs) k ≡ Some r) z refl)
      | inr not_it ↦
          let e' = rw not_it at e in
          let more = place_inside index (i + 1) p rs e' in
          let z : suc (p - (i + 1)) ≡ p - i = omega (arith, (place_named index (i + 1) p rs e').0) in
          (more.0, subst (λ k. slice_get (r ∷ rs) k ≡ Some more.0) z more.1)
    ]

-- places of two indexes differ
pub places_differ : (index other p q : ℕ) (rs : List Region) → position_from (λ (r : Region). r.index == index) 0 rs ≡ Some p → position_from (λ (r : Region). r.index == other) 0 rs ≡ Some q → index ≢ other → p ≢ q
places_differ index other p q rs e e' ne same =
    let there = place_inside index 0 p rs e in
    ne (sym ((place_named index 0 p rs e).1 there.0 there.1) ∙ (place_named other 0 q rs e').1 there.0 (subst (λ k. slice_get rs (k - 0) ≡ Some there.0) same there.1))
