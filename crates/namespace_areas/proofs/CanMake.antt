-- Lists of changes of which each can be made when its turn comes.
use Rattle.std.proofs.Common.{◌≡◌, ◌≢◌, ℕ, ◌+◌, ◌<◌, ◌≤◌, Bool, true, false, cond, List, [], ◌∷◌, ◌++◌, length, Option, Some, None, refl, sym, ap, ◌∙◌, subst, arith, inl, inr}
use Rattle.std.proofs.Math.ListN.{set, length-set}
use Rattle.std.specs.Prelude.{IsSome}
use Rattle.std.specs.List.{AllByRecursion}
use Rattle.std.proofs.lemmas.Bool.{false≢true, cases_eq, cases_lt}
use Rattle.std.proofs.lemmas.Option.{unwrap_or-slice_get}
use Rattle.std.proofs.lemmas.Slice.Eq.{bytes_eq-Decides}
use Rattle.std.proofs.lemmas.List.{get_or_past, get_or-set_same, get_or-set_other}
use Rattle.std.proofs.lemmas.List.Sums.{sum_by-set}
use Rattle.std.proofs.lemmas.List.Quantifiers.{position-Some}
use Rattle.region_space.proofs.Clashes.{position_none}
use Rattle.label_codec.specs.declared.label.Label.{Label}
use Rattle.label_area.specs.Area.{SlotState}
use Rattle.namespace_map.specs.Areas.{Area as SeenArea, Change, slots_of, slots_on, free_in, is_free, has_uuid, slot_of, area_at, changed_area, changed_areas, all_changed, replaced}
use Rattle.namespace_map.proofs.Slots.{slot, first_free, has_it}
use Rattle.namespace_map.proofs.Areas.{slots_of_changed, area_of_other}
use Rattle.namespace_areas.specs.Went.{HasRoom, CanMake}

abbrev Seens : Type 0
Seens = List (Option SeenArea)

-- ---- areas that are ready

pub below_some : (areas : Seens) (m : ℕ) → IsSome (area_at areas m) → m < length areas
below_some areas m some = elim (cases_lt m (length areas)) [
  | inl lt ↦ lt
  | inr past ↦ absurd (false≢true (subst (λ (o : Option SeenArea). IsSome o) (unwrap_or-slice_get areas m None ∙ get_or_past areas m None past) some))
]

some_then : (o : Option SeenArea) (c : Change) → IsSome o → IsSome (changed_area o c)
some_then None c some = some
some_then (Some a) c some = refl

-- a change keeps them ready
pub ready_kept : (areas : Seens) (c : Change) (m : ℕ) → IsSome (area_at areas m) → IsSome (area_at (changed_areas areas c) m)
ready_kept areas c m some = elim (cases_eq m c.number) [
  | inl same ↦
      let some' : IsSome (area_at areas c.number) = subst (λ (k : ℕ). IsSome (area_at areas k)) same some in
      let here : area_at (changed_areas areas c) c.number ≡ changed_area (area_at areas c.number) c =
      unwrap_or-slice_get (changed_areas areas c) c.number None ∙ get_or-set_same areas c.number (changed_area (area_at areas c.number) c) None (below_some areas c.number some') in
      subst (λ (k : ℕ). IsSome (area_at (changed_areas areas c) k)) (sym same) (subst (λ (o : Option SeenArea). IsSome o) (sym here) (some_then (area_at areas c.number) c some'))
  | inr apart ↦ subst (λ (o : Option SeenArea). IsSome o) (sym (area_of_other areas c m apart)) some
]

pub ready_all : (cs : List Change) (areas : Seens) (m : ℕ) → IsSome (area_at areas m) → IsSome (area_at (all_changed areas cs) m)
unfolding all_changed
ready_all [] areas m some = some
ready_all (c ∷ cs) areas m some = ready_all cs (changed_areas areas c) m (ready_kept areas c m some)

-- ---- lists one after another

pub can_both : (xs ys : List Change) (areas : Seens) → CanMake areas xs → CanMake (all_changed areas xs) ys → CanMake areas (xs ++ ys)
unfolding all_changed
can_both [] ys areas can more = more
can_both (x ∷ xs) ys areas (ready, room, can) more = (ready, room, can_both xs ys (changed_areas areas x) can more)

-- ---- removals

-- no label comes, on a module that is ready
abbrev pub IsRemoval : Seens → Change → Type 0
IsRemoval areas c = (c.label ≡ None) × IsSome (area_at areas c.number)

still_removals : (areas : Seens) (c : Change) (cs : List Change) → AllByRecursion (IsRemoval areas) cs → AllByRecursion (IsRemoval (changed_areas areas c)) cs
still_removals areas c [] all = tt
still_removals areas c (d ∷ ds) ((none, ready), rest) = ((none, ready_kept areas c d.number ready), still_removals areas c ds rest)

pub can_remove : (cs : List Change) (areas : Seens) → AllByRecursion (IsRemoval areas) cs → CanMake areas cs
can_remove [] areas all = tt
can_remove (c ∷ cs) areas ((none, ready), rest) =
    (ready, subst (HasRoom (area_at areas c.number)) (sym none) tt, can_remove cs (changed_areas areas c) (still_removals areas c cs rest))

-- ---- labels that are put over others

-- a module has a label of a UUID
abbrev pub HasLabel : Seens → ℕ → List ℕ → Type 0
HasLabel areas m uuid = (j : ℕ) × (has_uuid uuid (slot (slots_on areas m) j) ≡ true)

-- a label comes for one of its UUID, and a slot is free for it
pub record Fits (areas : Seens) (c : Change) : Type 0 where
  pub puts : (l : Label) × (c.label ≡ Some l) × (l.uuid ≡ c.uuid)
  pub there : HasLabel areas c.number c.uuid
  pub room : 1 ≤ free_in (slots_on areas c.number)

one_uuid : (x : SlotState) (u v : List ℕ) → has_uuid u x ≡ true → has_uuid v x ≡ true → u ≡ v
one_uuid None u v e f = absurd (false≢true e)
one_uuid (Some None) u v e f = absurd (false≢true e)
one_uuid (Some (Some l)) u v e f = sym ((bytes_eq-Decides l.uuid u).0 e) ∙ (bytes_eq-Decides l.uuid v).0 f

used_if : (x : SlotState) (u : List ℕ) → has_uuid u x ≡ true → is_free x ≡ false
used_if None u e = absurd (false≢true e)
used_if (Some x) u e = refl

abbrev one_if : Bool → ℕ
one_if b = cond b 1 0

module _ (slots : List SlotState) (u : List ℕ) (l : Label) (of : l.uuid ≡ u) (there : (j : ℕ) × (has_uuid u (slot slots j) ≡ true)) (room : 1 ≤ free_in slots) where
  found_at : (o : Option ℕ) → slot_of slots u ≡ o → (s : ℕ) × (slot_of slots u ≡ Some s) × (s < length slots) × (has_uuid u (slot slots s) ≡ true)
  found_at (Some s) e = let h = position-Some (has_uuid u) slots s None e in (s, e, h.0, h.1)
  found_at None e =
      let below : there.0 < length slots = elim (cases_lt there.0 (length slots)) [
        | inl lt ↦ lt
        | inr past ↦ absurd (false≢true (sym (ap (has_uuid u) (get_or_past slots there.0 None past)) ∙ there.1))
      ] in
      absurd (false≢true (sym (position_none (has_uuid u) slots e there.0 None below) ∙ there.1))

  found : (s : ℕ) × (slot_of slots u ≡ Some s) × (s < length slots) × (has_uuid u (slot slots s) ≡ true)
  found = found_at (slot_of slots u) refl

  abbrev then : List SlotState
  then = replaced (slot_of slots u) (Some l) slots

  pub free_is : free_in then ≡ free_in slots
  free_is =
      let (s, at, below, has) = found in
      let (f, (below_f, first, empty)) = first_free slots room in
      let x : SlotState = Some (Some (record l { slot = f })) in
      let apart : s ≢ f = λ same. false≢true (sym (ap (has_uuid u) (ap (slot slots) same ∙ empty)) ∙ has) in
      let a : free_in (set slots f x) + one_if (is_free (slot slots f)) ≡ free_in slots + one_if (is_free x) = sum_by-set (λ y. one_if (is_free y)) slots f x None below_f in
      let b : free_in (set (set slots f x) s None) + one_if (is_free (slot (set slots f x) s)) ≡ free_in (set slots f x) + 1 =
      sum_by-set (λ y. one_if (is_free y)) (set slots f x) s None None (omega (arith, length-set slots f x)) in
      let e : one_if (is_free (slot slots f)) ≡ 1 = ap (λ (y : SlotState). one_if (is_free y)) empty in
      let g : one_if (is_free (slot (set slots f x) s)) ≡ 0 = ap (λ (y : SlotState). one_if (is_free y)) (get_or-set_other slots f s x None apart) ∙ ap one_if (used_if (slot slots s) u has) in
      let is : then ≡ set (set slots f x) s None = rw (at, first) refl in
      ap free_in is ∙ omega (arith, a, b, e, g)

  pub label_kept : (v : List ℕ) → (j : ℕ) × (has_uuid v (slot slots j) ≡ true) → (j : ℕ) × (has_uuid v (slot then j) ≡ true)
  label_kept v (j, has_v) =
      let (s, at, below, has) = found in
      let (f, (below_f, first, empty)) = first_free slots room in
      let x : SlotState = Some (Some (record l { slot = f })) in
      let is : then ≡ set (set slots f x) s None = rw (at, first) refl in
      let apart : f ≢ s = λ same. false≢true (sym (ap (has_uuid u) (sym (ap (slot slots) same) ∙ empty)) ∙ has) in
      let used : j ≢ f = λ same. false≢true (sym (ap (has_uuid v) (ap (slot slots) same ∙ empty)) ∙ has_v) in
      elim (cases_eq j s) [
        | inl same ↦
            let uv : u ≡ v = one_uuid (slot slots s) u v has (subst (λ (k : ℕ). has_uuid v (slot slots k) ≡ true) same has_v) in
            let here : slot then f ≡ x = ap (λ (ys : List SlotState). slot ys f) is ∙ get_or-set_other (set slots f x) s f None None apart ∙ get_or-set_same slots f x None below_f in
            (f, ap (has_uuid v) here ∙ subst (λ (w : List ℕ). has_uuid w x ≡ true) uv (has_it u l f of))
        | inr other ↦
            let here : slot then j ≡ slot slots j = ap (λ (ys : List SlotState). slot ys j) is ∙ get_or-set_other (set slots f x) s j None None other ∙ get_or-set_other slots f j x None used in
            (j, ap (has_uuid v) here ∙ has_v)
      ]

some_slots : (o : Option SeenArea) → 1 ≤ free_in (slots_of o) → IsSome o
some_slots None room = absurd (omega arith)
some_slots (Some a) room = refl

pub fits_ready : (areas : Seens) (c : Change) → Fits areas c → IsSome (area_at areas c.number)
fits_ready areas c fits = some_slots (area_at areas c.number) fits.room

module _ (areas : Seens) (c : Change) (fits : Fits areas c) where
  here : slots_on (changed_areas areas c) c.number ≡ replaced (slot_of (slots_on areas c.number) c.uuid) (Some fits.puts.0) (slots_on areas c.number)
  here =
      slots_of_changed areas c (below_some areas c.number (fits_ready areas c fits))
      ∙ ap (λ (o : Option Label). replaced (slot_of (slots_on areas c.number) c.uuid) o (slots_on areas c.number)) fits.puts.1

  -- as many slots are free as before
  pub fits_free : (m : ℕ) → free_in (slots_on (changed_areas areas c) m) ≡ free_in (slots_on areas m)
  fits_free m = elim (cases_eq m c.number) [
    | inl same ↦
        subst (λ (k : ℕ). free_in (slots_on (changed_areas areas c) k) ≡ free_in (slots_on areas k)) (sym same)
        (ap free_in here ∙ free_is (slots_on areas c.number) c.uuid fits.puts.0 fits.puts.2 fits.there fits.room)
    | inr apart ↦ ap (λ (o : Option SeenArea). free_in (slots_of o)) (area_of_other areas c m apart)
  ]

  -- and modules have labels of the UUIDs of which they had some
  pub fits_label : (m : ℕ) (v : List ℕ) → HasLabel areas m v → HasLabel (changed_areas areas c) m v
  fits_label m v has = elim (cases_eq m c.number) [
    | inl same ↦
        subst (λ (k : ℕ). HasLabel (changed_areas areas c) k v) (sym same)
        (subst (λ (ys : List SlotState). (j : ℕ) × (has_uuid v (slot ys j) ≡ true)) (sym here)
        (label_kept (slots_on areas c.number) c.uuid fits.puts.0 fits.puts.2 fits.there fits.room v (subst (λ (k : ℕ). HasLabel areas k v) same has)))
    | inr apart ↦ subst (λ (o : Option SeenArea). (j : ℕ) × (has_uuid v (slot (slots_of o) j) ≡ true)) (sym (area_of_other areas c m apart)) has
  ]

  pub fits_kept : (d : Change) → Fits areas d → Fits (changed_areas areas c) d
  fits_kept d h = record { puts = h.puts; there = fits_label d.number d.uuid h.there; room = subst (λ (n : ℕ). 1 ≤ n) (sym (fits_free d.number)) h.room }

  pub still_fit : (ds : List Change) → AllByRecursion (Fits areas) ds → AllByRecursion (Fits (changed_areas areas c)) ds
  still_fit [] all = tt
  still_fit (d ∷ ds) (one, rest) = (fits_kept d one, still_fit ds rest)

pub can_put : (cs : List Change) (areas : Seens) → AllByRecursion (Fits areas) cs → CanMake areas cs
can_put [] areas all = tt
can_put (c ∷ cs) areas (one, rest) =
    let room : HasRoom (area_at areas c.number) c.label = subst (HasRoom (area_at areas c.number)) (sym one.puts.1) one.room in
    (fits_ready areas c one, room, can_put cs (changed_areas areas c) (still_fit areas c one cs rest))

-- what fits, fits after others that fit
pub fits_after : (cs : List Change) (areas : Seens) (d : Change) → AllByRecursion (Fits areas) cs → Fits areas d → Fits (all_changed areas cs) d
unfolding all_changed
fits_after [] areas d all h = h
fits_after (c ∷ cs) areas d (one, rest) h = fits_after cs (changed_areas areas c) d (still_fit areas c one cs rest) (fits_kept areas c one d h)
