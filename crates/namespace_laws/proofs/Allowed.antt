-- What follows if a create isn't refused.
use Rattle.std.proofs.Common.{◌≡◌, ◌≢◌, ℕ, zero, suc, ◌+◌, ◌*◌, ◌/◌, ◌%◌, ◌<◌, ◌≤◌, Bool, true, false, List, [], ◌∷◌, ◌++◌, length, get_or, Option, Some, None, refl, sym, ap, ◌∙◌, subst, arith, inl, inr, ◌⊎◌}
use Rattle.std.specs.Prelude.{◌==◌, ◌||◌, not, map, nat_lt, slice_get, unwrap_or, is_some, is_none}
use Rattle.std.specs.Option.{option_map}
use Rattle.std.specs.List.{AllByRecursion, list_all, range_with_len}
use Rattle.std.specs.Str.{bytes_eq}
use Rattle.std.proofs.Math.Nat.{div-add-mod, mul-mod_left, mul-mod_right, mul_assoc, mul_comm}
use Rattle.std.proofs.lemmas.Nat.{div-mul-add}
use Rattle.std.proofs.lemmas.Bool.{cases_Bool, false≢true, cases_lt, eq-eqb, eqb-true, not-false, or_parts, and_parts, ltb-false}
use Rattle.std.proofs.lemmas.Option.{none-some, unwrap_or-slice_get, slice_get_past, slice_get-map}
use Rattle.nvd_words.specs.Checks.{fault_if}
use Rattle.nfit_reader.specs.declared.table.Mapping.{Mapping}
use Rattle.interleave.specs.Places.{unit_of}
use Rattle.label_area.specs.Area.{SlotState}
use Rattle.label_set.specs.declared.placed.Placed.{Placed}
use Rattle.label_set.specs.Rules.{least_where, modules_of}
use Rattle.region_space.specs.declared.extent.Extent.{Extent}
use Rattle.region_space.specs.Space.{fits, is_clear}
use Rattle.namespace_map.specs.Namespaces.{Namespaces, AreaSummary, lookup, labels_with, extents_of}
use Rattle.namespace_map.specs.declared.commands.Make.{Make}
use Rattle.namespace_map.specs.declared.commands.Named.{Named}
use Rattle.namespace_map.specs.declared.commands.Command.TheVariants as command
use Rattle.namespace_map.specs.declared.refused.OpRefused.TheVariants.{NoSlot, NoRegion, Exists, BadSize, NoSpace}
use Rattle.namespace_map.specs.Areas.{Area, slots_of, slots_on, free_in, has_uuid}
use Rattle.namespace_map.specs.Commands.{no_area, area_of, set_of, share_of, first_fit_of, is_bad_size, has_no_plan, refusal_of, short_of, unready_of, bad_name, new_offset}
use Rattle.namespace_map.specs.Changes.{namespaces_of, area_summary, placed_in_all}
use Rattle.namespace_map.proofs.Areas.{Proper}
use Rattle.namespace_map.proofs.Slots.{slot}
use Rattle.namespace_map.proofs.Labels.{part, placed_at, own_from, labels_of_areas}
use Rattle.namespace_map.proofs.Asking.{create_with}
use Rattle.namespace_laws.proofs.Sets.{no_fault, unmapped}
use Rattle.namespace_laws.proofs.Regions.{found_passes}
use Rattle.namespace_laws.proofs.Shaped.{least_nothing}

pub passed_if : {F : Type 0} (b : Bool) (fault : F) → fault_if b fault ≡ None → b ≡ false
passed_if true fault e = absurd (none-some fault (sym e))
passed_if false fault e = refl

pub unmap_all : {X Y : Type 0} (P : Y → Type 0) (f : X → Y) (xs : List X) → AllByRecursion P (map f xs) → AllByRecursion (λ x. P (f x)) xs
unmap_all P f [] all = tt
unmap_all P f (x ∷ xs) (one, rest) = (one, unmap_all P f xs rest)

pub all_both : {X : Type 0} (P Q : X → Type 0) (xs : List X) → AllByRecursion P xs → AllByRecursion Q xs → AllByRecursion (λ x. P x × Q x) xs
all_both P Q [] ps qs = tt
all_both P Q (x ∷ xs) (p, ps) (q, qs) = ((p, q), all_both P Q xs ps qs)

-- ---- free slots

-- the free slots that a refusal compares
pub area_free : (sets : List (List Mapping)) (areas : List (Option Area)) (m : ℕ) → (area_of (namespaces_of sets areas) m).free ≡ free_in (slots_on areas m)
area_free sets areas m = ap (λ (o : Option AreaSummary). (unwrap_or o no_area).free) (slice_get-map area_summary areas m) ∙ free_is (slice_get areas m)
  where
    free_of : (a : Option Area) → (area_summary a).free ≡ free_in (slots_of a)
    free_of None = refl
    free_of (Some a) = refl

    free_is : (o : Option (Option Area)) → (unwrap_or (option_map area_summary o) no_area).free ≡ free_in (slots_of (unwrap_or o None))
    free_is None = refl
    free_is (Some a) = free_of a

pub free_there : (sets : List (List Mapping)) (areas : List (Option Area)) (m : ℕ) (wanted : ℕ) → 1 ≤ wanted → nat_lt (area_of (namespaces_of sets areas) m).free wanted ≡ false
    → (m < length areas) × (wanted ≤ free_in (slots_on areas m))
free_there sets areas m wanted some e = by (cases_lt m (length areas))
  where
    enough : wanted ≤ free_in (slots_on areas m)
    enough = let a = ltb-false (area_of (namespaces_of sets areas) m).free wanted e in omega (arith, area_free sets areas m, a)

    by : (m < length areas) ⊎ (length areas ≤ m) → (m < length areas) × (wanted ≤ free_in (slots_on areas m))
    by (inl below) = (below, enough)
    by (inr past) =
        let nothing : free_in (slots_on areas m) ≡ 0 = ap (λ (o : Option (Option Area)). free_in (slots_of (unwrap_or o None))) (slice_get_past areas m past) in
        absurd (omega (arith, nothing, enough))

-- no module has too few slots
pub not_short : (ns : Namespaces) (wanted : ℕ) (modules : List ℕ) → short_of ns wanted modules ≡ None → AllByRecursion (λ m. nat_lt (area_of ns m).free wanted ≡ false) modules
not_short ns wanted modules e = least_nothing (λ number. number) (λ number. nat_lt (area_of ns number).free wanted) modules (unmapped (λ number. NoSlot number) (least_where (λ number. number) (λ number. nat_lt (area_of ns number).free wanted) modules) e)

-- ---- whole units

-- a whole number of units for each module
share_whole : (s n u : ℕ) → 1 ≤ n → s % (n * u) ≡ 0 → s / n % u ≡ 0
share_whole s n u some e =
    let q : ℕ = s / (n * u) in
    let is : s ≡ u * q * n + 0 = sym (div-add-mod s (n * u)) ∙ ap (λ (r : ℕ). n * u * q + r) e ∙ ap (λ (x : ℕ). x + 0) (turned n u q) in
    ap (λ (x : ℕ). x / n % u) is ∙ ap (λ (x : ℕ). x % u) (div-mul-add (u * q) n 0 (omega arith)) ∙ mul-mod_right u q
  where
    turned : (n u q : ℕ) → n * u * q ≡ u * q * n
    turned n u q = mul_assoc n u q ∙ mul_comm n (u * q)

share_some : (s n u : ℕ) → 1 ≤ n → s ≢ 0 → s % (n * u) ≡ 0 → 0 < s / n
share_some s n u some nonzero e =
    let q : ℕ = s / (n * u) in
    let is : s ≡ u * q * n + 0 = sym (div-add-mod s (n * u)) ∙ ap (λ (r : ℕ). n * u * q + r) e ∙ ap (λ (x : ℕ). x + 0) (turned n u q) in
    let half : s / n ≡ u * q = ap (λ (x : ℕ). x / n) is ∙ div-mul-add (u * q) n 0 (omega arith) in
    by (u * q) is half
  where
    turned : (n u q : ℕ) → n * u * q ≡ u * q * n
    turned n u q = mul_assoc n u q ∙ mul_comm n (u * q)

    by : (k : ℕ) → s ≡ k * n + 0 → s / n ≡ k → 0 < s / n
    by zero is half = absurd (nonzero (is ∙ omega arith))
    by (suc k) is half = omega (arith, half)

-- ---- the first fit

pub passes_each : {X : Type 0} (test : X → Bool) (xs : List X) → list_all test xs ≡ true → AllByRecursion (λ x. test x ≡ true) xs
passes_each test [] e = tt
passes_each test (x ∷ xs) e = let both = and_parts (test x) (list_all test xs) e in (both.0, passes_each test xs both.1)

multiples : (u : ℕ) (ks : List ℕ) → AllByRecursion (λ (n : ℕ). n % u ≡ 0) (map (λ k. k * u) ks)
multiples u [] = tt
multiples u (k ∷ ks) = (mul-mod_left k u, multiples u ks)

-- an offset that fits is a whole number of units, and clear on each mapping
pub first_fit_is : (set : List Mapping) (extents : List Extent) (raw offset : ℕ) → first_fit_of set extents raw ≡ Some offset
    → (offset % unit_of set ≡ 0) × AllByRecursion (λ (m : Mapping). is_clear extents raw offset m ≡ true) set
first_fit_is [] extents raw offset e = absurd (none-some offset e)
first_fit_is (m ∷ ms) extents raw offset e =
    let both = found_passes (fits (m ∷ ms) extents raw) (λ n. n % unit_of (m ∷ ms) ≡ 0) (map (λ k. k * unit_of (m ∷ ms)) (range_with_len 0 (m.size / unit_of (m ∷ ms) + 1))) offset e
    (multiples (unit_of (m ∷ ms)) (range_with_len 0 (m.size / unit_of (m ∷ ms) + 1))) in
    (both.1, passes_each (is_clear extents raw offset) (m ∷ ms) both.0)

some_mapping : (set : List Mapping) (extents : List Extent) (raw offset : ℕ) → first_fit_of set extents raw ≡ Some offset → 1 ≤ length set
some_mapping [] extents raw offset e = absurd (none-some offset e)
some_mapping (m ∷ ms) extents raw offset e = omega arith

-- ---- no label of the UUID

first_empty : (xs ys : List Placed) → xs ++ ys ≡ [] → (xs ≡ []) × (ys ≡ [])
first_empty [] ys e = (refl, e)
first_empty (x ∷ xs) ys e = absurd (cc)

none_in_part : (slots : List SlotState) (uuid : List ℕ) (m k : ℕ) → part uuid m k slots ≡ [] → (j : ℕ) → has_uuid uuid (slot slots j) ≡ false
none_in_part [] uuid m k e j = refl
none_in_part (None ∷ slots) uuid m k e zero = refl
none_in_part (Some None ∷ slots) uuid m k e zero = refl
none_in_part (None ∷ slots) uuid m k e (suc j) = none_in_part slots uuid m (k + 1) e j
none_in_part (Some None ∷ slots) uuid m k e (suc j) = none_in_part slots uuid m (k + 1) e j
none_in_part (Some (Some l) ∷ slots) uuid m k e j = by (cases_Bool (bytes_eq l.uuid uuid)) (none_in_part slots uuid m (k + 1)) j
  where
    by : (bytes_eq l.uuid uuid ≡ true) ⊎ (bytes_eq l.uuid uuid ≡ false) → (part uuid m (k + 1) slots ≡ [] → (i : ℕ) → has_uuid uuid (slot slots i) ≡ false)
        → (j : ℕ) → has_uuid uuid (slot (Some (Some l) ∷ slots) j) ≡ false
    by (inl it) rest j = absurd (let e' : placed_at m k l ∷ part uuid m (k + 1) slots ≡ [] = rw it at e in cc)
    by (inr not_it) rest zero = not_it
    by (inr not_it) rest (suc i) = rest (rw not_it at e) i

none_in_areas : (areas : List (Option Area)) (uuid : List ℕ) (k : ℕ) → own_from uuid k areas ≡ [] → (i j : ℕ) → has_uuid uuid (slot (slots_of (get_or areas i None)) j) ≡ false
none_in_areas [] uuid k e i j = refl
none_in_areas (a ∷ areas) uuid k e zero j = none_in_part (slots_of a) uuid k 0 (first_empty (part uuid k 0 (slots_of a)) (own_from uuid (k + 1) areas) e).0 j
none_in_areas (a ∷ areas) uuid k e (suc i) j = none_in_areas areas uuid (k + 1) (first_empty (part uuid k 0 (slots_of a)) (own_from uuid (k + 1) areas) e).1 i j

pub proper_none : (uuid : List ℕ) (areas : List (Option Area)) → labels_with uuid (placed_in_all areas) ≡ [] → Proper uuid (λ m. None) areas
proper_none uuid areas e = record {
  own = λ m j. subst (λ (a : Option Area). has_uuid uuid (slot (slots_of a) j) ≡ false) (sym (unwrap_or-slice_get areas m None)) (none_in_areas areas uuid 0 (sym (labels_of_areas uuid areas) ∙ e) m j);
  named = λ m l is. absurd (none-some l is);
}

not_there : {X : Type 0} (o : Option X) → is_some o ≡ false → o ≡ None
not_there None e = refl
not_there (Some x) e = absurd (false≢true (sym e))

module _ (ns : Namespaces) (uuid : List ℕ) (name : Named) (region size : ℕ) (made : Make) where
  abbrev set : List Mapping
  set = set_of ns region

  abbrev raw : ℕ
  raw = share_of set size

  abbrev offset : ℕ
  offset = new_offset ns set raw

  -- what follows if a create isn't refused
  pub record Allowed : Type 0 where
    pub there : slice_get ns.sets region ≡ Some set
    pub absent : lookup uuid ns.entries ≡ None
    pub slots : AllByRecursion (λ (m : Mapping). nat_lt (area_of ns m.«module»).free 2 ≡ false) set
    pub some : 1 ≤ length set
    pub raw_some : 0 < raw
    pub raw_whole : raw % unit_of set ≡ 0
    pub offset_whole : offset % unit_of set ≡ 0
    pub clear : AllByRecursion (λ (m : Mapping). is_clear (extents_of ns.entries) raw offset m ≡ true) set

  pub allowed : refusal_of ns (create_with uuid name region size made) ≡ None → Allowed
  allowed good =
      let r1 = (no_fault (bad_name name) _ good).1 in
      let r2 = no_fault (fault_if (is_none (slice_get ns.sets region)) (NoRegion region)) _ r1 in
      let r3 = (no_fault (unready_of ns (modules_of set)) _ r2.1).1 in
      let r4 = no_fault (fault_if (is_some (lookup uuid ns.entries)) Exists) _ r3 in
      let r5 = no_fault (fault_if (is_bad_size set size made) (BadSize size)) _ r4.1 in
      let r6 = no_fault (short_of ns 2 (modules_of set)) _ r5.1 in
      let r7 = no_fault (fault_if (is_none (first_fit_of set (extents_of ns.entries) raw)) (NoSpace raw)) _ r6.1 in
      let fit : first_fit_of set (extents_of ns.entries) raw ≡ Some offset = fit_of (first_fit_of set (extents_of ns.entries) raw) (passed_if (is_none (first_fit_of set (extents_of ns.entries) raw)) (NoSpace raw) r7.0) in
      let sizes = or_parts ((size == 0) || not (size % (length set * unit_of set) == 0)) (has_no_plan made size) (passed_if (is_bad_size set size made) (BadSize size) r5.0) in
      let parts = or_parts (size == 0) (not (size % (length set * unit_of set) == 0)) sizes.0 in
      let multiple : size % (length set * unit_of set) ≡ 0 = units (size % (length set * unit_of set)) parts.1 in
      let some : 1 ≤ length set = some_mapping set (extents_of ns.entries) raw offset fit in
      let fits_there = first_fit_is set (extents_of ns.entries) raw offset fit in
      record {
        there = there_of (slice_get ns.sets region) (passed_if (is_none (slice_get ns.sets region)) (NoRegion region) r2.0);
        absent = not_there (lookup uuid ns.entries) (passed_if (is_some (lookup uuid ns.entries)) Exists r4.0);
        slots = unmap_all (λ m. nat_lt (area_of ns m).free 2 ≡ false) (λ (m : Mapping). m.«module») set (not_short ns 2 (modules_of set) r6.0);
        some = some;
        raw_some = share_some size (length set) (unit_of set) some (λ z. false≢true (sym parts.0 ∙ eq-eqb size 0 z)) multiple;
        raw_whole = share_whole size (length set) (unit_of set) some multiple;
        offset_whole = fits_there.0;
        clear = fits_there.1;
      }
    where
      units : (n : ℕ) → not (n == 0) ≡ false → n ≡ 0
      units n e = eqb-true n 0 (not-false (n == 0) e)

      fit_of : (o : Option ℕ) → is_none o ≡ false → o ≡ Some (unwrap_or o 0)
      fit_of None e = absurd (false≢true (sym e))
      fit_of (Some x) e = refl

      there_of : (o : Option (List Mapping)) → is_none o ≡ false → o ≡ Some (unwrap_or o [])
      there_of None e = absurd (false≢true (sym e))
      there_of (Some x) e = refl
