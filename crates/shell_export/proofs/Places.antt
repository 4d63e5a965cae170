-- Where a namespace lies that is exported.
use Rattle.std.proofs.Common.{◌≡◌, ◌≢◌, ℕ, ◌-◌, Bool, true, false, List, [], ◌∷◌, map, get_or, Option, Some, None, Result, Ok, Err, refl, sym, ap, ◌∙◌, subst, arith}
use Rattle.std.specs.Prelude.{IfOk, find, not, ◌||◌, if◌then◌else◌, slice_get}
use Rattle.std.specs.Option.{option_map}
use Rattle.std.specs.Str.{bytes_eq}
use Rattle.nfit_reader.specs.declared.table.Mapping.{Mapping}
use Rattle.label_codec.specs.declared.mode.Mode.{Mode}
use Rattle.label_codec.specs.Mode.{mode_of}
use Rattle.label_set.specs.declared.placed.Placed.{Placed}
use Rattle.label_set.specs.Rules.{relative_of}
use Rattle.label_set.specs.Status.{status_of}
use Rattle.namespace_map.specs.declared.listed.Namespace.{Namespace}
use Rattle.namespace_map.specs.declared.refused.OpRefused.{OpRefused}
use Rattle.namespace_map.specs.declared.refused.OpRefused.TheVariants.{NotComplete, NotSector}
use Rattle.namespace_map.specs.Namespaces.{NamespaceEntry, Part, claims_of, entry_with, extent_of, labels_with, listed, lookup, namespace_of, part_of, region_of, status_in}
use Rattle.namespace_map.specs.Commands.{is_complete, is_sector}
use Rattle.namespace_areas.specs.declared.found.Found.{Found}
use Rattle.namespace_areas.specs.Areas.{labels_of}
use Rattle.namespace_areas.specs.Finding.{LiesInSet, found_at, found_by, found_of, set_at}
use Rattle.namespace_areas.specs.Seen.{AreHeld}
use Rattle.namespace_areas.proofs.Finding.{IsRegion, lies_in, region_is}
use Rattle.namespace_ops.specs.Counted.{namespaces_in}
use Rattle.namespace_ops.specs.Registered.{Registered, state_of}
use Rattle.namespace_ops.proofs.Shown.{shown_at}
use Rattle.shell_export.specs.Export.{is_raw, place_of}
use Rattle.shell_export.specs.Listed.{placed_by, raw_of}

-- ---- by what a list says

find_by : {X Y : Type 0} (b : Bool) (p : Y → Bool) (f : X → Y) (x : X) (xs : List X) → p (f x) ≡ b → find p (map f xs) ≡ option_map f (find (λ y. p (f y)) xs)
    → find p (map f (x ∷ xs)) ≡ option_map f (find (λ y. p (f y)) (x ∷ xs))
find_by true p f x xs passes behind = rw passes refl
find_by false p f x xs fails behind = rw fails behind

find_map : {X Y : Type 0} (p : Y → Bool) (f : X → Y) (xs : List X) → find p (map f xs) ≡ option_map f (find (λ x. p (f x)) xs)
find_map p f [] = refl
find_map p f (x ∷ xs) = find_by (p (f x)) p f x xs refl (find_map p f xs)

placed_parts : (sets : List (List Mapping)) (mode : Mode) (region : Option ℕ) (parts : List Part) → placed_by sets mode region (map (λ p. p.extent) parts) ≡ found_by sets mode region parts
placed_parts sets mode None [] = refl
placed_parts sets mode None (p ∷ parts) = refl
placed_parts sets mode (Some region) [] = refl
placed_parts sets mode (Some region) (p ∷ parts) = refl

other_refusal : (sets : List (List Mapping)) (mode : Mode) (region : Option ℕ) (parts : List Part) → found_by sets mode region parts ≢ Err NotSector
other_refusal sets mode None [] e = cc
other_refusal sets mode None (p ∷ parts) e = cc
other_refusal sets mode (Some region) [] e = cc
other_refusal sets mode (Some region) (p ∷ parts) e = cc

raw_by : (complete sector raw : Bool) (x y : Result Found OpRefused) → y ≡ x → x ≢ Err NotSector
    → (if not complete then Err NotComplete else if not sector then Err NotSector else x) ≡ Err NotSector
    → (if not complete then Err NotComplete else if not raw then Err NotSector else y) ≡ (if not complete then Err NotComplete else if not (sector || raw) then Err NotSector else x)
raw_by false sector raw x y same other e = absurd (let f = e in cc)
raw_by true true raw x y same other e = absurd (other e)
raw_by true false false x y same other e = refl
raw_by true false true x y same other e = same

raw_place : (sets : List (List Mapping)) (claims : NamespaceEntry → ℕ) (o : Option NamespaceEntry) → found_of sets o ≡ Err NotSector
    → raw_of sets (option_map (λ e. namespace_of e (claims e)) o) ≡ place_of sets o
raw_place sets claims None e = absurd (let f = e in cc)
raw_place sets claims (Some entry) e =
    raw_by (is_complete entry.status) (is_sector entry.mode) (is_raw entry.mode) (found_by sets entry.mode entry.region entry.parts) (placed_by sets entry.mode entry.region (map (λ p. p.extent) entry.parts))
    (placed_parts sets entry.mode entry.region entry.parts) (other_refusal sets entry.mode entry.region entry.parts) e

-- ---- as a namespace of sectors

other_by : (complete sector raw : Bool) (x r : Result Found OpRefused) → (if not complete then Err NotComplete else if not sector then Err NotSector else x) ≡ r → r ≢ Err NotSector
    → (if not complete then Err NotComplete else if not (sector || raw) then Err NotSector else x) ≡ r
other_by false sector raw x r e other = e
other_by true true raw x r e other = e
other_by true false raw x r e other = absurd (other (sym e))

-- what isn't refused as raw is found, or refused, as a namespace of sectors
pub other_place : (sets : List (List Mapping)) (o : Option NamespaceEntry) (r : Result Found OpRefused) → r ≡ found_of sets o → r ≢ Err NotSector → r ≡ place_of sets o
other_place sets None r e other = e
other_place sets (Some entry) r e other =
    sym (other_by (is_complete entry.status) (is_sector entry.mode) (is_raw entry.mode) (found_by sets entry.mode entry.region entry.parts) r (sym e) other)

-- ---- it lies in its region's set

module _ (sets : List (List Mapping)) (first : Placed) (rest : List Placed) (found : Found) where
  mode : Mode
  mode = mode_of first.label.kind first.label.abstraction

  lies_whole : (number : ℕ) (set : List Mapping) → region_of sets first ≡ Some (number, set) → is_complete (status_of set (first ∷ rest)) ≡ true
      → found_at sets mode number (extent_of first) ≡ found → LiesInSet sets found
  lies_whole number set here complete is =
      let r : IsRegion sets 0 number set = region_is sets first number set here in
      let set_is : set_at sets number ≡ set = ap (λ (k : ℕ). get_or sets k []) (let z : number ≡ number - 0 = omega arith in z) ∙ r.is in
      subst (LiesInSet sets) is
      (subst (λ (s : List Mapping). LiesInSet sets (record { region = number; offset = relative_of s first; raw = first.label.raw; mode = mode })) (sym set_is)
      (lies_in sets first rest number set here complete mode))

  lies_by : (complete bytes : Bool) (number : ℕ) (set : List Mapping) → region_of sets first ≡ Some (number, set) → is_complete (status_of set (first ∷ rest)) ≡ complete
      → (if not complete then Err NotComplete else if not bytes then Err NotSector else Ok (found_at sets mode number (extent_of first))) ≡ Ok found → LiesInSet sets found
  lies_by false bytes number set here complete is = absurd (let e = is in cc)
  lies_by true false number set here complete is = absurd (let e = is in cc)
  lies_by true true number set here complete is = lies_whole number set here complete (let same : found_at sets mode number (extent_of first) ≡ found = cc in same)

  nowhere : (complete bytes : Bool) → (if not complete then Err NotComplete else if not bytes then Err NotSector else Err NotComplete) ≡ Ok found → LiesInSet sets found
  nowhere false bytes is = absurd (let e = is in cc)
  nowhere true false is = absurd (let e = is in cc)
  nowhere true true is = absurd (let e = is in cc)

  lies_on : (r : Option (ℕ × List Mapping)) → region_of sets first ≡ r
      → (if not (is_complete (status_in r (first ∷ rest) first)) then Err NotComplete else if not (is_sector mode || is_raw mode) then Err NotSector
      else found_by sets mode (option_map (λ (q : ℕ × List Mapping). q.0) r) (map part_of (first ∷ rest))) ≡ Ok found → LiesInSet sets found
  lies_on None here is = nowhere (is_complete (status_in None (first ∷ rest) first)) (is_sector mode || is_raw mode) is
  lies_on (Some region) here is = lies_by (is_complete (status_of region.1 (first ∷ rest))) (is_sector mode || is_raw mode) region.0 region.1 here refl is

lies_first : (sets : List (List Mapping)) (own : List Placed) (found : Found) → place_of sets (option_map (entry_with sets own) (slice_get own 0)) ≡ Ok found → LiesInSet sets found
unfolding mode
lies_first sets [] found is = absurd (let e = is in cc)
lies_first sets (first ∷ rest) found is = lies_on sets first rest found (region_of sets first) refl is

-- ---- in a registry

module _ (registry : Registered) (uuid : List ℕ) where
  pub lies : AreHeld registry.areas → (found : Found) → Ok found ≡ place_of registry.sets (lookup uuid (namespaces_in (state_of registry)).entries) → LiesInSet registry.sets found
  lies held found is =
      lies_first registry.sets (labels_with uuid (labels_of registry.areas)) found
      (ap (place_of registry.sets) (shown_at registry.sets registry.areas (labels_of registry.areas) uuid held (λ u. refl)) ∙ sym is)

  pub lies_if : {E : Type 0} → AreHeld registry.areas → (r : Result (Result Found OpRefused) E) → IfOk r (λ found. found ≡ place_of registry.sets (lookup uuid (namespaces_in (state_of registry)).entries))
      → IfOk r (λ found. IfOk found (LiesInSet registry.sets))
  lies_if held (Ok (Ok found)) is = lies held found is
  lies_if held (Ok (Err refusal)) is = tt
  lies_if held (Err e) is = tt

  pub raw_listed : found_of registry.sets (lookup uuid (namespaces_in (state_of registry)).entries) ≡ Err NotSector
      → raw_of registry.sets (find (λ ns. bytes_eq ns.uuid uuid) (listed (namespaces_in (state_of registry)))) ≡ place_of registry.sets (lookup uuid (namespaces_in (state_of registry)).entries)
  raw_listed e =
      ap (raw_of registry.sets) (find_map (λ (ns : Namespace). bytes_eq ns.uuid uuid) (λ (n : NamespaceEntry). namespace_of n (claims_of (namespaces_in (state_of registry)) n.uuid)) (namespaces_in (state_of registry)).entries)
      ∙ raw_place registry.sets (λ n. claims_of (namespaces_in (state_of registry)) n.uuid) (lookup uuid (namespaces_in (state_of registry)).entries) e
