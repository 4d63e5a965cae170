-- Of a complete namespace no label is missing.
use Rattle.std.proofs.Common.{◌≡◌, ℕ, ◌+◌, ◌-◌, Bool, true, false, cond, List, [], ◌∷◌, Option, Some, None, Ok, Err, get_or, refl, sym, ap, ◌∙◌, subst, arith}
use Rattle.std.specs.Prelude.{filter, map, not, ◌==◌, ◌||◌, slice_get, unwrap_or, if◌then◌else◌}
use Rattle.std.specs.List.{list_any, list_all}
use Rattle.std.specs.Option.{option_map}
use Rattle.std.proofs.lemmas.Bool.{ne_eqb}
use Rattle.std.proofs.lemmas.List.Sums.{sum_by-cons}
use Rattle.nfit_reader.specs.declared.table.Mapping.{Mapping}
use Rattle.nvd_words.specs.Checks.{first_fault}
use Rattle.label_set.specs.declared.placed.Placed.{Placed}
use Rattle.label_set.specs.declared.placed.SetStatus.{SetStatus}
use Rattle.label_set.specs.declared.placed.SetStatus.TheVariants.{Complete, Incomplete, Local, Unfinished}
use Rattle.label_set.specs.declared.placed.Why.TheVariants.{Missing, Outside}
use Rattle.label_set.specs.Rules.{count_on, is_local, is_updating, least_missing, modules_of}
use Rattle.label_set.specs.Status.{naming_of, short_of, status_of}
use Rattle.label_set.proofs.Twice.{Each, least_none}
use Rattle.region_space.specs.declared.extent.Extent.{Extent}
use Rattle.namespace_map.specs.declared.listed.Namespace.{Namespace}
use Rattle.namespace_map.specs.declared.refused.OpRefused.TheVariants.{NotComplete, NotSector}
use Rattle.namespace_map.specs.Namespaces.{NamespaceEntry, Part, entry_with, labels_with, namespace_of, part_of, region_of, status_in}
use Rattle.namespace_map.specs.Commands.{is_complete, is_sector}
use Rattle.namespace_areas.specs.declared.found.Found.{Found}
use Rattle.namespace_areas.specs.Finding.{found_at, found_by, found_of, set_at}
use Rattle.namespace_areas.proofs.Finding.{IsRegion, region_is}
use Rattle.label_rescue.specs.Rescue.{has_extent, is_rescuable, is_taken_on, missing_of, rescued_one, rescued_with, rising}
use Rattle.label_rescue.specs.Laws.{CompleteIsFound}
use Rattle.label_rescue.proofs.Placed.{at_is, namespaces, one_is}
use Rattle.label_rescue.proofs.Unbroken.{unbroken}

complete_rescuable : (s : SetStatus) → is_complete s ≡ true → is_rescuable s ≡ true
complete_rescuable (Complete name pending) e = refl
complete_rescuable s e = absurd (let f = e in cc)

-- ---- each module of the set has a label

-- no finding is left, so none is missing
short_incomplete : (labels : List Placed) (number : ℕ) → is_complete (short_of labels number) ≡ false
short_incomplete labels number = by (list_all is_updating labels)
  where
    by : (b : Bool) → is_complete (if b then Unfinished else Incomplete (Missing number)) ≡ false
    by true = refl
    by false = refl

none_missing : (labels : List Placed) (naming : SetStatus) (o : Option ℕ) → is_complete (unwrap_or (first_fault (option_map (short_of labels) o ∷ [])) naming) ≡ true → o ≡ None
unfolding first_fault
none_missing labels naming None e = refl
none_missing labels naming (Some number) e = absurd (let f = sym (short_incomplete labels number) ∙ e in cc)

module _ (set : List Mapping) (labels : List Placed) (complete : is_complete (status_of set labels) ≡ true) where
  pub least_is : least_missing labels set ≡ None
  unfolding status_of
  least_is =
      none_missing labels (naming_of labels) (least_missing labels set)
      (sym (ap (λ (o : Option SetStatus). is_complete (unwrap_or o (naming_of labels))) (unbroken set labels (complete_rescuable (status_of set labels) complete)).behind) ∙ complete)

  pub each_has : Each (λ number. (count_on labels number == 0) ≡ false) (modules_of set)
  each_has = least_none (λ number. number) (λ number. count_on labels number == 0) (modules_of set) least_is

-- the extents of labels
abbrev extents_on : List Placed → List Extent
extents_on labels = map (λ p. p.extent) (map part_of labels)

counted : (number : ℕ) (labels : List Placed) → (count_on labels number == 0) ≡ not (has_extent (extents_on labels) number)
counted number [] = refl
counted number (p ∷ labels) =
    ap (λ (n : ℕ). n == 0) (sum_by-cons (λ (q : Placed). cond (q.«module» == number) 1 0) p labels)
    ∙ by (p.«module» == number) (counted number labels)
  where
    by : (b : Bool) → (count_on labels number == 0) ≡ not (has_extent (extents_on labels) number)
        → (cond b 1 0 + count_on labels number == 0) ≡ not (b || has_extent (extents_on labels) number)
    by true e = ne_eqb (1 + count_on labels number) 0 (λ z. omega (arith, z))
    by false e = ap (λ (n : ℕ). n == 0) (let z : 0 + count_on labels number ≡ count_on labels number = omega arith in z) ∙ e

module _ (labels : List Placed) where
  has : (number : ℕ) → (count_on labels number == 0) ≡ false → not (has_extent (extents_on labels) number) ≡ false
  has number e = sym (counted number labels) ∙ e

  none_of : (numbers : List ℕ) → Each (λ number. (count_on labels number == 0) ≡ false) numbers → filter (λ number. not (has_extent (extents_on labels) number)) numbers ≡ []
  none_of [] each = refl
  none_of (n ∷ ns) each = rw (has n each.0) (none_of ns each.1)

  pub missing_none : (set : List Mapping) → Each (λ number. (count_on labels number == 0) ≡ false) (modules_of set) → missing_of set (extents_on labels) ≡ []
  unfolding rising
  missing_none set each = ap rising (none_of (modules_of set) each)

  pub taken_none : (namespaces : List Namespace) (n : Namespace) (found : Found) → n.extents ≡ extents_on labels → (set : List Mapping) → Each (λ number. (count_on labels number == 0) ≡ false) (modules_of set)
      → list_any (is_taken_on namespaces n found) set ≡ false
  taken_none namespaces n found same [] each = refl
  taken_none namespaces n found same (m ∷ set) each =
      rw (ap (λ (es : List Extent). not (has_extent es m.«module»)) same ∙ has m.«module» each.0) (taken_none namespaces n found same set each.1)

-- ---- a complete namespace is found

-- what is known of an entry that is found
pub record IsFoundBy (sets : List (List Mapping)) (e : NamespaceEntry) (found : Found) : Type 0 where
  pub complete : is_complete e.status ≡ true
  pub sector : is_sector e.mode ≡ true
  pub region : ℕ
  pub at : e.region ≡ Some region
  pub first : Part
  pub rest : List Part
  pub parts : e.parts ≡ first ∷ rest
  pub is : found_at sets e.mode region first.extent ≡ found

pub found_parts : (sets : List (List Mapping)) (e : NamespaceEntry) (found : Found) → found_of sets (Some e) ≡ Ok found → IsFoundBy sets e found
found_parts sets e found is = by (is_complete e.status) (is_sector e.mode) e.region e.parts refl refl refl refl is
  where
    by : (c s : Bool) (r : Option ℕ) (ps : List Part) → is_complete e.status ≡ c → is_sector e.mode ≡ s → e.region ≡ r → e.parts ≡ ps
        → (if not c then Err NotComplete else if not s then Err NotSector else found_by sets e.mode r ps) ≡ Ok found → IsFoundBy sets e found
    by false s r ps a b c d f = absurd (let z = f in cc)
    by true false r ps a b c d f = absurd (let z = f in cc)
    by true true None ps a b c d f = absurd (let z = f in cc)
    by true true (Some r) [] a b c d f = absurd (let z = f in cc)
    by true true (Some r) (p ∷ ps) a b c d f = record { complete = a; sector = b; region = r; at = c; first = p; rest = ps; parts = d; is = (let z : found_at sets e.mode r p.extent ≡ found = cc in z) }

pub outside : (labels : List Placed) (first : Placed) → is_complete (status_in None labels first) ≡ false
outside labels first = by (list_any is_local labels)
  where
    by : (b : Bool) → is_complete (if b then Local else Incomplete (Outside first.«module»)) ≡ false
    by true = refl
    by false = refl

-- each module of its set has a label
in_set : (sets : List (List Mapping)) (first : Placed) (labels : List Placed) (region : ℕ) (o : Option (ℕ × List Mapping)) → region_of sets first ≡ o → is_complete (status_in o labels first) ≡ true → option_map (λ r. r.0) o ≡ Some region
    → Each (λ number. (count_on labels number == 0) ≡ false) (modules_of (set_at sets region))
in_set sets first labels region None here complete at = absurd (let f = sym (outside labels first) ∙ complete in cc)
in_set sets first labels region (Some r) here complete at =
    let s : IsRegion sets 0 r.0 r.1 = region_is sets first r.0 r.1 here in
    let same : r.0 ≡ region = cc in
    let set_is : set_at sets region ≡ r.1 = ap (λ (k : ℕ). get_or sets k []) (let z : region ≡ r.0 - 0 = omega (arith, same) in z) ∙ s.is in
    subst (λ (set : List Mapping). Each (λ number. (count_on labels number == 0) ≡ false) (modules_of set)) (sym set_is) (each_has r.1 labels complete)

module _ (sets : List (List Mapping)) (all : List Namespace) (found : Found) where
  one : (first : Placed) (rest : List Placed) (claims : ℕ) → found_of sets (Some (entry_with sets (first ∷ rest) first)) ≡ Ok found
      → rescued_one sets all (Some (namespace_of (entry_with sets (first ∷ rest) first) claims)) ≡ Ok (record { found = found; missing = [] })
  one first rest claims is =
      let e : NamespaceEntry = entry_with sets (first ∷ rest) first in
      let n : Namespace = namespace_of (entry_with sets (first ∷ rest) first) claims in
      let f : IsFoundBy sets e found = found_parts sets e found is in
      let each = in_set sets first (first ∷ rest) f.region (region_of sets first) refl f.complete f.at in
      let first_is : part_of first ≡ f.first = (let z = f.parts in cc) in
      let found_is : found_at sets n.mode f.region (part_of first).extent ≡ found = ap (λ (p : Part). found_at sets n.mode f.region p.extent) first_is ∙ f.is in
      one_is sets all n f.region (part_of first).extent (sym (complete_rescuable e.status f.complete)) (sym f.sector) f.at refl
      ∙ ap (rescued_with sets all n) found_is
      ∙ with_none n refl (subst (λ (region : ℕ). Each (λ number. (count_on (first ∷ rest) number == 0) ≡ false) (modules_of (set_at sets region))) (ap (λ (g : Found). g.region) found_is) each)
    where
      with_none : (n : Namespace) → n.extents ≡ extents_on (first ∷ rest) → Each (λ number. (count_on (first ∷ rest) number == 0) ≡ false) (modules_of (set_at sets found.region))
          → rescued_with sets all n found ≡ Ok (record { found = found; missing = [] })
      with_none n same each =
          rw (taken_none (first ∷ rest) all n found same (set_at sets found.region) each)
          (ap (λ (numbers : List ℕ). Ok (record { found = found; missing = numbers }))
          (ap (missing_of (set_at sets found.region)) same ∙ missing_none (first ∷ rest) (set_at sets found.region) each))

pub complete_found : CompleteIsFound
complete_found sets labels claims uuid found is = ap (rescued_one sets (namespaces sets labels claims uuid)) (at_is sets labels claims uuid) ∙ by (labels_with uuid labels) is
  where
    by : (own : List Placed) → found_of sets (option_map (entry_with sets own) (slice_get own 0)) ≡ Ok found
        → rescued_one sets (namespaces sets labels claims uuid) (option_map (λ e. namespace_of e (claims e)) (option_map (entry_with sets own) (slice_get own 0))) ≡ Ok (record { found = found; missing = [] })
    by [] e = absurd (let z = e in cc)
    by (p ∷ ps) e = one sets (namespaces sets labels claims uuid) found p ps (claims (entry_with sets (p ∷ ps) p)) e
