-- Where a namespace lies that labels make, and that can be rescued.
use Rattle.std.proofs.Common.{◌≡◌, ℕ, ◌+◌, ◌-◌, ◌%◌, ◌<◌, ◌≤◌, Bool, true, false, List, [], ◌∷◌, length, get_or, Option, Some, None, Result, Err, refl, sym, ap, ◌∙◌, subst, arith}
use Rattle.std.specs.Prelude.{find, map, not, slice_get, if◌then◌else◌}
use Rattle.std.specs.List.{list_any}
use Rattle.std.specs.Option.{option_map}
use Rattle.std.specs.Str.{bytes_eq}
use Rattle.std.proofs.lemmas.Option.{none-some}
use Rattle.nfit_reader.specs.declared.table.Mapping.{Mapping}
use Rattle.interleave.specs.Places.{unit_of}
use Rattle.interleave.specs.Sound.{span_of}
use Rattle.label_codec.specs.declared.mode.Mode.{Mode}
use Rattle.label_set.specs.declared.placed.Placed.{Placed}
use Rattle.label_set.specs.declared.placed.SetStatus.TheVariants.{Local, Incomplete}
use Rattle.label_set.specs.declared.placed.Why.TheVariants.{Outside}
use Rattle.label_set.specs.Rules.{is_local, relative_of}
use Rattle.region_space.specs.declared.extent.Extent.{Extent}
use Rattle.namespace_map.specs.declared.listed.Namespace.{Namespace}
use Rattle.namespace_map.specs.Namespaces.{NamespaceEntry, entries_of, entry_at, entry_with, extent_of, labels_with, namespace_of, region_of, status_in}
use Rattle.namespace_map.specs.declared.refused.OpRefused.{OpRefused}
use Rattle.namespace_map.specs.declared.refused.OpRefused.TheVariants.{NotComplete, NotSector}
use Rattle.namespace_map.specs.Commands.{is_sector}
use Rattle.namespace_map.proofs.Entries.{lookup_entries}
use Rattle.namespace_areas.specs.Finding.{LiesInSet, found_at, set_at}
use Rattle.namespace_areas.proofs.Complete.{IsPlaced}
use Rattle.namespace_areas.proofs.Finding.{IsRegion, region_is}
use Rattle.label_rescue.specs.declared.rescued.RescueFound.{RescueFound}
use Rattle.label_rescue.specs.Rescue.{IsOfLabels, is_rescuable, namespace_at, rescued_by, rescued_one, rescued_with}
use Rattle.label_rescue.proofs.Unbroken.{placed}

-- ---- a namespace among others

pub find_map : {X Y : Type 0} (f : X → Y) (test : Y → Bool) (xs : List X) → find test (map f xs) ≡ option_map f (find (λ x. test (f x)) xs)
find_map f test [] = refl
find_map f test (x ∷ xs) = by (test (f x)) (find_map f test xs)
  where
    by : (b : Bool) → find test (map f xs) ≡ option_map f (find (λ x. test (f x)) xs)
        → (if b then Some (f x) else find test (map f xs)) ≡ option_map f (if b then Some x else find (λ x. test (f x)) xs)
    by true e = refl
    by false e = e

module _ (sets : List (List Mapping)) (labels : List Placed) (claims : NamespaceEntry → ℕ) (uuid : List ℕ) where
  abbrev pub namespaces : List Namespace
  namespaces = map (λ e. namespace_of e (claims e)) (entries_of sets labels)

  -- it is made by the labels of the UUID
  pub at_is : namespace_at namespaces uuid ≡ option_map (λ e. namespace_of e (claims e)) (entry_at sets labels uuid)
  at_is =
      find_map (λ e. namespace_of e (claims e)) (λ n. bytes_eq n.uuid uuid) (entries_of sets labels)
      ∙ ap (λ (o : Option NamespaceEntry). option_map (λ e. namespace_of e (claims e)) o) (lookup_entries sets labels uuid)

  pub of_labels : (n : Namespace) → Some n ≡ namespace_at namespaces uuid → IsOfLabels sets n
  of_labels n is = by (labels_with uuid labels) (is ∙ at_is)
    where
      by : (own : List Placed) → Some n ≡ option_map (λ e. namespace_of e (claims e)) (option_map (entry_with sets own) (slice_get own 0)) → IsOfLabels sets n
      by [] e = absurd (none-some n (sym e))
      by (p ∷ ps) e = record { first = p; rest = ps; claims = claims (entry_with sets (p ∷ ps) p); is = cc }

-- ---- its place

-- without a region it can't be rescued
outside : (labels : List Placed) (first : Placed) → is_rescuable (status_in None labels first) ≡ false
outside labels first = by (list_any is_local labels)
  where
    by : (b : Bool) → is_rescuable (if b then Local else Incomplete (Outside first.«module»)) ≡ false
    by true = refl
    by false = refl

module _ (sets : List (List Mapping)) (mode : Mode) (region : ℕ) where
  pub record IsThere (e : Extent) : Type 0 where
    pub high : region < length sets
    pub lies : LiesInSet sets (found_at sets mode region e)

  by_region : (first : Placed) (rest : List Placed) (o : Option (ℕ × List Mapping)) → region_of sets first ≡ o → is_rescuable (status_in o (first ∷ rest) first) ≡ true → option_map (λ r. r.0) o ≡ Some region
      → IsThere (extent_of first)
  by_region first rest None here ok at = absurd (none-some region at)
  by_region first rest (Some r) here ok at =
      let s : IsRegion sets 0 r.0 r.1 = region_is sets first r.0 r.1 here in
      let same : r.0 ≡ region = cc in
      let set_is : set_at sets region ≡ r.1 = ap (λ (k : ℕ). get_or sets k []) (let z : region ≡ r.0 - 0 = omega (arith, same) in z) ∙ s.is in
      let p : IsPlaced r.1 first = placed r.1 first rest ok in
      let high : region < length sets = omega (arith, s.high, same) in
      record {
        high = high;
        lies = record {
          region = high;
          from = subst (λ (set : List Mapping). relative_of set first % unit_of set ≡ 0) (sym set_is) p.from;
          to = subst (λ (set : List Mapping). first.label.raw % unit_of set ≡ 0) (sym set_is) p.to;
          inside = subst (λ (set : List Mapping). relative_of set first + first.label.raw ≤ span_of set) (sym set_is) p.inside;
        };
      }

  pub there : (n : Namespace) (e : Extent) → IsOfLabels sets n → true ≡ is_rescuable n.status → Some region ≡ n.region → Some e ≡ slice_get n.extents 0 → IsThere e
  there n e of ok at is =
      let base : (true ≡ is_rescuable (entry_with sets (of.first ∷ of.rest) of.first).status) → (Some region ≡ (entry_with sets (of.first ∷ of.rest) of.first).region) → (Some e ≡ Some (extent_of of.first)) → IsThere e =
      (λ ok' at' is'. subst IsThere (let z : extent_of of.first ≡ e = cc in z) (by_region of.first of.rest (region_of sets of.first) refl (sym ok') (sym at'))) in
      base (ok ∙ ap (λ (m : Namespace). is_rescuable m.status) of.is) (at ∙ ap (λ (m : Namespace). m.region) of.is) (is ∙ ap (λ (m : Namespace). slice_get m.extents 0) of.is)

-- ---- what it comes to

-- it has a region and a first label
pub one_is : (sets : List (List Mapping)) (namespaces : List Namespace) (n : Namespace) (region : ℕ) (e : Extent) → true ≡ is_rescuable n.status → true ≡ is_sector n.mode → n.region ≡ Some region → Some e ≡ slice_get n.extents 0
    → rescued_one sets namespaces (Some n) ≡ rescued_with sets namespaces n (found_at sets n.mode region e)
one_is sets namespaces n region e ok sector at is =
    (λ i. one (sym ok i) (sym sector i) (at i) n.extents) ∙ by n.extents is
  where
    one : Bool → Bool → Option ℕ → List Extent → Result RescueFound OpRefused
    one rescuable sector place extents =
        if not rescuable then Err NotComplete
        else if not sector then Err NotSector
        else rescued_by sets namespaces n place extents

    by : (extents : List Extent) → Some e ≡ slice_get extents 0 → rescued_by sets namespaces n (Some region) extents ≡ rescued_with sets namespaces n (found_at sets n.mode region e)
    by [] f = absurd (none-some e (sym f))
    by (x ∷ xs) f = ap (λ (y : Extent). rescued_with sets namespaces n (found_at sets n.mode region y)) (let z : x ≡ e = cc in z)
