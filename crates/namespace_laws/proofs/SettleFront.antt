-- After a front of the changes that settle one entry, recovery has the same result.
use Rattle.std.proofs.Common.{◌≡◌, ℕ, ◌+◌, ◌<◌, ◌≤◌, Bool, true, List, length, take, get_or, Option, Some, None, refl, sym, ap, ◌∙◌, arith, inl, inr, ◌⊎◌}
use Rattle.std.specs.Prelude.{◌&&◌, map, filter, unwrap_or}
use Rattle.std.proofs.Math.ListN.{length-map}
use Rattle.std.proofs.lemmas.Bool.{and_parts, cases_lt}
use Rattle.std.proofs.lemmas.Option.{unwrap_or-slice_get, slice_get_past}
use Rattle.std.specs.List.{list_any}
use Rattle.nfit_reader.specs.declared.table.Mapping.{Mapping}
use Rattle.label_codec.specs.declared.label.Label.{Label}
use Rattle.label_set.specs.declared.placed.SetStatus.TheVariants.{Complete}
use Rattle.namespace_map.specs.Namespaces.{AreaSummary, NamespaceEntry, Namespaces}
use Rattle.namespace_map.proofs.Rising.{rising_entries}
use Rattle.namespace_map.specs.Areas.{Area, Change, slots_on, slots_of, free_in, area_at, all_changed}
use Rattle.namespace_map.specs.Commands.{no_area, area_of, unfinished_gone, after_recovery}
use Rattle.namespace_map.specs.Changes.{namespaces_of, placed_in_all, area_summary, own_labels, change_to, with_name, is_unsettled}
use Rattle.label_codec.specs.Flags.{updated}
use Rattle.namespace_map.specs.Left.{AreRegions, LabelsAreRead}
use Rattle.namespace_laws.proofs.Staged.{Apart, names}
use Rattle.namespace_laws.proofs.Two.{length_kept}
use Rattle.namespace_laws.proofs.Allowed.{area_free}
use Rattle.namespace_laws.proofs.Final.{state_after, get_state}
use Rattle.namespace_laws.proofs.Recovery.{AreNear, gone_area, recovered_same, settle, settle_same, weight, with_free}
use Rattle.namespace_laws.proofs.Fronts.{front_passes, take_map}
use Rattle.namespace_laws.proofs.Gone.{found, found_by_own, others_own}
use Rattle.namespace_laws.proofs.OwnLabels as mine
use Rattle.namespace_laws.proofs.SettleEntry as one

-- the result of recovery for the namespaces of areas
abbrev pub recovery_of : List (List Mapping) → List (Option Area) → Namespaces
recovery_of sets areas = after_recovery (namespaces_of sets areas)

-- removing unfinished entries leaves no module with fewer free slots
pub more_free : (sets : List (List Mapping)) (areas : List (Option Area)) (m : ℕ) → free_in (slots_on areas m) ≤ (area_of (unfinished_gone (namespaces_of sets areas) (namespaces_of sets areas).entries) m).free
more_free sets areas m = by (cases_lt m (length areas))
  where
    by : (m < length areas) ⊎ (length areas ≤ m) → free_in (slots_on areas m) ≤ (area_of (unfinished_gone (namespaces_of sets areas) (namespaces_of sets areas).entries) m).free
    by (inl below) =
        let before : (area_of (namespaces_of sets areas) m).free ≡ free_in (slots_on areas m) = area_free sets areas m in
        let at : area_of (namespaces_of sets areas) m ≡ get_or (namespaces_of sets areas).areas m no_area = unwrap_or-slice_get (namespaces_of sets areas).areas m no_area in
        let then : area_of (unfinished_gone (namespaces_of sets areas) (namespaces_of sets areas).entries) m ≡ get_or (unfinished_gone (namespaces_of sets areas) (namespaces_of sets areas).entries).areas m no_area =
        unwrap_or-slice_get (unfinished_gone (namespaces_of sets areas) (namespaces_of sets areas).entries).areas m no_area in
        let given = ap (λ (s : AreaSummary). s.free) (gone_area (namespaces_of sets areas).entries (namespaces_of sets areas) m (omega (arith, below, length-map areas area_summary))) in
        let f = ap (λ (s : AreaSummary). s.free) then in
        let g = ap (λ (s : AreaSummary). s.free) at in
        omega (arith, before, given, f, g)
    by (inr past) =
        let nothing : free_in (slots_on areas m) ≡ 0 = ap (λ (o : Option (Option Area)). free_in (slots_of (unwrap_or o None))) (slice_get_past areas m past) in
        omega (arith, nothing)

module _ (sets : List (List Mapping)) (areas : List (Option Area)) (uuid : List ℕ) (e : NamespaceEntry) (pending : Bool) (regions : AreRegions sets) (read : LabelsAreRead areas)
    (is : found sets areas uuid ≡ Some e) (status : e.status ≡ Complete e.name pending) (t : ℕ × Label → Bool) (may : (p : ℕ × Label) → t p ≡ true → is_unsettled areas p ≡ true) where
  abbrev cs : List Change
  cs = one.cs sets areas uuid e pending regions read is status t may

  abbrev left : List (Option Area)
  left = all_changed areas cs

  abbrev ns : Namespaces
  ns = namespaces_of sets areas

  abbrev then : NamespaceEntry
  then = one.entry_then sets areas uuid e pending regions read is status t may

  found_then : found sets left uuid ≡ Some then
  found_then = one.found_then sets areas uuid e pending regions read is status t may

  free_is : (i : ℕ) → (area_summary (area_at areas i)).free ≡ free_in (slots_on areas i)
  free_is i = by (area_at areas i)
    where
      by : (a : Option Area) → (area_summary a).free ≡ free_in (slots_of a)
      by None = refl
      by (Some a) = refl

  same_state : (i : ℕ) → get_or (namespaces_of sets left).areas i no_area ≡ get_or ns.areas i no_area
  same_state i =
      get_state left i
      ∙ state_after cs areas i (free_in (slots_on areas i)) (one.free_same sets areas uuid e pending regions read is status t may i)
      ∙ ap (λ (n : ℕ). record (area_summary (area_at areas i)) { free = n }) (sym (free_is i))
      ∙ sym (get_state areas i)

  none_given : (i : ℕ) → weight (found sets areas uuid) i ≡ 0
  none_given i = ap (λ (o : Option NamespaceEntry). weight o i) is ∙ rw status refl

  none_given_then : (i : ℕ) → weight (found sets left uuid) i ≡ 0
  none_given_then i = ap (λ (o : Option NamespaceEntry). weight o i) found_then

  near : AreNear (namespaces_of sets left) ns uuid
  near = record {
    sets = refl;
    claims = refl;
    rising_left = rising_entries sets (placed_in_all left);
    rising_right = rising_entries sets (placed_in_all areas);
    others = λ u ne. found_by_own sets left areas u (others_own cs areas u uuid ne (one.of sets areas uuid e pending regions read is status t may));
    count = length-map left area_summary ∙ length_kept cs areas ∙ sym (length-map areas area_summary);
    areas = λ i below.
        ap (λ (n : ℕ). with_free (get_or (namespaces_of sets left).areas i no_area) ((get_or (namespaces_of sets left).areas i no_area).free + n)) (none_given_then i)
        ∙ ap (λ (s : AreaSummary). with_free s (s.free + 0)) (same_state i)
        ∙ ap (λ (n : ℕ). with_free (get_or ns.areas i no_area) ((get_or ns.areas i no_area).free + n)) (sym (none_given i));
  }

  abbrev gone : Namespaces
  gone = unfinished_gone ns ns.entries

  pub settled_recovers : recovery_of sets left ≡ recovery_of sets areas
  settled_recovers =
      recovered_same (namespaces_of sets left) ns uuid near
      (settle_same (namespaces_of sets left) ns uuid near (found sets left uuid)
      ∙ ap (settle gone) found_then
      ∙ ap Some (one.settled_same sets areas uuid e pending regions read is status t may gone (more_free sets areas))
      ∙ sym (ap (settle gone) is ∙ rw status refl))

module _ (sets : List (List Mapping)) (areas : List (Option Area)) (uuid : List ℕ) (e : NamespaceEntry) (pending : Bool) (regions : AreRegions sets) (read : LabelsAreRead areas)
    (is : found sets areas uuid ≡ Some e) (status : e.status ≡ Complete e.name pending) where
  abbrev pub unsettled : List (ℕ × Label)
  unsettled = filter (is_unsettled areas) (own_labels areas uuid)

  abbrev pub settling : List Change
  settling = one.cs sets areas uuid e pending regions read is status (is_unsettled areas) (λ p u. u)

  abbrev front : ℕ → ℕ × Label → Bool
  front k p = is_unsettled areas p && names (take k unsettled) p.0

  apart : Apart (own_labels areas uuid)
  apart = mine.apart uuid areas read (one.rules sets areas uuid e pending regions read is status (is_unsettled areas) (λ p u. u)).once

  may : (k : ℕ) (p : ℕ × Label) → front k p ≡ true → is_unsettled areas p ≡ true
  may k p passes = (and_parts (is_unsettled areas p) (names (take k unsettled) p.0) passes).0

  -- a front of the changes settles some of the labels
  front_is : (k : ℕ) → take k settling ≡ one.cs sets areas uuid e pending regions read is status (front k) (may k)
  front_is k = take_map (change_to (λ l. Some (with_name e.name (updated l)))) k unsettled ∙ ap (map (change_to (λ l. Some (with_name e.name (updated l))))) (front_passes (is_unsettled areas) k (own_labels areas uuid) apart)

  pub front_recovers : (k : ℕ) → recovery_of sets (all_changed areas (take k settling)) ≡ recovery_of sets areas
  front_recovers k = ap (λ (cs : List Change). recovery_of sets (all_changed areas cs)) (front_is k) ∙ settled_recovers sets areas uuid e pending regions read is status (front k) (may k)

  -- the entry after a front: fewer of its labels have UPDATING
  abbrev pub entry_with_updating : List ℕ → NamespaceEntry
  entry_with_updating updating = record e { updating = updating; status = Complete e.name (list_any (λ (m : ℕ). true) updating) }

  pub front_found : (k : ℕ) → (updating : List ℕ) × (found sets (all_changed areas (take k settling)) uuid ≡ Some (entry_with_updating updating))
  front_found k = (_, ap (λ (cs : List Change). found sets (all_changed areas cs) uuid) (front_is k) ∙ one.found_then sets areas uuid e pending regions read is status (front k) (may k))
