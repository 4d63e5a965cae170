-- After a front of the changes that remove an unfinished entry, recovery has the same result.
use Rattle.std.proofs.Common.{◌≡◌, ◌≢◌, ℕ, zero, suc, ◌+◌, ◌<◌, Bool, true, false, List, [], ◌∷◌, take, get_or, Option, Some, None, refl, sym, ap, ◌∙◌, subst, arith, inl, inr, ◌⊎◌}
use Rattle.std.specs.Prelude.{map, find, slice_get}
use Rattle.std.specs.Option.{option_map}
use Rattle.std.specs.List.{AllByRecursion, enumerate_from, list_any}
use Rattle.std.proofs.Math.ListN.{length-map}
use Rattle.std.proofs.lemmas.Bool.{cases_Bool, eq-eqb}
use Rattle.std.proofs.lemmas.Option.{none-some, same_Some}
use Rattle.nfit_reader.specs.declared.table.Mapping.{Mapping}
use Rattle.label_codec.specs.declared.label.Label.{Label}
use Rattle.label_set.specs.declared.placed.Placed.{Placed}
use Rattle.label_set.specs.declared.placed.SetStatus.TheVariants.{Unfinished, Local, Incomplete}
use Rattle.label_set.specs.declared.placed.Why.TheVariants.{Outside}
use Rattle.label_set.specs.Rules.{is_local}
use Rattle.label_set.specs.Status.{status_of}
use Rattle.namespace_map.specs.Namespaces.{AreaSummary, NamespaceEntry, Namespaces, entry_with, holds_label, region_of, status_in}
use Rattle.namespace_map.proofs.Entries.{lookup_entries}
use Rattle.namespace_map.proofs.Rising.{rising_entries}
use Rattle.namespace_map.specs.Areas.{Area, Change, slots_on, slots_of, free_in, area_at, all_changed}
use Rattle.namespace_map.specs.Commands.{no_area, count_in, unfinished_gone}
use Rattle.namespace_map.specs.Changes.{namespaces_of, placed_in_all, area_summary, own_labels, change_to}
use Rattle.namespace_map.specs.CommandLaws.{IsOf}
use Rattle.namespace_map.proofs.Slots.{owned}
use Rattle.namespace_map.proofs.Areas.{Proper, moved_all}
use Rattle.namespace_map.specs.Left.{AreRegions, LabelsAreRead}
use Rattle.namespace_laws.proofs.Whole.{AllLab, own_of, IsBy, slot_on, all_by, own_each}
use Rattle.namespace_laws.proofs.Sound.{Shared, SoundAt, SoundIn}
use Rattle.namespace_laws.proofs.Table.{Model, SoundAs, at_like, changes_now, like_self, like_slot, own_unfinished}
use Rattle.namespace_laws.proofs.Staged.{Apart, names, moved_hit, moved_miss, unnamed, all_map}
use Rattle.namespace_laws.proofs.Two.{length_kept}
use Rattle.namespace_laws.proofs.Delete.{to_nothing}
use Rattle.namespace_laws.proofs.Final.{owned_count, state_after, get_state}
use Rattle.namespace_laws.proofs.Complete.{shared_of}
use Rattle.namespace_laws.proofs.Proper.{bytes_of_lab}
use Rattle.namespace_laws.proofs.Recovers.{own_modules}
use Rattle.namespace_laws.proofs.Recovery.{AreNear, recovered_same, settle, weight, with_free}
use Rattle.namespace_laws.proofs.Regions.{in_region}
use Rattle.namespace_laws.proofs.Sets.{is_set}
use Rattle.namespace_laws.proofs.Fronts.{take_all, take_map}
use Rattle.namespace_laws.proofs.Gone.{found, found_by_own, others_own}
use Rattle.namespace_laws.proofs.GoneLists.{Removed, removed}
use Rattle.namespace_laws.proofs.OwnLabels as mine
use Rattle.namespace_laws.proofs.SettleFront.{recovery_of}
use Rattle.namespace_laws.proofs.Unfinished.{Facts, facts}

-- ---- fronts of lists

take_apart : (k : ℕ) (ps : List (ℕ × Label)) → Apart ps → Apart (take k ps)
take_apart zero ps apart = tt
take_apart (suc k) [] apart = tt
take_apart (suc k) (p ∷ ps) (one, rest) = (take_all (λ q. p.0 ≢ q.0) k ps one, take_apart k ps rest)

-- ---- the labels of an unfinished entry

record Found (sets : List (List Mapping)) (own : List Placed) : Type 0 where
  first : Placed
  rest : List Placed
  own_is : own ≡ first ∷ rest
  region : ℕ
  set : List Mapping
  at : slice_get sets region ≡ Some set
  status : status_of set own ≡ Unfinished

found_place : (sets : List (List Mapping)) (test : List Mapping → Bool) (k : ℕ) (r : ℕ × List Mapping) → find (λ r. test r.1) (enumerate_from k sets) ≡ Some r → (j : ℕ) × (slice_get sets j ≡ Some r.1)
found_place [] test k r e = absurd (none-some r e)
found_place (s ∷ sets) test k r e = by (cases_Bool (test s)) (found_place sets test (k + 1) r)
  where
    by : (test s ≡ true) ⊎ (test s ≡ false) → (find (λ r. test r.1) (enumerate_from (k + 1) sets) ≡ Some r → (j : ℕ) × (slice_get sets j ≡ Some r.1)) → (j : ℕ) × (slice_get (s ∷ sets) j ≡ Some r.1)
    by (inl it) later = (0, ap (λ (x : ℕ × List Mapping). Some x.1) (same_Some (k, s) r (rw it at e)))
    by (inr not_it) later = let h = later (rw not_it at e) in (suc h.0, h.1)

found_in : (sets : List (List Mapping)) (own : List Placed) (e : NamespaceEntry) → option_map (entry_with sets own) (slice_get own 0) ≡ Some e → e.status ≡ Unfinished → Found sets own
found_in sets own e is status = by own refl
  where
    region_by : (first : Placed) (rest : List Placed) → own ≡ first ∷ rest → (o : Option (ℕ × List Mapping)) → region_of sets first ≡ o → status_in o own first ≡ Unfinished → Found sets own
    region_by first rest own_is None r e' = elim (cases_Bool (list_any is_local own)) [
      | inl it ↦ absurd (let g : Local ≡ Unfinished = rw it at e' in cc)
      | inr not_it ↦ absurd (let g : Incomplete (Outside first.«module») ≡ Unfinished = rw not_it at e' in cc)
    ]
    region_by first rest own_is (Some r) found e' =
        let place = found_place sets (holds_label first) 0 r found in record { first = first; rest = rest; own_is = own_is; region = place.0; set = r.1; at = place.1; status = e' }

    by : (xs : List Placed) → own ≡ xs → Found sets own
    by [] nothing = absurd (none-some e (sym (ap (λ (xs : List Placed). option_map (entry_with sets own) (slice_get xs 0)) nothing) ∙ is))
    by (first ∷ rest) own_is =
        let same : entry_with sets own first ≡ e = same_Some (entry_with sets own first) e (sym (ap (λ (xs : List Placed). option_map (entry_with sets own) (slice_get xs 0)) own_is) ∙ is) in
        region_by first rest own_is (region_of sets first) refl (ap (λ (x : NamespaceEntry). x.status) same ∙ status)

-- nothing is left, or an unfinished entry
abbrev Goes : Option NamespaceEntry → Type 0
Goes o = (o ≡ None) ⊎ ((x : NamespaceEntry) × (o ≡ Some x) × (x.status ≡ Unfinished))

goes_settled : (gone : Namespaces) (o : Option NamespaceEntry) → Goes o → settle gone o ≡ None
goes_settled gone o (inl none) = ap (settle gone) none
goes_settled gone o (inr (x, is, status)) = ap (settle gone) is ∙ rw status refl

-- its slots are those of its labels
goes_weight : (sets : List (List Mapping)) (left : List (Option Area)) (uuid : List ℕ) (lab : ℕ → Option Label) → Proper uuid lab left → Goes (found sets left uuid) → (i : ℕ) → weight (found sets left uuid) i ≡ owned (lab i)
goes_weight sets left uuid lab proper goes i = by goes ∙ sym (owned_count uuid lab left proper i)
  where
    by : Goes (found sets left uuid) → weight (found sets left uuid) i ≡ count_in (map (λ (p : Placed). p.«module») (own_of uuid left)) i
    by (inr (x, is, status)) = ap (λ (o : Option NamespaceEntry). weight o i) is ∙ rw status (ap (λ (ms : List ℕ). count_in ms i) (own_modules sets left uuid x is))
    by (inl none) = ap (λ (o : Option NamespaceEntry). weight o i) none ∙ sym (ap (λ (xs : List Placed). count_in (map (λ (p : Placed). p.«module») xs) i) (nothing (own_of uuid left) refl))
      where
        nothing : (xs : List Placed) → own_of uuid left ≡ xs → xs ≡ []
        nothing [] own_is = refl
        nothing (x ∷ xs) own_is =
            absurd (none-some (entry_with sets (own_of uuid left) x)
            (sym none ∙ lookup_entries sets (placed_in_all left) uuid ∙ ap (λ (ys : List Placed). option_map (entry_with sets (own_of uuid left)) (slice_get ys 0)) own_is))

module _ (sets : List (List Mapping)) (areas : List (Option Area)) (uuid : List ℕ) (e : NamespaceEntry) (regions : AreRegions sets) (read : LabelsAreRead areas) (is : found sets areas uuid ≡ Some e) (status : e.status ≡ Unfinished) where
  abbrev own : List Placed
  own = own_of uuid areas

  at_first : option_map (entry_with sets own) (slice_get own 0) ≡ Some e
  at_first = sym (lookup_entries sets (placed_in_all areas) uuid) ∙ is

  once : mine.IsOnce own
  once = mine.entry_once sets own e at_first status

  abbrev lab : ℕ → Option Label
  lab = mine.lab uuid areas read once

  proper : Proper uuid lab areas
  proper = mine.proper uuid areas read once

  abbrev ps : List (ℕ × Label)
  ps = own_labels areas uuid

  standing : Found sets own
  standing = found_in sets own e at_first status

  abbrev set : List Mapping
  set = standing.set

  abbrev c : Shared
  c = shared_of set standing.first

  rules : Facts set standing.first own
  rules = subst (λ (xs : List Placed). Facts set standing.first xs) (sym standing.own_is) (facts set standing.first standing.rest (subst (λ (xs : List Placed). status_of set xs ≡ Unfinished) standing.own_is standing.status))

  sound : AllLab (SoundAt set c) lab
  sound = mine.each_lab uuid areas read once (SoundAt set c) rules.sound

  updating : AllLab (λ m l. changes_now l ≡ true) lab
  updating = mine.each_lab uuid areas read once (λ m l. changes_now l ≡ true) rules.updating

  some_bytes : 0 < c.raw
  some_bytes = by (subst (AllByRecursion (IsBy lab (slot_on uuid areas))) standing.own_is (all_by uuid lab areas proper))
    where
      by : AllByRecursion (IsBy lab (slot_on uuid areas)) (standing.first ∷ standing.rest) → 0 < standing.first.label.raw
      by (one, rest) = subst (λ (l : Label). 0 < l.raw) (sym one.label_is) (bytes_of_lab uuid areas read once standing.first.«module» one.given one.is_given)

  region_is : (p : Placed) → SoundIn set c p → region_of sets p ≡ Some (standing.region, set)
  region_is = in_region sets standing.region set c regions.apart (λ j s at. let r = regions.read j s at in is_set r.0 s r.2 r.1) standing.at some_bytes

  abbrev model : Model
  model = record { shared = c; base = lab }

  -- ---- a front of its labels is removed

  module _ (k : ℕ) where
    abbrev cs : List Change
    cs = map (change_to to_nothing) (take k ps)

    abbrev left : List (Option Area)
    left = all_changed areas cs

    abbrev lab_then : ℕ → Option Label
    lab_then = moved_all lab cs

    went : Removed uuid lab areas (take k ps)
    went = removed (take k ps) uuid lab areas proper (take_all (λ p. lab p.0 ≡ Some p.1) k ps (mine.labels uuid areas read once)) (take_apart k ps (mine.apart uuid areas read once))

    nothings : (qs : List (ℕ × Label)) → AllByRecursion (λ (q : ℕ × Label). to_nothing q.1 ≡ None) qs
    nothings [] = tt
    nothings (q ∷ qs) = (refl, nothings qs)

    -- a remaining label was there before
    was : (m : ℕ) (l : Label) → lab_then m ≡ Some l → lab m ≡ Some l
    was m l at = elim (cases_Bool (names (take k ps) m)) [
      | inl it ↦ absurd (none-some l (sym (moved_hit (λ n o. o ≡ None) to_nothing (take k ps) lab m it (nothings (take k ps))) ∙ at))
      | inr not_it ↦ sym (moved_miss to_nothing (take k ps) lab m (unnamed (take k ps) m not_it)) ∙ at
    ]

    sound_then : AllLab (SoundAs set model) lab_then
    sound_then m l at = record { sound = sound m l (was m l at); meant = l; is_meant = was m l at; like = like_self l }

    good : AllByRecursion (λ p. SoundIn set c p) (own_of uuid left)
    good = own_each uuid lab_then left went.proper (SoundAt set c) (λ m l at n. at_like set c m l (record l { slot = n }) (sound m l (was m l at)) (like_slot l n))

    -- one is removed
    short : (p : ℕ × Label) → lab p.0 ≡ Some p.1 → names (take k ps) p.0 ≡ true → status_of set (own_of uuid left) ≡ Unfinished
    short p at named =
        let s = sound p.0 p.1 at in
        own_unfinished uuid set model rules.whole lab_then left went.proper sound_then p.0 s.mapping s.found (moved_hit (λ n o. o ≡ None) to_nothing (take k ps) lab p.0 named (nothings (take k ps)))
        (λ m l there. updating m l (was m l there))

    goes_then : status_of set (own_of uuid left) ≡ Unfinished → Goes (found sets left uuid)
    goes_then unfinished = by (own_of uuid left) refl good
      where
        by : (xs : List Placed) → own_of uuid left ≡ xs → AllByRecursion (λ p. SoundIn set c p) xs → Goes (found sets left uuid)
        by [] own_is all = inl (lookup_entries sets (placed_in_all left) uuid ∙ ap (λ (ys : List Placed). option_map (entry_with sets (own_of uuid left)) (slice_get ys 0)) own_is)
        by (p ∷ rest) own_is (one, others) = inr (
          entry_with sets (own_of uuid left) p,
          lookup_entries sets (placed_in_all left) uuid ∙ ap (λ (ys : List Placed). option_map (entry_with sets (own_of uuid left)) (slice_get ys 0)) own_is,
          ap (λ (o : Option (ℕ × List Mapping)). status_in o (own_of uuid left) p) (region_is p one) ∙ unfinished,
        )

    abbrev ns : Namespaces
    ns = namespaces_of sets areas

    free_is : (i : ℕ) → (area_summary (area_at areas i)).free ≡ free_in (slots_on areas i)
    free_is i = by (area_at areas i)
      where
        by : (a : Option Area) → (area_summary a).free ≡ free_in (slots_of a)
        by None = refl
        by (Some a) = refl

    of : AllByRecursion (IsOf uuid) cs
    of = all_map (IsOf uuid) (change_to to_nothing) (take k ps) (each (take k ps) (take_all (λ p. lab p.0 ≡ Some p.1) k ps (mine.labels uuid areas read once)))
      where
        each : (qs : List (ℕ × Label)) → AllByRecursion (λ p. lab p.0 ≡ Some p.1) qs → AllByRecursion (λ p. IsOf uuid (change_to to_nothing p)) qs
        each [] all = tt
        each (q ∷ qs) (at, all) = (record { of_uuid = proper.named q.0 q.1 at; label_of_uuid = λ l e'. absurd (none-some l e') }, each qs all)

    near : Goes (found sets left uuid) → AreNear (namespaces_of sets left) ns uuid
    near goes = record {
      sets = refl;
      claims = refl;
      rising_left = rising_entries sets (placed_in_all left);
      rising_right = rising_entries sets (placed_in_all areas);
      others = λ u ne. found_by_own sets left areas u (others_own cs areas u uuid ne of);
      count = length-map left area_summary ∙ length_kept cs areas ∙ sym (length-map areas area_summary);
      areas = λ i below.
          let s : AreaSummary = get_or ns.areas i no_area in
          let free : s.free ≡ free_in (slots_on areas i) = ap (λ (a : AreaSummary). a.free) (get_state areas i) ∙ free_is i in
          let then : get_or (namespaces_of sets left).areas i no_area ≡ with_free s (free_in (slots_on left i)) =
          get_state left i ∙ state_after cs areas i (free_in (slots_on left i)) refl ∙ sym (ap (λ (a : AreaSummary). with_free a (free_in (slots_on left i))) (get_state areas i)) in
          let a = goes_weight sets left uuid lab_then went.proper goes i in
          let b = goes_weight sets areas uuid lab proper (inr (e, is, status)) i in
          let sum = went.sum i in
          ap (λ (a : AreaSummary). with_free a (a.free + weight (found sets left uuid) i)) then
          ∙ ap (with_free s) (omega (arith, a, b, sum, free));
    }

    recovers : Goes (found sets left uuid) → recovery_of sets left ≡ recovery_of sets areas
    recovers goes =
        recovered_same (namespaces_of sets left) ns uuid (near goes)
        (goes_settled (unfinished_gone (namespaces_of sets left) (namespaces_of sets left).entries) (found sets left uuid) goes
        ∙ sym (goes_settled (unfinished_gone ns ns.entries) (found sets areas uuid) (inr (e, is, status))))

  -- nothing is removed yet, or one label is
  abbrev Front : ℕ → Type 0
  Front j = (take j ps ≡ []) ⊎ ((p : ℕ × Label) × (lab p.0 ≡ Some p.1) × (names (take j ps) p.0 ≡ true))

  cases_front : (j : ℕ) → Front j
  cases_front j = at (take j ps) refl (take_all (λ p. lab p.0 ≡ Some p.1) j ps (mine.labels uuid areas read once))
    where
      at : (qs : List (ℕ × Label)) → take j ps ≡ qs → AllByRecursion (λ p. lab p.0 ≡ Some p.1) qs → Front j
      at [] same all = inl same
      at (q ∷ qs) same (here, all) = inr (q, here, ap (λ (xs : List (ℕ × Label)). names xs q.0) same ∙ rw (eq-eqb q.0 q.0 refl) refl)

  by_front : (j : ℕ) → Front j → recovery_of sets (all_changed areas (map (change_to to_nothing) (take j ps))) ≡ recovery_of sets areas
  unfolding all_changed
  by_front j (inl none) = ap (λ (qs : List (ℕ × Label)). recovery_of sets (all_changed areas (map (change_to to_nothing) qs))) none
  by_front j (inr (p, at, named)) = recovers j (goes_then j (short j p at named))

  pub front_recovers : (k : ℕ) → recovery_of sets (all_changed areas (take k (map (change_to to_nothing) ps))) ≡ recovery_of sets areas
  front_recovers k = ap (λ (cs : List Change). recovery_of sets (all_changed areas cs)) (take_map (change_to to_nothing) k ps) ∙ by_front k (cases_front k)
