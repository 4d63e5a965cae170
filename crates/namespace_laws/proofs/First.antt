-- A delete or rename of any complete entry: a pending one with several labels is settled first.
use Rattle.std.proofs.Common.{◌≡◌, ◌≢◌, ℕ, ◌-◌, ◌<◌, ◌≤◌, Bool, true, false, cond, List, [], ◌∷◌, ◌++◌, length, take, Option, Some, None, refl, sym, ap, ◌∙◌, subst, arith, inl, inr, ◌⊎◌}
use Rattle.std.specs.Prelude.{◌==◌, ◌&&◌, nat_lt, nat_le, if◌then◌else◌, not, map, filter, slice_get}
use Rattle.std.specs.Option.{option_map}
use Rattle.std.specs.List.{AllByRecursion, Contains, list_any}
use Rattle.std.specs.Str.{bytes_eq}
use Rattle.std.proofs.lemmas.Bool.{cases_Bool, cases_lt, le-leb, ltb-false, ne_eqb}
use Rattle.std.proofs.lemmas.List.{take_all}
use Rattle.std.proofs.lemmas.Option.{none-some, same_Some}
use Rattle.std.proofs.lemmas.Slice.Eq.{bytes_eq-Decides}
use Rattle.nvd_words.specs.Checks.{first_fault, fault_if}
use Rattle.nfit_reader.specs.declared.table.Mapping.{Mapping}
use Rattle.label_codec.specs.declared.label.Label.{Label}
use Rattle.label_codec.specs.Flags.{updated}
use Rattle.label_set.specs.declared.placed.Placed.{Placed}
use Rattle.label_set.specs.declared.placed.SetStatus.{SetStatus}
use Rattle.label_set.specs.declared.placed.SetStatus.TheVariants.{Complete}
use Rattle.label_set.specs.Rules.{is_updating, module_of}
use Rattle.namespace_map.specs.Namespaces.{AreaSummary, NamespaceEntry, Namespaces, Part, claims_of, entry_with, labels_with, lookup, part_of, put, without}
use Rattle.namespace_map.specs.Laws.{IsRising}
use Rattle.namespace_map.specs.declared.commands.Command.{Command}
use Rattle.namespace_map.specs.declared.commands.Command.TheVariants as command
use Rattle.namespace_map.specs.declared.commands.Named.{Named}
use Rattle.namespace_map.specs.declared.refused.OpRefused.{OpRefused}
use Rattle.namespace_map.specs.declared.refused.OpRefused.TheVariants.{Busy, NotComplete, ReadOnlyLabel}
use Rattle.namespace_map.specs.Areas.{Area, Change, after_steps, all_changed, changed_areas, steps_for}
use Rattle.namespace_map.specs.Commands.{after_recovery, area_of, bad_name, deleted_entry, done, entry_modules, entry_refusal, given_to, is_complete, is_pending, name_in, refusal_of, renamed, renamed_entry, settled_entry, settled_status, short_of}
use Rattle.namespace_map.specs.Changes.{change_to, changes_of, delete_changes, in_two, is_unsettled, namespaces_of, own_labels, placed_in_all, rename_changes, settled_first, settling_changes, then_on, with_name}
use Rattle.namespace_map.specs.CommandLaws.{IsOf}
use Rattle.namespace_map.specs.Left.{AreRegions, IsPending, LabelsAreRead, Left}
use Rattle.namespace_map.proofs.Entries as entries
use Rattle.namespace_map.proofs.Entries.{lookup_entries, lookup_put}
use Rattle.namespace_map.proofs.Fronts.{cut_is_front, IsFront}
use Rattle.namespace_map.proofs.Others.{cut_leaves_others}
use Rattle.namespace_map.proofs.Rising.{all_pass_to, rising_entries, rising_put, rising_same}
use Rattle.namespace_laws.specs.Apart.{AreApart, EntriesApart, KeepsApart, LeavesOthers}
use Rattle.namespace_laws.specs.Laws.{AnyDeleteIsCut, AnyRenameIsCut, CutOfAny, CutOfDelete, CutOfDeleteAlone, CutOfRename, CutOfRenameAlone, settled as as_settled}
use Rattle.namespace_laws.specs.Recovered.{RecoversToEither}
use Rattle.namespace_laws.specs.Whole.{Agrees}
use Rattle.namespace_laws.proofs.Agrees.{areas_same, entries_put, lookup_without, rising_without}
use Rattle.namespace_laws.proofs.AgreesEntry as agree
use Rattle.namespace_laws.proofs.Allowed.{area_free, not_short}
use Rattle.namespace_laws.proofs.Delete.{keeps_nothing, keeps_updating, to_nothing, to_updating}
use Rattle.namespace_laws.proofs.Disjoint.{itself, keeps_apart}
use Rattle.namespace_laws.proofs.DisjointEntry as disjoint
use Rattle.namespace_laws.proofs.EntryCut as cut
use Rattle.namespace_laws.proofs.EntryCut.{delete_good, rename_good}
use Rattle.namespace_laws.proofs.Final.{two_of}
use Rattle.namespace_laws.proofs.Gone.{found_by_own, others_own}
use Rattle.namespace_laws.proofs.GoneLists.{PutsBytes, read_all}
use Rattle.namespace_laws.proofs.One.{cut_of_one, one_of}
use Rattle.namespace_laws.proofs.RecoversLaw as law
use Rattle.namespace_laws.proofs.RecoversLaw.{RecoversBy}
use Rattle.namespace_laws.proofs.Refusals.{IsFound, delete_found, rename_found}
use Rattle.namespace_laws.proofs.Rename.{keeps_renamed, keeps_updated, to_renamed, to_updated}
use Rattle.namespace_laws.proofs.SettleEntry as one
use Rattle.namespace_laws.proofs.SettleFront as front
use Rattle.namespace_laws.proofs.Staged.{KeepsUuid, all_changed_append}
use Rattle.namespace_laws.proofs.Standing as st

-- ---- changes one after another

-- a crash in two lists of changes is one in the first, or one in the second after all of the first
pub cut_append : (cs ds : List Change) (areas : List (Option Area)) (n : ℕ) (stays : Bool)
    → (after_steps areas (cs ++ ds) n stays ≡ after_steps areas cs n stays) ⊎ ((m : ℕ) × (after_steps areas (cs ++ ds) n stays ≡ after_steps (all_changed areas cs) ds m stays))
unfolding after_steps all_changed
cut_append [] ds areas n stays = inr (n, refl)
cut_append (c ∷ cs) ds areas n stays = elim (cases_Bool (nat_le (steps_for areas c) n)) [
  | inl it ↦ rw it (cut_append cs ds (changed_areas areas c) (n - steps_for areas c) stays)
  | inr not_it ↦ rw not_it (inl refl)
]

-- ---- the list of entries

without_put : (es : List NamespaceEntry) (x : NamespaceEntry) → IsRising es → without x.uuid (put x es) ≡ without x.uuid es
without_put es x rising =
    rising_same (without x.uuid (put x es)) (without x.uuid es) (rising_without (put x es) x.uuid (rising_put es x rising)) (rising_without es x.uuid rising)
    (λ u. lookup_without (put x es) x.uuid u ∙ ap (λ (o : Option NamespaceEntry). cond (bytes_eq x.uuid u) None o) (lookup_put es x u) ∙ both (bytes_eq x.uuid u) (lookup u es) ∙ sym (lookup_without es x.uuid u))
  where
    both : (b : Bool) (o : Option NamespaceEntry) → ◌≡◌ {A = Option NamespaceEntry} (cond b None (cond b (Some x) o)) (cond b None o)
    both true o = refl
    both false o = refl

put_put : (es : List NamespaceEntry) (x y : NamespaceEntry) → x.uuid ≡ y.uuid → IsRising es → put y (put x es) ≡ put y es
put_put es x y same rising =
    rising_same (put y (put x es)) (put y es) (rising_put (put x es) y (rising_put es x rising)) (rising_put es y rising)
    (λ u. lookup_put (put x es) y u ∙ ap (λ (o : Option NamespaceEntry). cond (bytes_eq y.uuid u) (Some y) o) (lookup_put es x u ∙ ap (λ (v : List ℕ). cond (bytes_eq v u) (Some x) (lookup u es)) same)
    ∙ both (bytes_eq y.uuid u) (lookup u es) ∙ sym (lookup_put es y u))
  where
    both : (b : Bool) (o : Option NamespaceEntry) → ◌≡◌ {A = Option NamespaceEntry} (cond b (Some y) (cond b (Some x) o)) (cond b (Some y) o)
    both true o = refl
    both false o = refl

-- ---- the modules of labels with UPDATING are among those of all labels

some_modules : (P : ℕ → Type 0) (labels : List Placed) → AllByRecursion P (map (λ (p : Part). p.extent.«module») (map part_of labels)) → AllByRecursion P (map module_of (filter is_updating labels))
some_modules P [] all = tt
some_modules P (p ∷ labels) (one, rest) = by (is_updating p) (some_modules P labels rest)
  where
    by : (b : Bool) → AllByRecursion P (map module_of (filter is_updating labels)) → AllByRecursion P (map module_of (cond b (p ∷ filter is_updating labels) (filter is_updating labels)))
    by true more = (one, more)
    by false more = more

pub updating_among : (P : ℕ → Type 0) (sets : List (List Mapping)) (areas : List (Option Area)) (u : List ℕ) (x : NamespaceEntry) → lookup u (namespaces_of sets areas).entries ≡ Some x
    → AllByRecursion P (entry_modules x) → AllByRecursion P x.updating
updating_among P sets areas u x is = by (slice_get (labels_with u (placed_in_all areas)) 0) (sym (lookup_entries sets (placed_in_all areas) u) ∙ is)
  where
    by : (o : Option Placed) → option_map (entry_with sets (labels_with u (placed_in_all areas))) o ≡ Some x → AllByRecursion P (entry_modules x) → AllByRecursion P x.updating
    by None at = absurd (none-some x at)
    by (Some p) at =
        subst (λ (y : NamespaceEntry). AllByRecursion P (entry_modules y) → AllByRecursion P y.updating) (same_Some (entry_with sets (labels_with u (placed_in_all areas)) p) x at)
        (some_modules P (labels_with u (placed_in_all areas)))

none_full : (ns : Namespaces) (modules : List ℕ) → AllByRecursion (λ m. nat_lt (area_of ns m).free 1 ≡ false) modules → filter (λ m. (area_of ns m).free == 0) modules ≡ []
none_full ns [] all = refl
none_full ns (m ∷ modules) (some, rest) =
    let free : ((area_of ns m).free == 0) ≡ false = ne_eqb (area_of ns m).free 0 (λ z. let f = ltb-false (area_of ns m).free 1 some in omega (arith, f, z)) in
    rw free (none_full ns modules rest)

-- a command's own changes are of the UUID
own_of : (sets : List (List Mapping)) (areas : List (Option Area)) (uuid : List ℕ) (e : NamespaceEntry) (pending : Bool) → (regions : AreRegions sets) (read : LabelsAreRead areas)
    (is : lookup uuid (namespaces_of sets areas).entries ≡ Some e) (status : e.status ≡ Complete e.name pending) (unlocked : e.read_only ≡ None) (f g : Label → Option Label) → KeepsUuid f → KeepsUuid g
    → AllByRecursion (IsOf uuid) (in_two f g (own_labels areas uuid))
own_of sets areas uuid e pending regions read is status unlocked f g kf kg =
    let proper = st.proper sets areas uuid e pending regions read is status unlocked in
    two_of uuid f g kf kg (own_labels areas uuid)
    (all_pass_to (λ p. st.lab sets areas uuid e pending regions read is status unlocked p.0 ≡ Some p.1) (λ p. p.1.uuid ≡ uuid) (λ p at. proper.named p.0 p.1 at) (own_labels areas uuid)
    (st.labels sets areas uuid e pending regions read is status unlocked))

-- ---- a complete entry

module _ (sets : List (List Mapping)) (areas : List (Option Area)) (uuid : List ℕ) (e : NamespaceEntry) (pending : Bool) (regions : AreRegions sets) (read : LabelsAreRead areas)
    (is : lookup uuid (namespaces_of sets areas).entries ≡ Some e) (status : e.status ≡ Complete e.name pending) where
  abbrev ns : Namespaces
  ns = namespaces_of sets areas

  -- the changes that settle it
  abbrev pub cs : List Change
  cs = front.settling sets areas uuid e pending regions read is status

  abbrev pub left : List (Option Area)
  left = all_changed areas cs

  abbrev settled : NamespaceEntry
  settled = as_settled e

  entry_uuid : e.uuid ≡ uuid
  entry_uuid = entries.entry_uuid sets (placed_in_all areas) uuid e (sym (lookup_entries sets (placed_in_all areas) uuid) ∙ is)

  settling_is : settling_changes areas e ≡ cs
  settling_is =
      ap (λ (s : SetStatus). if is_complete s then map (change_to (λ l. Some (with_name e.name (updated l)))) (filter (is_unsettled areas) (own_labels areas e.uuid)) else []) status
      ∙ ap (λ (u : List ℕ). map (change_to (λ l. Some (with_name e.name (updated l)))) (filter (is_unsettled areas) (own_labels areas u))) entry_uuid

  pub first_is : pending ≡ true → 2 ≤ length e.parts → settled_first areas (lookup uuid ns.entries) ≡ cs
  first_is it many =
      ap (settled_first areas) is
      ∙ ap (λ (s : SetStatus). if is_pending s && nat_le 2 (length e.parts) then settling_changes areas e else []) (status ∙ ap (λ (b : Bool). Complete e.name b) it)
      ∙ ap (λ (b : Bool). if b then settling_changes areas e else []) (le-leb 2 (length e.parts) many)
      ∙ settling_is

  -- each label that is put first has some bytes
  pub first_bytes : AllByRecursion PutsBytes (settled_first areas (lookup uuid ns.entries))
  first_bytes =
      subst (AllByRecursion PutsBytes) (sym (ap (settled_first areas) is)) (elim (cases_Bool (is_pending e.status && nat_le 2 (length e.parts))) [
        | inl it ↦ rw it (subst (AllByRecursion PutsBytes) (sym settling_is) (one.bytes sets areas uuid e pending regions read is status (is_unsettled areas) (λ p u. u)))
        | inr not_it ↦ rw not_it tt
      ])

  -- one that isn't pending isn't settled first
  pub first_calm : pending ≡ false → settled_first areas (lookup uuid ns.entries) ≡ []
  first_calm calm =
      ap (settled_first areas) is
      ∙ ap (λ (s : SetStatus). if is_pending s && nat_le 2 (length e.parts) then settling_changes areas e else []) (status ∙ ap (λ (b : Bool). Complete e.name b) calm)

  -- nor is one with a single label
  pub first_alone : length e.parts ≡ 1 → settled_first areas (lookup uuid ns.entries) ≡ []
  first_alone alone =
      ap (settled_first areas) is
      ∙ ap (λ (n : ℕ). if is_pending e.status && nat_le 2 n then settling_changes areas e else []) alone
      ∙ both (is_pending e.status)
    where
      both : (b : Bool) → (if b && false then settling_changes areas e else []) ≡ []
      both true = refl
      both false = refl

  pub only_then : (next : List (Option Area) → List Change) → settled_first areas (lookup uuid ns.entries) ≡ [] → then_on areas (settled_first areas (lookup uuid ns.entries)) next ≡ next areas
  unfolding all_changed
  only_then next none = ap (λ (first : List Change). then_on areas first next) none

  pub both_then : (next : List (Option Area) → List Change) → pending ≡ true → 2 ≤ length e.parts → then_on areas (settled_first areas (lookup uuid ns.entries)) next ≡ cs ++ next left
  both_then next it many = ap (λ (first : List Change). then_on areas first next) (first_is it many)

  abbrev of_settling : AllByRecursion (IsOf uuid) cs
  of_settling = one.of sets areas uuid e pending regions read is status (is_unsettled areas) (λ p u. u)

  pub read_left : LabelsAreRead left
  read_left = read_all cs areas read (one.bytes sets areas uuid e pending regions read is status (is_unsettled areas) (λ p u. u))

  others_left : (v : List ℕ) → v ≢ uuid → lookup v (namespaces_of sets left).entries ≡ lookup v ns.entries
  others_left v ne = found_by_own sets left areas v (others_own cs areas v uuid ne of_settling)

  areas_left : (namespaces_of sets left).areas ≡ ns.areas
  areas_left = areas_same areas cs [] (one.free_same sets areas uuid e pending regions read is status (is_unsettled areas) (λ p u. u))

  whole_is : left ≡ all_changed areas (take (length cs) cs)
  whole_is = ap (all_changed areas) (sym (take_all (length cs) cs (omega arith)))

  left_recovers : after_recovery (namespaces_of sets left) ≡ after_recovery ns
  left_recovers = ap (λ (xs : List (Option Area)). after_recovery (namespaces_of sets xs)) whole_is ∙ front.front_recovers sets areas uuid e pending regions read is status (length cs)

  -- a crash while it is settled
  cut_recovers : (n : ℕ) (stays : Bool) → after_recovery (namespaces_of sets (after_steps areas cs n stays)) ≡ after_recovery ns
  cut_recovers n stays =
      let f = cut_is_front cs areas n stays in
      ap (λ (xs : List (Option Area)). after_recovery (namespaces_of sets xs)) f.2 ∙ front.front_recovers sets areas uuid e pending regions read is status f.0

  cut_found : (n : ℕ) (stays : Bool) → (updating : List ℕ) × (lookup uuid (namespaces_of sets (after_steps areas cs n stays)).entries ≡ Some (front.entry_with_updating sets areas uuid e pending regions read is status updating))
  cut_found n stays =
      let f = cut_is_front cs areas n stays in
      let found = front.front_found sets areas uuid e pending regions read is status f.0 in
      (found.0, ap (λ (xs : List (Option Area)). lookup uuid (namespaces_of sets xs).entries) f.2 ∙ found.1)

  parts_kept : (n : ℕ) (stays : Bool) (x : NamespaceEntry) → lookup uuid (namespaces_of sets (after_steps areas cs n stays)).entries ≡ Some x → AllByRecursion (Contains e.parts) x.parts
  parts_kept n stays x at =
      let found = cut_found n stays in
      subst (λ (y : NamespaceEntry). AllByRecursion (Contains e.parts) y.parts) (same_Some (front.entry_with_updating sets areas uuid e pending regions read is status found.0) x (sym found.1 ∙ at)) (itself e.parts)

  cut_apart : EntriesApart ns → (n : ℕ) (stays : Bool) → EntriesApart (namespaces_of sets (after_steps areas cs n stays))
  cut_apart before n stays =
      keeps_apart sets areas (after_steps areas cs n stays) uuid e before (λ v ne. cut_leaves_others sets areas uuid cs of_settling n stays v ne) (parts_kept n stays)
      (λ v f ne at. before uuid v e f (λ same. ne (sym same)) is at)

  left_apart : EntriesApart ns → EntriesApart (namespaces_of sets left)
  left_apart before =
      keeps_apart sets areas left uuid e before others_left
      (λ x at.
      let found = front.front_found sets areas uuid e pending regions read is status (length cs) in
      subst (λ (y : NamespaceEntry). AllByRecursion (Contains e.parts) y.parts)
      (same_Some (front.entry_with_updating sets areas uuid e pending regions read is status found.0) x (sym found.1 ∙ ap (λ (xs : List (Option Area)). lookup uuid (namespaces_of sets xs).entries) (sym whole_is) ∙ at)) (itself e.parts))
      (λ v f ne at. before uuid v e f (λ same. ne (sym same)) is at)

  -- ---- with a free slot on each of its modules

  module _ (room : short_of ns 1 (entry_modules e) ≡ None) where
    none_left : filter (λ m. (area_of ns m).free == 0) e.updating ≡ []
    none_left = none_full ns e.updating (updating_among (λ m. nat_lt (area_of ns m).free 1 ≡ false) sets areas uuid e is (not_short ns 1 (entry_modules e) room))

    -- all of its labels are settled
    pub found_left : lookup uuid (namespaces_of sets left).entries ≡ Some settled
    found_left =
        one.settled_found sets areas uuid e pending regions read is status (is_unsettled areas) (λ p u. u) (λ p. refl) ns (area_free sets areas)
        ∙ ap Some (ap (λ (s : SetStatus). record e {
          updating = if is_complete s then filter (λ m. (area_of ns m).free == 0) e.updating else e.updating;
          status = settled_status s (if is_complete s then filter (λ m. (area_of ns m).free == 0) e.updating else e.updating);
        }) status
        ∙ ap (λ (u : List ℕ). record e { updating = u; status = Complete e.name (list_any (λ (m : ℕ). true) u) }) none_left)

    refusal_left : (further : List AreaSummary → NamespaceEntry → List (Option OpRefused)) → ((as' : List AreaSummary) → further as' settled ≡ further as' e)
        → entry_refusal (lookup uuid (namespaces_of sets left).entries) (further (namespaces_of sets left).areas) ≡ entry_refusal (lookup uuid ns.entries) (further ns.areas)
    refusal_left further same =
        ap (λ (o : Option NamespaceEntry). entry_refusal o (further (namespaces_of sets left).areas)) found_left
        ∙ ap (λ (as' : List AreaSummary). entry_refusal (Some settled) (further as')) areas_left
        ∙ ap (λ (faults : List (Option OpRefused)). first_fault (fault_if (not true) NotComplete ∷ faults)) (same ns.areas)
        ∙ ap (λ (s : SetStatus). first_fault (fault_if (not (is_complete s)) NotComplete ∷ further ns.areas e)) (sym status)
        ∙ sym (ap (λ (o : Option NamespaceEntry). entry_refusal o (further ns.areas)) is)

    abbrev with_areas : List AreaSummary → Namespaces
    with_areas as' = record ns { areas = as' }

    -- the command isn't refused there either
    pub delete_allowed : refusal_of ns (command.Delete uuid) ≡ None → refusal_of (namespaces_of sets left) (command.Delete uuid) ≡ None
    delete_allowed good =
        refusal_left (λ as' x.
        fault_if (nat_lt 0 (claims_of ns uuid)) (Busy (claims_of ns uuid))
        ∷ option_map (λ number. ReadOnlyLabel number) x.read_only
        ∷ (if nat_le 2 (length x.parts) then short_of (with_areas as') 1 (entry_modules x) else None)
        ∷ []) (λ as'. refl) ∙ good

    pub rename_allowed : (name : Named) → refusal_of ns (command.Rename uuid name) ≡ None → refusal_of (namespaces_of sets left) (command.Rename uuid name) ≡ None
    rename_allowed name good =
        ap (λ (r : Option OpRefused). first_fault (bad_name name ∷ r ∷ []))
        (refusal_left (λ as' x. option_map (λ number. ReadOnlyLabel number) x.read_only ∷ short_of (with_areas as') 1 (entry_modules x) ∷ []) (λ as'. refl)) ∙ good

    entries_left : (namespaces_of sets left).entries ≡ put settled ns.entries
    entries_left = entries_put sets areas uuid cs of_settling settled entry_uuid found_left

    rising : IsRising ns.entries
    rising = rising_entries sets (placed_in_all areas)

    -- its step on the map is the same
    pub delete_done : done (namespaces_of sets left) (command.Delete uuid) ≡ done ns (command.Delete uuid)
    delete_done =
        ap (deleted_entry (namespaces_of sets left)) found_left
        ∙ ap (λ (as' : List AreaSummary). record ns { areas = given_to 0 (entry_modules e) as'; entries = without e.uuid (namespaces_of sets left).entries }) areas_left
        ∙ ap (λ (es : List NamespaceEntry). record ns { areas = given_to 0 (entry_modules e) ns.areas; entries = es }) (ap (without e.uuid) entries_left ∙ without_put ns.entries settled rising)
        ∙ sym (ap (deleted_entry ns) is)

    pub rename_done : (name : Named) → done (namespaces_of sets left) (command.Rename uuid name) ≡ done ns (command.Rename uuid name)
    rename_done name =
        ap (renamed_entry (namespaces_of sets left) (name_in name)) found_left
        ∙ ap (λ (as' : List AreaSummary). record ns { areas = as'; entries = put (renamed e (name_in name)) (namespaces_of sets left).entries }) areas_left
        ∙ ap (λ (es : List NamespaceEntry). record ns { entries = es }) (ap (put (renamed e (name_in name))) entries_left ∙ put_put ns.entries settled (renamed e (name_in name)) refl rising)
        ∙ sym (ap (renamed_entry ns (name_in name)) is)

  -- ---- the command's own changes after them

  module _ (c : Command) (next : List Change) (same : done (namespaces_of sets left) c ≡ done ns c) where
    agrees_after : namespaces_of sets (all_changed left next) ≡ done (namespaces_of sets left) c → namespaces_of sets (all_changed areas (cs ++ next)) ≡ done ns c
    agrees_after agrees = ap (namespaces_of sets) (all_changed_append cs next areas) ∙ agrees ∙ same

    recovers_after : RecoversBy sets left next c → RecoversBy sets areas (cs ++ next) c
    recovers_after recovers n stays = elim (cut_append cs next areas n stays) [
      | inl here ↦ inl (ap (λ (xs : List (Option Area)). after_recovery (namespaces_of sets xs)) here ∙ cut_recovers n stays)
      | inr (m, there) ↦
          let at = ap (λ (xs : List (Option Area)). after_recovery (namespaces_of sets xs)) there in
          elim (recovers m stays) [
            | inl before ↦ inl (at ∙ before ∙ left_recovers)
            | inr after ↦ inr (at ∙ after ∙ ap after_recovery same)
          ]
    ]

  apart_after : (next : List Change) → (EntriesApart (namespaces_of sets left) → (n : ℕ) (stays : Bool) → EntriesApart (namespaces_of sets (after_steps left next n stays))) → EntriesApart ns
      → (n : ℕ) (stays : Bool) → EntriesApart (namespaces_of sets (after_steps areas (cs ++ next) n stays))
  apart_after next keeps before n stays = elim (cut_append cs next areas n stays) [
    | inl here ↦ subst (λ (xs : List (Option Area)). EntriesApart (namespaces_of sets xs)) (sym here) (cut_apart before n stays)
    | inr (m, there) ↦ subst (λ (xs : List (Option Area)). EntriesApart (namespaces_of sets xs)) (sym there) (keeps (left_apart before) m stays)
  ]

  others_after : (next : List Change) → AllByRecursion (IsOf uuid) next → (n : ℕ) (stays : Bool) (v : List ℕ) → v ≢ uuid
      → lookup v (namespaces_of sets (after_steps areas (cs ++ next) n stays)).entries ≡ lookup v ns.entries
  others_after next of n stays v ne = elim (cut_append cs next areas n stays) [
    | inl here ↦ ap (λ (xs : List (Option Area)). lookup v (namespaces_of sets xs).entries) here ∙ cut_leaves_others sets areas uuid cs of_settling n stays v ne
    | inr (m, there) ↦ ap (λ (xs : List (Option Area)). lookup v (namespaces_of sets xs).entries) there ∙ cut_leaves_others sets left uuid next of m stays v ne ∙ others_left v ne
  ]

  -- a crash while it is settled: as before, with fewer labels that have UPDATING, or settled
  cut_entry : (n : ℕ) (stays : Bool) → let found = lookup uuid (namespaces_of sets (after_steps areas cs n stays)).entries in Left (IsPending e.name e) found ⊎ (found ≡ Some settled)
  cut_entry n stays = by (cut_found n stays)
    where
      by : (updating : List ℕ) × (lookup uuid (namespaces_of sets (after_steps areas cs n stays)).entries ≡ Some (front.entry_with_updating sets areas uuid e pending regions read is status updating))
          → Left (IsPending e.name e) (lookup uuid (namespaces_of sets (after_steps areas cs n stays)).entries) ⊎ (lookup uuid (namespaces_of sets (after_steps areas cs n stays)).entries ≡ Some settled)
      by ([], at) = inr at
      by (m ∷ ms, at) = inl (_, at, refl)

  any_after : (next : List Change) (Then : Option NamespaceEntry → Type 0) → Then (Some settled) → ((m : ℕ) (stays : Bool) → Then (lookup uuid (namespaces_of sets (after_steps left next m stays)).entries)) → (n : ℕ) (stays : Bool)
      → let found = lookup uuid (namespaces_of sets (after_steps areas (cs ++ next) n stays)).entries in CutOfAny e (λ x. Then found) found
  any_after next Then whole each n stays = elim (cut_append cs next areas n stays) [
    | inl here ↦
        let same = ap (λ (xs : List (Option Area)). lookup uuid (namespaces_of sets xs).entries) here in
        elim (cut_entry n stays) [
          | inl (x, at, is) ↦ inr (inl (x, same ∙ at, is))
          | inr at ↦ inr (inr (subst Then (sym (same ∙ at)) whole))
        ]
    | inr (m, there) ↦ inr (inr (subst (λ (xs : List (Option Area)). Then (lookup uuid (namespaces_of sets xs).entries)) (sym there) (each m stays)))
  ]

  -- ---- with a single label

  alone_made : (f g : Label → Option Label) → length (own_labels areas uuid) ≡ 1 → (n : ℕ) (stays : Bool)
      → let made = after_steps areas (in_two f g (own_labels areas uuid)) n stays in (made ≡ areas) ⊎ (made ≡ all_changed areas (in_two f g (own_labels areas uuid)))
  alone_made f g alone n stays = law.one_or_none areas (in_two f g (own_labels areas uuid)) n stays (one_change (own_labels areas uuid) alone)
    where
      one_change : (qs : List (ℕ × Label)) → length qs ≡ 1 → length (in_two f g qs) ≡ 1
      one_change [] at = absurd (omega arith)
      one_change (q ∷ []) at = refl
      one_change (q ∷ r ∷ qs) at = absurd (omega arith)

  alone_recovers : (c : Command) (f g : Label → Option Label) → length (own_labels areas uuid) ≡ 1 → namespaces_of sets (all_changed areas (in_two f g (own_labels areas uuid))) ≡ done ns c
      → RecoversBy sets areas (in_two f g (own_labels areas uuid)) c
  alone_recovers c f g alone agrees n stays = elim (alone_made f g alone n stays) [
    | inl before ↦ inl (ap (λ (xs : List (Option Area)). after_recovery (namespaces_of sets xs)) before)
    | inr after ↦ inr (ap (λ (xs : List (Option Area)). after_recovery (namespaces_of sets xs)) after ∙ ap after_recovery agrees)
  ]

  -- ---- the ways that a command on it goes

  -- it isn't pending; it has one label; or it is pending, with several
  abbrev Ways : Type 0
  Ways = (pending ≡ false) ⊎ (length e.parts ≡ 1) ⊎ ((pending ≡ true) × (2 ≤ length e.parts))

  ways : e.read_only ≡ None → Ways
  ways unlocked = by pending refl
    where
      by : (b : Bool) → pending ≡ b → Ways
      by false at = inl at
      by true at = elim (cases_lt 1 (length e.parts)) [
        | inl many ↦ inr (inr (at, omega (arith, many)))
        | inr few ↦ let some = st.some_own sets areas uuid e pending regions read is status unlocked in inr (inl (omega (arith, some, few)))
      ]

  by_ways : (next : List (Option Area) → List Change) (P : List Change → Type 0) → Ways → ((pending ≡ false) ⊎ (length e.parts ≡ 1) → P (next areas)) → (2 ≤ length e.parts → P (cs ++ next left))
      → P (then_on areas (settled_first areas (lookup uuid ns.entries)) next)
  by_ways next P (inl calm) plain several = subst P (sym (only_then next (first_calm calm))) (plain (inl calm))
  by_ways next P (inr (inl alone)) plain several = subst P (sym (only_then next (first_alone alone))) (plain (inr alone))
  by_ways next P (inr (inr (it, many))) plain several = subst P (sym (both_then next it many)) (several many)

  -- what holds before, and of the entry settled, holds after the changes that come first
  after_first : Ways → (P : List (Option Area) → Type 0) → P areas → (2 ≤ length e.parts → P left) → P (all_changed areas (settled_first areas (lookup uuid ns.entries)))
  unfolding all_changed
  after_first (inl calm) P plain several = subst (λ (first : List Change). P (all_changed areas first)) (sym (first_calm calm)) plain
  after_first (inr (inl alone)) P plain several = subst (λ (first : List Change). P (all_changed areas first)) (sym (first_alone alone)) plain
  after_first (inr (inr (it, many))) P plain several = subst (λ (first : List Change). P (all_changed areas first)) (sym (first_is it many)) (several many)

  -- ---- delete

  module _ (good : refusal_of ns (command.Delete uuid) ≡ None) where
    unlocked_gone : e.read_only ≡ None
    unlocked_gone = (delete_good ns uuid e is good).unlocked

    room_gone : 2 ≤ length e.parts → short_of ns 1 (entry_modules e) ≡ None
    room_gone many = rw (le-leb 2 (length e.parts) many) at (delete_good ns uuid e is good).room

    pub delete_allowed_of : refusal_of (namespaces_of sets (all_changed areas (settled_first areas (lookup uuid ns.entries)))) (command.Delete uuid) ≡ None
    delete_allowed_of = after_first (ways unlocked_gone) (λ xs. refusal_of (namespaces_of sets xs) (command.Delete uuid) ≡ None) good (λ many. delete_allowed (room_gone many) good)

    whole_delete : namespaces_of sets (all_changed areas (delete_changes uuid areas)) ≡ done ns (command.Delete uuid)
    whole_delete = agree.delete_agrees sets areas uuid e pending regions read is status good

    pub delete_agrees_of : Agrees sets areas (command.Delete uuid)
    delete_agrees_of =
        by_ways (delete_changes uuid) (λ xs. namespaces_of sets (all_changed areas xs) ≡ done ns (command.Delete uuid)) (ways unlocked_gone) (λ way. whole_delete)
        (λ many. agrees_after (command.Delete uuid) (delete_changes uuid left) (delete_done (room_gone many))
        (agree.delete_agrees sets left uuid settled false regions read_left (found_left (room_gone many)) refl (delete_allowed (room_gone many) good)))

    delete_alone_recovers : (pending ≡ false) ⊎ (length e.parts ≡ 1) → RecoversBy sets areas (delete_changes uuid areas) (command.Delete uuid)
    delete_alone_recovers (inl calm) = law.delete_recovers sets areas uuid e regions read is (status ∙ ap (λ (b : Bool). Complete e.name b) calm) good
    delete_alone_recovers (inr alone) =
        alone_recovers (command.Delete uuid) to_updating to_nothing (st.count_is sets areas uuid e pending regions read is status unlocked_gone ∙ alone) whole_delete

    pub delete_recovers_of : RecoversToEither sets areas (command.Delete uuid)
    delete_recovers_of =
        by_ways (delete_changes uuid) (λ xs. RecoversBy sets areas xs (command.Delete uuid)) (ways unlocked_gone) delete_alone_recovers
        (λ many. recovers_after (command.Delete uuid) (delete_changes uuid left) (delete_done (room_gone many))
        (law.delete_recovers sets left uuid settled regions read_left (found_left (room_gone many)) refl (delete_allowed (room_gone many) good)))

    abbrev DeleteLeft : Option NamespaceEntry → Type 0
    DeleteLeft left = CutOfDelete settled left

    any_delete_plain : (pending ≡ false) ⊎ (length e.parts ≡ 1) → (n : ℕ) (stays : Bool)
        → let found = lookup uuid (namespaces_of sets (after_steps areas (delete_changes uuid areas) n stays)).entries in CutOfAny e (λ x. DeleteLeft found) found
    any_delete_plain (inl calm) n stays =
        let calmly = status ∙ ap (λ (b : Bool). Complete e.name b) calm in
        elim (cut.delete_is_cut sets areas uuid e regions read is calmly good n stays) [
          | inl before ↦ inl before
          | inr (inl (x, at, is)) ↦ inr (inl (x, at, is))
          | inr (inr (inl (x, at, part))) ↦
              inr (inr (inr (inr (inl (x, at, record { unfinished = part.unfinished; uuid = part.uuid; region = part.region; mode = part.mode; lba = part.lba; parts = part.parts })))))
          | inr (inr (inr gone)) ↦ inr (inr (inr (inr (inr gone))))
        ]
    any_delete_plain (inr alone) n stays = elim (alone_made to_updating to_nothing (st.count_is sets areas uuid e pending regions read is status unlocked_gone ∙ alone) n stays) [
      | inl before ↦ inl (ap (λ (xs : List (Option Area)). lookup uuid (namespaces_of sets xs).entries) before ∙ is)
      | inr after ↦
          inr (inr (inr (inr (inr (ap (λ (xs : List (Option Area)). lookup uuid (namespaces_of sets xs).entries) after
          ∙ ap (λ (it : Namespaces). lookup uuid it.entries) whole_delete
          ∙ ap (λ (o : Option NamespaceEntry). lookup uuid (deleted_entry ns o).entries) is
          ∙ lookup_without ns.entries e.uuid uuid
          ∙ rw ((bytes_eq-Decides e.uuid uuid).1 entry_uuid) refl)))))
    ]

    pub any_delete_of : (n : ℕ) (stays : Bool)
        → let found = lookup uuid (namespaces_of sets (after_steps areas (changes_of ns areas (command.Delete uuid)) n stays)).entries in CutOfAny e (λ x. CutOfDelete x found) found
    any_delete_of n stays =
        by_ways (delete_changes uuid) (λ xs. let found = lookup uuid (namespaces_of sets (after_steps areas xs n stays)).entries in CutOfAny e (λ x. DeleteLeft found) found) (ways unlocked_gone)
        (λ way. any_delete_plain way n stays)
        (λ many. any_after (delete_changes uuid left) DeleteLeft (inl refl)
        (cut.delete_is_cut sets left uuid settled regions read_left (found_left (room_gone many)) refl (delete_allowed (room_gone many) good)) n stays)

    pub delete_others_of : LeavesOthers sets areas uuid (command.Delete uuid)
    delete_others_of n stays v ne =
        by_ways (delete_changes uuid) (λ xs. lookup v (namespaces_of sets (after_steps areas xs n stays)).entries ≡ lookup v ns.entries) (ways unlocked_gone)
        (λ way. cut_leaves_others sets areas uuid (delete_changes uuid areas)
        (own_of sets areas uuid e pending regions read is status unlocked_gone to_updating to_nothing keeps_updating keeps_nothing) n stays v ne)
        (λ many. others_after (delete_changes uuid left)
        (own_of sets left uuid settled false regions read_left (found_left (room_gone many)) refl unlocked_gone to_updating to_nothing keeps_updating keeps_nothing) n stays v ne)

    pub delete_apart_of : KeepsApart sets areas (command.Delete uuid)
    delete_apart_of before n stays =
        by_ways (delete_changes uuid) (λ xs. EntriesApart (namespaces_of sets (after_steps areas xs n stays))) (ways unlocked_gone)
        (λ way. disjoint.delete_apart_of sets areas uuid e pending regions read is status before good n stays)
        (λ many. apart_after (delete_changes uuid left)
        (λ apart. disjoint.delete_apart_of sets left uuid settled false regions read_left (found_left (room_gone many)) refl apart (delete_allowed (room_gone many) good)) before n stays)

  -- ---- rename

  module _ (name : Named) (good : refusal_of ns (command.Rename uuid name) ≡ None) where
    abbrev new : List ℕ
    new = name_in name

    unlocked_named : e.read_only ≡ None
    unlocked_named = (rename_good ns uuid name e is good).unlocked

    room_named : short_of ns 1 (entry_modules e) ≡ None
    room_named = (rename_good ns uuid name e is good).room

    pub rename_allowed_of : refusal_of (namespaces_of sets (all_changed areas (settled_first areas (lookup uuid ns.entries)))) (command.Rename uuid name) ≡ None
    rename_allowed_of = after_first (ways unlocked_named) (λ xs. refusal_of (namespaces_of sets xs) (command.Rename uuid name) ≡ None) good (λ many. rename_allowed room_named name good)

    whole_rename : namespaces_of sets (all_changed areas (rename_changes uuid name areas)) ≡ done ns (command.Rename uuid name)
    whole_rename = agree.rename_agrees sets areas uuid e pending regions read is status name good

    pub rename_agrees_of : Agrees sets areas (command.Rename uuid name)
    rename_agrees_of =
        by_ways (rename_changes uuid name) (λ xs. namespaces_of sets (all_changed areas xs) ≡ done ns (command.Rename uuid name)) (ways unlocked_named) (λ way. whole_rename)
        (λ many. agrees_after (command.Rename uuid name) (rename_changes uuid name left) (rename_done room_named name)
        (agree.rename_agrees sets left uuid settled false regions read_left (found_left room_named) refl name (rename_allowed room_named name good)))

    rename_alone_recovers : (pending ≡ false) ⊎ (length e.parts ≡ 1) → RecoversBy sets areas (rename_changes uuid name areas) (command.Rename uuid name)
    rename_alone_recovers (inl calm) = law.rename_recovers sets areas uuid e regions read is (status ∙ ap (λ (b : Bool). Complete e.name b) calm) name good
    rename_alone_recovers (inr alone) =
        alone_recovers (command.Rename uuid name) (to_renamed new) (to_updated new) (st.count_is sets areas uuid e pending regions read is status unlocked_named ∙ alone) whole_rename

    pub rename_recovers_of : RecoversToEither sets areas (command.Rename uuid name)
    rename_recovers_of =
        by_ways (rename_changes uuid name) (λ xs. RecoversBy sets areas xs (command.Rename uuid name)) (ways unlocked_named) rename_alone_recovers
        (λ many. recovers_after (command.Rename uuid name) (rename_changes uuid name left) (rename_done room_named name)
        (law.rename_recovers sets left uuid settled regions read_left (found_left room_named) refl name (rename_allowed room_named name good)))

    abbrev RenameLeft : Option NamespaceEntry → Type 0
    RenameLeft left = CutOfRename settled new left

    any_rename_plain : (pending ≡ false) ⊎ (length e.parts ≡ 1) → (n : ℕ) (stays : Bool)
        → let found = lookup uuid (namespaces_of sets (after_steps areas (rename_changes uuid name areas) n stays)).entries in CutOfAny e (λ x. RenameLeft found) found
    any_rename_plain (inl calm) n stays =
        let calmly = status ∙ ap (λ (b : Bool). Complete e.name b) calm in
        elim (cut.rename_is_cut sets areas uuid e regions read is calmly name good n stays) [
          | inl before ↦ inl before
          | inr (inl (x, at, is)) ↦ inr (inl (x, at, is))
          | inr (inr (inl (x, at, is))) ↦ inr (inr (inr (inr (inl (x, at, is)))))
          | inr (inr (inr after)) ↦ inr (inr (inr (inr (inr after))))
        ]
    any_rename_plain (inr alone) n stays = elim (alone_made (to_renamed new) (to_updated new) (st.count_is sets areas uuid e pending regions read is status unlocked_named ∙ alone) n stays) [
      | inl before ↦ inl (ap (λ (xs : List (Option Area)). lookup uuid (namespaces_of sets xs).entries) before ∙ is)
      | inr after ↦
          inr (inr (inr (inr (inr (ap (λ (xs : List (Option Area)). lookup uuid (namespaces_of sets xs).entries) after
          ∙ ap (λ (it : Namespaces). lookup uuid it.entries) whole_rename
          ∙ ap (λ (o : Option NamespaceEntry). lookup uuid (renamed_entry ns new o).entries) is
          ∙ lookup_put ns.entries (renamed e new) uuid
          ∙ rw ((bytes_eq-Decides e.uuid uuid).1 entry_uuid) refl)))))
    ]

    pub any_rename_of : (n : ℕ) (stays : Bool)
        → let found = lookup uuid (namespaces_of sets (after_steps areas (changes_of ns areas (command.Rename uuid name)) n stays)).entries in CutOfAny e (λ x. CutOfRename x new found) found
    any_rename_of n stays =
        by_ways (rename_changes uuid name) (λ xs. let found = lookup uuid (namespaces_of sets (after_steps areas xs n stays)).entries in CutOfAny e (λ x. RenameLeft found) found) (ways unlocked_named)
        (λ way. any_rename_plain way n stays)
        (λ many. any_after (rename_changes uuid name left) RenameLeft (inl refl)
        (cut.rename_is_cut sets left uuid settled regions read_left (found_left room_named) refl name (rename_allowed room_named name good)) n stays)

    pub rename_others_of : LeavesOthers sets areas uuid (command.Rename uuid name)
    rename_others_of n stays v ne =
        by_ways (rename_changes uuid name) (λ xs. lookup v (namespaces_of sets (after_steps areas xs n stays)).entries ≡ lookup v ns.entries) (ways unlocked_named)
        (λ way. cut_leaves_others sets areas uuid (rename_changes uuid name areas)
        (own_of sets areas uuid e pending regions read is status unlocked_named (to_renamed new) (to_updated new) (keeps_renamed new) (keeps_updated new)) n stays v ne)
        (λ many. others_after (rename_changes uuid name left)
        (own_of sets left uuid settled false regions read_left (found_left room_named) refl unlocked_named (to_renamed new) (to_updated new) (keeps_renamed new) (keeps_updated new)) n stays v ne)

    pub rename_apart_of : KeepsApart sets areas (command.Rename uuid name)
    rename_apart_of before n stays =
        by_ways (rename_changes uuid name) (λ xs. EntriesApart (namespaces_of sets (after_steps areas xs n stays))) (ways unlocked_named)
        (λ way. disjoint.rename_apart_of sets areas uuid e pending regions read is status before name good n stays)
        (λ many. apart_after (rename_changes uuid name left)
        (λ apart. disjoint.rename_apart_of sets left uuid settled false regions read_left (found_left room_named) refl apart name (rename_allowed room_named name good)) before n stays)

-- ---- the laws

-- a command that isn't refused isn't refused once the entry is settled
pub delete_still_allowed : (sets : List (List Mapping)) (areas : List (Option Area)) (uuid : List ℕ) → AreRegions sets → LabelsAreRead areas → refusal_of (namespaces_of sets areas) (command.Delete uuid) ≡ None
    → refusal_of (namespaces_of sets (all_changed areas (settled_first areas (lookup uuid (namespaces_of sets areas).entries)))) (command.Delete uuid) ≡ None
delete_still_allowed sets areas uuid regions read good = let f = delete_found sets areas uuid good in delete_allowed_of sets areas uuid f.entry f.pending regions read f.is f.status good

pub rename_still_allowed : (sets : List (List Mapping)) (areas : List (Option Area)) (uuid : List ℕ) (name : Named) → AreRegions sets → LabelsAreRead areas → refusal_of (namespaces_of sets areas) (command.Rename uuid name) ≡ None
    → refusal_of (namespaces_of sets (all_changed areas (settled_first areas (lookup uuid (namespaces_of sets areas).entries)))) (command.Rename uuid name) ≡ None
rename_still_allowed sets areas uuid name regions read good = let f = rename_found sets areas uuid name good in rename_allowed_of sets areas uuid f.entry f.pending regions read f.is f.status name good

pub delete_agrees : (sets : List (List Mapping)) (areas : List (Option Area)) (uuid : List ℕ) → AreRegions sets → LabelsAreRead areas
    → refusal_of (namespaces_of sets areas) (command.Delete uuid) ≡ None → Agrees sets areas (command.Delete uuid)
delete_agrees sets areas uuid regions read good = let f = delete_found sets areas uuid good in delete_agrees_of sets areas uuid f.entry f.pending regions read f.is f.status good

pub rename_agrees : (sets : List (List Mapping)) (areas : List (Option Area)) (uuid : List ℕ) (name : Named) → AreRegions sets → LabelsAreRead areas
    → refusal_of (namespaces_of sets areas) (command.Rename uuid name) ≡ None → Agrees sets areas (command.Rename uuid name)
rename_agrees sets areas uuid name regions read good = let f = rename_found sets areas uuid name good in rename_agrees_of sets areas uuid f.entry f.pending regions read f.is f.status name good

pub delete_recovers : (sets : List (List Mapping)) (areas : List (Option Area)) (uuid : List ℕ) → AreRegions sets → LabelsAreRead areas
    → refusal_of (namespaces_of sets areas) (command.Delete uuid) ≡ None → RecoversToEither sets areas (command.Delete uuid)
delete_recovers sets areas uuid regions read good = let f = delete_found sets areas uuid good in delete_recovers_of sets areas uuid f.entry f.pending regions read f.is f.status good

pub rename_recovers : (sets : List (List Mapping)) (areas : List (Option Area)) (uuid : List ℕ) (name : Named) → AreRegions sets → LabelsAreRead areas
    → refusal_of (namespaces_of sets areas) (command.Rename uuid name) ≡ None → RecoversToEither sets areas (command.Rename uuid name)
rename_recovers sets areas uuid name regions read good = let f = rename_found sets areas uuid name good in rename_recovers_of sets areas uuid f.entry f.pending regions read f.is f.status name good

pub delete_others : (sets : List (List Mapping)) (areas : List (Option Area)) (uuid : List ℕ) → AreRegions sets → LabelsAreRead areas
    → refusal_of (namespaces_of sets areas) (command.Delete uuid) ≡ None → LeavesOthers sets areas uuid (command.Delete uuid)
delete_others sets areas uuid regions read good = let f = delete_found sets areas uuid good in delete_others_of sets areas uuid f.entry f.pending regions read f.is f.status good

pub rename_others : (sets : List (List Mapping)) (areas : List (Option Area)) (uuid : List ℕ) (name : Named) → AreRegions sets → LabelsAreRead areas
    → refusal_of (namespaces_of sets areas) (command.Rename uuid name) ≡ None → LeavesOthers sets areas uuid (command.Rename uuid name)
rename_others sets areas uuid name regions read good = let f = rename_found sets areas uuid name good in rename_others_of sets areas uuid f.entry f.pending regions read f.is f.status name good

pub delete_apart : (sets : List (List Mapping)) (areas : List (Option Area)) (uuid : List ℕ) → AreRegions sets → LabelsAreRead areas
    → refusal_of (namespaces_of sets areas) (command.Delete uuid) ≡ None → KeepsApart sets areas (command.Delete uuid)
delete_apart sets areas uuid regions read good = let f = delete_found sets areas uuid good in delete_apart_of sets areas uuid f.entry f.pending regions read f.is f.status good

pub rename_apart : (sets : List (List Mapping)) (areas : List (Option Area)) (uuid : List ℕ) (name : Named) → AreRegions sets → LabelsAreRead areas
    → refusal_of (namespaces_of sets areas) (command.Rename uuid name) ≡ None → KeepsApart sets areas (command.Rename uuid name)
rename_apart sets areas uuid name regions read good = let f = rename_found sets areas uuid name good in rename_apart_of sets areas uuid f.entry f.pending regions read f.is f.status name good

found_same : (sets : List (List Mapping)) (areas : List (Option Area)) (uuid : List ℕ) (e : NamespaceEntry) → lookup uuid (namespaces_of sets areas).entries ≡ Some e → (f : IsFound sets areas uuid) → f.entry ≡ e
found_same sets areas uuid e is f = same_Some f.entry e (sym f.is ∙ is)

pub any_delete_is_cut : AnyDeleteIsCut
any_delete_is_cut sets areas uuid e regions read is good steps stays =
    let f = delete_found sets areas uuid good in
    any_delete_of sets areas uuid e f.pending regions read is (subst (λ (x : NamespaceEntry). x.status ≡ Complete x.name f.pending) (found_same sets areas uuid e is f) f.status) good steps stays

pub any_rename_is_cut : AnyRenameIsCut
any_rename_is_cut sets areas uuid e regions read is name good steps stays =
    let f = rename_found sets areas uuid name good in
    any_rename_of sets areas uuid e f.pending regions read is (subst (λ (x : NamespaceEntry). x.status ≡ Complete x.name f.pending) (found_same sets areas uuid e is f) f.status) name good steps stays

-- ---- an entry that isn't pending: no change comes before those of the command

module _ (sets : List (List Mapping)) (areas : List (Option Area)) (uuid : List ℕ) (e : NamespaceEntry) (regions : AreRegions sets) (read : LabelsAreRead areas)
    (is : lookup uuid (namespaces_of sets areas).entries ≡ Some e) (status : e.status ≡ Complete e.name false) where
  abbrev EachLeft : (Option NamespaceEntry → Type 0) → List Change → Type 0
  EachLeft P changes = (n : ℕ) (stays : Bool) → P (lookup uuid (namespaces_of sets (after_steps areas changes n stays)).entries)

  plain : (next : List (Option Area) → List Change) (P : Option NamespaceEntry → Type 0) → EachLeft P (next areas) → EachLeft P (then_on areas (settled_first areas (lookup uuid (namespaces_of sets areas).entries)) next)
  plain next P left =
      subst (EachLeft P) (sym (only_then sets areas uuid e false regions read is status next (first_calm sets areas uuid e false regions read is status refl))) left

  pub delete_is_cut : refusal_of (namespaces_of sets areas) (command.Delete uuid) ≡ None → EachLeft (CutOfDelete e) (changes_of (namespaces_of sets areas) areas (command.Delete uuid))
  delete_is_cut good = plain (delete_changes uuid) (CutOfDelete e) (cut.delete_is_cut sets areas uuid e regions read is status good)

  pub delete_is_cut_alone : refusal_of (namespaces_of sets areas) (command.Delete uuid) ≡ None → length e.parts ≡ 1
      → EachLeft (CutOfDeleteAlone e) (changes_of (namespaces_of sets areas) areas (command.Delete uuid))
  delete_is_cut_alone good one = plain (delete_changes uuid) (CutOfDeleteAlone e) (cut.delete_is_cut_alone sets areas uuid e regions read is status good one)

  pub rename_is_cut : (name : Named) → refusal_of (namespaces_of sets areas) (command.Rename uuid name) ≡ None
      → EachLeft (CutOfRename e (name_in name)) (changes_of (namespaces_of sets areas) areas (command.Rename uuid name))
  rename_is_cut name good = plain (rename_changes uuid name) (CutOfRename e (name_in name)) (cut.rename_is_cut sets areas uuid e regions read is status name good)

  pub rename_is_cut_alone : (name : Named) → refusal_of (namespaces_of sets areas) (command.Rename uuid name) ≡ None → length e.parts ≡ 1
      → EachLeft (CutOfRenameAlone e (name_in name)) (changes_of (namespaces_of sets areas) areas (command.Rename uuid name))
  rename_is_cut_alone name good one = plain (rename_changes uuid name) (CutOfRenameAlone e (name_in name)) (cut.rename_is_cut_alone sets areas uuid e regions read is status name good one)
