-- A complete delete and a complete rename: their label changes have the effect of their steps on the map.
use Rattle.std.proofs.Common.{◌≡◌, ◌≢◌, ℕ, ◌+◌, ◌≤◌, Bool, true, false, List, [], ◌∷◌, length, Option, Some, None, refl, sym, ap, ◌∙◌, subst, arith, inl, inr}
use Rattle.std.specs.List.{AllByRecursion}
use Rattle.std.proofs.lemmas.Bool.{cases_Bool, false≢true, cases_eq, cases_lt, eq-eqb, ne_eqb, le-leb}
use Rattle.nfit_reader.specs.declared.table.Mapping.{Mapping}
use Rattle.label_codec.specs.declared.label.Label.{Label}
use Rattle.label_area.specs.Area.{SlotState}
use Rattle.label_set.specs.declared.placed.SetStatus.TheVariants.{Complete}
use Rattle.namespace_map.specs.Namespaces.{NamespaceEntry, AreaSummary, lookup, put, without}
use Rattle.namespace_map.proofs.Entries.{lookup_entries, lookup_put}
use Rattle.namespace_map.proofs.Entries as entries
use Rattle.namespace_map.proofs.Rising.{all_pass_to}
use Rattle.namespace_map.specs.declared.commands.Named.{Named}
use Rattle.namespace_map.specs.declared.commands.Command.TheVariants as command
use Rattle.namespace_map.specs.Areas.{Area, Change, slots_of, slots_on, free_in, changed_areas, all_changed, replaced, slot_of}
use Rattle.namespace_map.specs.Commands.{count_in, given_to, done, name_in, refusal_of, entry_modules, renamed, deleted_entry, renamed_entry}
use Rattle.namespace_map.specs.Changes.{namespaces_of, placed_in_all, change_to, in_two, delete_changes, rename_changes}
use Rattle.label_codec.specs.Flags.{updated}
use Rattle.namespace_map.proofs.Slots.{owned, remove_count}
use Rattle.namespace_map.proofs.Areas.{proper_after as areas_proper_after, Proper, Fitting, moved, moved_all, sum_kept, slots_of_changed, area_of_other}
use Rattle.namespace_map.specs.Left.{AreRegions, LabelsAreRead}
use Rattle.namespace_laws.proofs.Whole.{own_of}
use Rattle.namespace_laws.proofs.Staged.{names, IsGiven}
use Rattle.namespace_laws.proofs.Two.{length_kept}
use Rattle.namespace_laws.proofs.Table.{updated_doesnt}
use Rattle.namespace_laws.proofs.Create.{StandsAs}
use Rattle.namespace_laws.proofs.Delete.{Stands, at_name, own_empty, to_updating, to_nothing, keeps_updating, keeps_nothing}
use Rattle.namespace_laws.proofs.Rename.{to_renamed, to_updated, keeps_renamed, keeps_updated, sound_updated}
use Rattle.namespace_laws.proofs.Shaped.{lies_there}
use Rattle.namespace_laws.proofs.One.{one_of, proper_gone}
use Rattle.namespace_laws.proofs.Standing as st
use Rattle.namespace_laws.proofs.EntryCut.{DeleteGood, delete_good, RenameGood, rename_good}
use Rattle.namespace_laws.proofs.Final.{two_hit, two_miss, two_fits, two_of, Becomes, stands_end, owned_count}
use Rattle.namespace_laws.proofs.Agrees.{entries_put, entries_without, areas_given, areas_same}

-- ---- delete and rename

module _ (sets : List (List Mapping)) (areas : List (Option Area)) (uuid : List ℕ) (e : NamespaceEntry) (pending : Bool) (regions : AreRegions sets) (read : LabelsAreRead areas)
    (is : lookup uuid (namespaces_of sets areas).entries ≡ Some e) (status : e.status ≡ Complete e.name pending) where
  entry_uuid : e.uuid ≡ uuid
  entry_uuid = entries.entry_uuid sets (placed_in_all areas) uuid e (sym (lookup_entries sets (placed_in_all areas) uuid) ∙ is)

  module _ (unlocked : e.read_only ≡ None) where
    abbrev own_ps : List (ℕ × Label)
    own_ps = st.ps sets areas uuid e pending regions read is status unlocked

    abbrev lab : ℕ → Option Label
    lab = st.lab sets areas uuid e pending regions read is status unlocked

    proper : Proper uuid lab areas
    proper = st.proper sets areas uuid e pending regions read is status unlocked

    only : (m : ℕ) (l : Label) → lab m ≡ Some l → names own_ps m ≡ true
    only = st.only sets areas uuid e pending regions read is status unlocked

    labels : AllByRecursion (λ p. lab p.0 ≡ Some p.1) own_ps
    labels = st.labels sets areas uuid e pending regions read is status unlocked

    of_uuid : AllByRecursion (λ p. p.1.uuid ≡ uuid) own_ps
    of_uuid = all_pass_to (λ p. lab p.0 ≡ Some p.1) (λ p. p.1.uuid ≡ uuid) (λ p at. proper.named p.0 p.1 at) own_ps labels

    counted : (i : ℕ) → owned (lab i) ≡ count_in (entry_modules e) i
    counted i = owned_count uuid lab areas proper i ∙ ap (λ (ms : List ℕ). count_in ms i) (sym (st.modules_are sets areas uuid e pending regions read is status unlocked))

    unnamed_none : (m : ℕ) → names own_ps m ≡ false → lab m ≡ None
    unnamed_none m none = by (lab m) refl
      where
        by : (o : Option Label) → lab m ≡ o → lab m ≡ None
        by None at = at
        by (Some l) at = absurd (false≢true (sym none ∙ only m l at))

    -- ---- delete

    abbrev deleting : List Change
    deleting = delete_changes uuid areas

    record Deleted : Type 0 where
      empty : own_of uuid (all_changed areas deleting) ≡ []
      free : (i : ℕ) → free_in (slots_on (all_changed areas deleting) i) ≡ free_in (slots_on areas i) + count_in (entry_modules e) i

    -- with a free slot on each module
    deleted_given : AllByRecursion (IsGiven uuid lab areas) own_ps → Deleted
    deleted_given given = record {
      empty = own_empty uuid (moved_all lab deleting) (all_changed areas deleting) proper_after (λ m. none m);
      free = λ i. let a = sum_kept deleting uuid lab areas proper fits i in let b = ap owned (none i) in omega (arith, a, b, counted i);
    }
      where
        fits : Fitting uuid lab areas deleting
        fits = two_fits uuid lab areas to_updating to_nothing keeps_updating keeps_nothing own_ps given

        proper_after : Proper uuid (moved_all lab deleting) (all_changed areas deleting)
        proper_after = areas_proper_after deleting uuid lab areas proper fits

        nothings : (qs : List (ℕ × Label)) → AllByRecursion (λ (q : ℕ × Label). to_nothing q.1 ≡ None) qs
        nothings [] = tt
        nothings (q ∷ qs) = (refl, nothings qs)

        none : (m : ℕ) → moved_all lab deleting m ≡ None
        none m = elim (cases_Bool (names own_ps m)) [
          | inl it ↦ two_hit (λ n o. o ≡ None) to_updating to_nothing own_ps lab m it (nothings own_ps)
          | inr not_it ↦ two_miss to_updating to_nothing own_ps lab m not_it ∙ unnamed_none m not_it
        ]

    -- a single label, which needs no free slot
    module _ (p : ℕ × Label) (same : own_ps ≡ p ∷ []) where
      abbrev gone : Change
      gone = change_to to_nothing p

      here_at : lab p.0 ≡ Some p.1
      here_at = (subst (AllByRecursion (λ q. lab q.0 ≡ Some q.1)) same labels).0

      one_after : all_changed areas deleting ≡ changed_areas areas gone
      unfolding all_changed
      one_after = ap (λ (qs : List (ℕ × Label)). all_changed areas (in_two to_updating to_nothing qs)) same

      elsewhere : (m : ℕ) → m ≢ p.0 → lab m ≡ None
      elsewhere m ne = unnamed_none m (ap (λ (qs : List (ℕ × Label)). names qs m) same ∙ rw (ne_eqb p.0 m (λ s. ne (sym s))) refl)

      none_left : (m : ℕ) → moved lab gone m ≡ None
      none_left m = elim (cases_eq m p.0) [
        | inl here ↦ rw (eq-eqb m p.0 here) refl
        | inr apart ↦ rw (ne_eqb m p.0 apart) (elsewhere m apart)
      ]

      slots_then : slots_on (changed_areas areas gone) p.0 ≡ replaced (slot_of (slots_on areas p.0) uuid) None (slots_on areas p.0)
      slots_then =
          slots_of_changed areas gone (lies_there uuid lab areas proper p.0 p.1 here_at)
          ∙ ap (λ (u : List ℕ). replaced (slot_of (slots_on areas p.0) u) None (slots_on areas p.0)) (proper.named p.0 p.1 here_at)

      free_at : free_in (slots_on (changed_areas areas gone) p.0) ≡ free_in (slots_on areas p.0) + count_in (entry_modules e) p.0
      free_at =
          let a = ap (λ (xs : List SlotState). free_in xs) slots_then in
          let b = remove_count uuid (lab p.0) (slots_on areas p.0) (proper.named p.0) (proper.own p.0) in
          omega (arith, a, b, counted p.0)

      free_then : (i : ℕ) → free_in (slots_on (changed_areas areas gone) i) ≡ free_in (slots_on areas i) + count_in (entry_modules e) i
      free_then i = elim (cases_eq i p.0) [
        | inl here ↦ rw here free_at
        | inr apart ↦
            let none : owned (lab i) ≡ 0 = ap owned (elsewhere i apart) in
            let same_slots : free_in (slots_on (changed_areas areas gone) i) ≡ free_in (slots_on areas i) = ap (λ (a : Option Area). free_in (slots_of a)) (area_of_other areas gone i apart) in
            omega (arith, none, same_slots, counted i)
      ]

      deleted_one : Deleted
      deleted_one = record {
        empty = ap (own_of uuid) one_after ∙ own_empty uuid (moved lab gone) (changed_areas areas gone) (proper_gone uuid areas lab proper p here_at) none_left;
        free = λ i. ap (λ (left : List (Option Area)). free_in (slots_on left i)) one_after ∙ free_then i;
      }

  pub delete_agrees : refusal_of (namespaces_of sets areas) (command.Delete uuid) ≡ None
      → namespaces_of sets (all_changed areas (delete_changes uuid areas)) ≡ done (namespaces_of sets areas) (command.Delete uuid)
  delete_agrees good =
      ap (λ (es : List NamespaceEntry). record (namespaces_of sets (all_changed areas (deleting has.unlocked))) { entries = es })
      (entries_without sets areas uuid (deleting has.unlocked) (two_of uuid to_updating to_nothing keeps_updating keeps_nothing (own_ps has.unlocked) (of_uuid has.unlocked))
      (lookup_entries sets (placed_in_all (all_changed areas (deleting has.unlocked))) uuid ∙ entries.entry_none sets (placed_in_all (all_changed areas (deleting has.unlocked))) uuid gone.empty))
      ∙ ap (λ (as' : List AreaSummary). record (namespaces_of sets areas) { areas = as'; entries = without uuid (namespaces_of sets areas).entries }) (areas_given areas (deleting has.unlocked) (entry_modules e) gone.free)
      ∙ ap (λ (u : List ℕ). record (namespaces_of sets areas) { areas = given_to 0 (entry_modules e) (namespaces_of sets areas).areas; entries = without u (namespaces_of sets areas).entries }) (sym entry_uuid)
      ∙ ap (deleted_entry (namespaces_of sets areas)) (sym is)
    where
      has : DeleteGood (namespaces_of sets areas) e
      has = delete_good (namespaces_of sets areas) uuid e is good

      gone : Deleted has.unlocked
      gone = elim (cases_lt 1 (length e.parts)) [
        | inl many ↦ deleted_given has.unlocked (st.given sets areas uuid e pending regions read is status has.unlocked (rw (le-leb 2 (length e.parts) (omega arith)) at has.room))
        | inr few ↦
            let some = st.some_own sets areas uuid e pending regions read is status has.unlocked in
            let count = st.count_is sets areas uuid e pending regions read is status has.unlocked in
            by (one_of (own_ps has.unlocked) (omega (arith, some, count)))
      ]
        where
          by : (p : ℕ × Label) × (own_ps has.unlocked ≡ p ∷ []) → Deleted has.unlocked
          by (p, same) = deleted_one has.unlocked p same

  module _ (name : Named) (good : refusal_of (namespaces_of sets areas) (command.Rename uuid name) ≡ None) where
    abbrev new : List ℕ
    new = name_in name

    fine : RenameGood (namespaces_of sets areas) e
    fine = rename_good (namespaces_of sets areas) uuid name e is good

    abbrev renaming : List Change
    renaming = rename_changes uuid name areas

    given : AllByRecursion (IsGiven uuid (lab fine.unlocked) areas) (own_ps fine.unlocked)
    given = st.given sets areas uuid e pending regions read is status fine.unlocked fine.room

    becomes : AllByRecursion (Becomes (st.set sets areas uuid e pending regions read is status fine.unlocked) (st.model sets areas uuid e pending regions read is status fine.unlocked) new (to_updated new)) (own_ps fine.unlocked)
    becomes =
        all_pass_to (λ p. lab fine.unlocked p.0 ≡ Some p.1) (Becomes (st.set sets areas uuid e pending regions read is status fine.unlocked) (st.model sets areas uuid e pending regions read is status fine.unlocked) new (to_updated new))
        (λ p at. record {
          new = record (updated p.1) { name = new };
          is_new = refl;
          sound = sound_updated (st.set sets areas uuid e pending regions read is status fine.unlocked) (st.model sets areas uuid e pending regions read is status fine.unlocked) new p.0 p.1 (st.sound_as sets areas uuid e pending regions read is status fine.unlocked p.0 p.1 at);
          named = refl;
          quiet = updated_doesnt p.1;
        }) (own_ps fine.unlocked) (labels fine.unlocked)

    some : 1 ≤ length (own_ps fine.unlocked)
    some =
        let a = st.some_own sets areas uuid e pending regions read is status fine.unlocked in
        let b = st.count_is sets areas uuid e pending regions read is status fine.unlocked in omega (arith, a, b)

    stands_as : StandsAs uuid (st.set sets areas uuid e pending regions read is status fine.unlocked) (st.model sets areas uuid e pending regions read is status fine.unlocked) new (Complete new false) (all_changed areas renaming)
    stands_as =
        stands_end uuid (st.set sets areas uuid e pending regions read is status fine.unlocked) (st.model sets areas uuid e pending regions read is status fine.unlocked) (st.rules sets areas uuid e pending regions read is status fine.unlocked).whole
        new areas (lab fine.unlocked) (own_ps fine.unlocked) (to_renamed new) (to_updated new) (keeps_renamed new) (keeps_updated new) (proper fine.unlocked) given (only fine.unlocked)
        (st.set_covered sets areas uuid e pending regions read is status fine.unlocked) becomes some

    stands : Stands uuid (st.set sets areas uuid e pending regions read is status fine.unlocked) (st.model sets areas uuid e pending regions read is status fine.unlocked) (Complete new false) (all_changed areas renaming)
    stands = record { lab = stands_as.lab; proper = stands_as.proper; sound = stands_as.sound; has_status = stands_as.has_status; some = stands_as.some }

    owns : (i : ℕ) → owned (moved_all (lab fine.unlocked) renaming i) ≡ owned (lab fine.unlocked i)
    owns i = elim (cases_Bool (names (own_ps fine.unlocked) i)) [
      | inl it ↦
          let a : owned (moved_all (lab fine.unlocked) renaming i) ≡ 1 = two_hit (λ n o. owned o ≡ 1) (to_renamed new) (to_updated new) (own_ps fine.unlocked) (lab fine.unlocked) i it (ones (own_ps fine.unlocked)) in
          let b : owned (lab fine.unlocked i) ≡ 1 = at_name (λ n. owned (lab fine.unlocked n) ≡ 1) (own_ps fine.unlocked) i it
          (all_pass_to (λ p. lab fine.unlocked p.0 ≡ Some p.1) (λ p. owned (lab fine.unlocked p.0) ≡ 1) (λ p at. ap owned at) (own_ps fine.unlocked) (labels fine.unlocked)) in
          a ∙ sym b
      | inr not_it ↦ ap owned (two_miss (to_renamed new) (to_updated new) (own_ps fine.unlocked) (lab fine.unlocked) i not_it)
    ]
      where
        ones : (qs : List (ℕ × Label)) → AllByRecursion (λ (q : ℕ × Label). owned (to_updated new q.1) ≡ 1) qs
        ones [] = tt
        ones (q ∷ qs) = (refl, ones qs)

    free : (i : ℕ) → free_in (slots_on (all_changed areas renaming) i) ≡ free_in (slots_on areas i)
    free i =
        let a = sum_kept renaming uuid (lab fine.unlocked) areas (proper fine.unlocked) (two_fits uuid (lab fine.unlocked) areas (to_renamed new) (to_updated new) (keeps_renamed new) (keeps_updated new) (own_ps fine.unlocked) given) i in
        omega (arith, a, owns i)

    pub rename_agrees : namespaces_of sets (all_changed areas (rename_changes uuid name areas)) ≡ done (namespaces_of sets areas) (command.Rename uuid name)
    rename_agrees = ap (λ (es : List NamespaceEntry). record (namespaces_of sets (all_changed areas renaming)) { entries = es })
        (entries_put sets areas uuid renaming (two_of uuid (to_renamed new) (to_updated new) (keeps_renamed new) (keeps_updated new) (own_ps fine.unlocked) (of_uuid fine.unlocked))
        (renamed e new) entry_uuid (st.settled_left sets areas uuid e pending regions read is status fine.unlocked (all_changed areas renaming) (length_kept renaming areas) new stands))
        ∙ ap (λ (as' : List AreaSummary). record (namespaces_of sets areas) { areas = as'; entries = put (renamed e new) (namespaces_of sets areas).entries }) (areas_same areas renaming [] free)
        ∙ ap (renamed_entry (namespaces_of sets areas) new) (sym is)
