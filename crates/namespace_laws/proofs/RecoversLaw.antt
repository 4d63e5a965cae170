-- After a crash during a create, delete or rename, recovery leads to the map before it or after it.
use Rattle.std.proofs.Common.{◌≡◌, ℕ, zero, suc, ◌≤◌, Bool, true, false, List, [], ◌∷◌, length, take, Option, Some, None, refl, sym, ap, ◌∙◌, arith, inl, inr, ◌⊎◌}
use Rattle.std.specs.List.{AllByRecursion}
use Rattle.std.specs.Str.{bytes_eq}
use Rattle.std.proofs.lemmas.Bool.{cases_lt, le-leb}
use Rattle.std.proofs.lemmas.Option.{none-some}
use Rattle.std.proofs.lemmas.Slice.Eq.{bytes_eq-Decides}
use Rattle.nfit_reader.specs.declared.table.Mapping.{Mapping}
use Rattle.label_codec.specs.declared.label.Label.{Label}
use Rattle.label_set.specs.declared.placed.SetStatus.TheVariants.{Complete}
use Rattle.namespace_map.specs.Namespaces.{Namespaces, NamespaceEntry, lookup}
use Rattle.namespace_map.proofs.Entries.{lookup_entries, lookup_put}
use Rattle.namespace_map.proofs.Entries as entries
use Rattle.namespace_map.proofs.Rising.{all_pass_to}
use Rattle.namespace_map.specs.declared.commands.Make.{Make}
use Rattle.namespace_map.specs.declared.commands.Named.{Named}
use Rattle.namespace_map.specs.declared.commands.Command.{Command}
use Rattle.namespace_map.specs.declared.commands.Command.TheVariants as command
use Rattle.namespace_map.specs.Areas.{Area, Change, all_changed, after_steps}
use Rattle.namespace_map.specs.Commands.{refusal_of, done, name_in, after_recovery, renamed, deleted_entry, renamed_entry}
use Rattle.namespace_map.specs.Changes.{namespaces_of, changes_of, placed_in_all, in_two, delete_changes, rename_changes}
use Rattle.namespace_map.proofs.Areas.{Proper, HasRoom, Fitting}
use Rattle.namespace_map.proofs.Fronts.{cut_is_front, IsFront}
use Rattle.namespace_map.specs.Left.{AreRegions, LabelsAreRead}
use Rattle.namespace_laws.specs.Laws.{CutOfCreate, CutOfDelete, CutOfRename}
use Rattle.namespace_laws.specs.Recovered.{RecoversToEither}
use Rattle.namespace_laws.proofs.Staged.{IsGiven}
use Rattle.namespace_laws.proofs.Delete.{at_name, to_updating, to_nothing, keeps_updating, keeps_nothing}
use Rattle.namespace_laws.proofs.Rename.{to_renamed, to_updated, keeps_renamed, keeps_updated}
use Rattle.namespace_laws.proofs.CreateLaw as law
use Rattle.namespace_laws.proofs.CreateLaw.{made_entry, ps}
use Rattle.namespace_laws.proofs.CreateCut.{create_is_cut}
use Rattle.namespace_laws.proofs.Standing as st
use Rattle.namespace_laws.proofs.EntryCut.{DeleteGood, delete_good, RenameGood, rename_good, delete_is_cut, rename_is_cut}
use Rattle.namespace_laws.proofs.Final.{two_fits}
use Rattle.namespace_laws.proofs.Agrees.{lookup_without}
use Rattle.namespace_laws.proofs.AgreesCreate as creates
use Rattle.namespace_laws.proofs.AgreesEntry as agree
use Rattle.namespace_laws.proofs.Backwards.{none_changing}
use Rattle.namespace_laws.proofs.Recovers.{FrontOf, front_of_cut, front_before, front_after, recovers_same, recovers_gone, recovers_settled, own_updating}

-- after a crash in these changes, recovery leads to the map before the command or after it
abbrev pub RecoversBy : List (List Mapping) → List (Option Area) → List Change → Command → Type 0
RecoversBy sets areas cs c =
    (steps : ℕ) (stays : Bool) → let left = namespaces_of sets (after_steps areas cs steps stays) in
    (after_recovery left ≡ after_recovery (namespaces_of sets areas)) ⊎ (after_recovery left ≡ after_recovery (done (namespaces_of sets areas) c))

self : (u : List ℕ) → bytes_eq u u ≡ true
self u = (bytes_eq-Decides u u).1 refl

-- ---- create

module _ (sets : List (List Mapping)) (areas : List (Option Area)) (uuid : List ℕ) (name : Named) (region size : ℕ) (made : Make) (regions : AreRegions sets)
    (good : refusal_of (namespaces_of sets areas) (law.create sets areas uuid name region size made) ≡ None) where
  abbrev create : Command
  create = law.create sets areas uuid name region size made

  abbrev cs : List Change
  cs = changes_of (namespaces_of sets areas) areas create

  abbrev new : NamespaceEntry
  new = made_entry sets areas uuid name region size made

  abbrev Front : List (Option Area) → Type 0
  Front left = FrontOf sets uuid (λ m. None) areas left

  whole : namespaces_of sets (all_changed areas cs) ≡ done (namespaces_of sets areas) create
  whole = creates.create_agrees sets areas uuid name region size made regions good

  at_end : lookup uuid (namespaces_of sets (all_changed areas cs)).entries ≡ Some new
  at_end = ap (λ (ns : Namespaces). lookup uuid ns.entries) whole ∙ lookup_put (namespaces_of sets areas).entries new uuid ∙ rw (self uuid) refl

  fits : Fitting uuid (λ m. None) areas cs
  fits = creates.fits sets areas uuid name region size made regions good

  no_room : (m : ℕ) (l : Label) → ◌≡◌ {A = Option Label} None (Some l) → HasRoom (λ m. None) areas m
  no_room m l is = absurd (none-some l is)

  proper : Proper uuid (λ m. None) areas
  proper = law.proper sets areas uuid name region size made regions good

  pub create_recovers : RecoversToEither sets areas create
  create_recovers n stays = by (create_is_cut sets areas uuid name region size made regions good n stays)
    where
      cut : Front (after_steps areas cs n stays)
      cut = front_of_cut sets uuid (λ m. None) areas cs proper fits no_room n stays

      before : Front areas
      before = front_before sets uuid (λ m. None) areas cs proper fits no_room

      after : Front (all_changed areas cs)
      after = front_after sets uuid (λ m. None) areas cs proper fits no_room

      absent : lookup uuid (namespaces_of sets areas).entries ≡ None
      absent = (law.has sets areas uuid name region size made regions good).absent

      by : CutOfCreate new (lookup uuid (namespaces_of sets (after_steps areas cs n stays)).entries)
          → (after_recovery (namespaces_of sets (after_steps areas cs n stays)) ≡ after_recovery (namespaces_of sets areas)) ⊎ (after_recovery (namespaces_of sets (after_steps areas cs n stays)) ≡ after_recovery (done (namespaces_of sets areas) create))
      by (inl none) = inl (recovers_same sets uuid (λ m. None) areas (after_steps areas cs n stays) areas cut before (none ∙ sym absent))
      by (inr (inl (x, is, part))) = inl (recovers_gone sets uuid (λ m. None) areas (after_steps areas cs n stays) areas cut before x is part.unfinished absent)
      by (inr (inr (inl (x, is, pending)))) =
          inr (recovers_settled sets uuid (λ m. None) areas (after_steps areas cs n stays) (all_changed areas cs) cut after x new new.name is pending at_end refl refl refl ∙ ap after_recovery whole)
      by (inr (inr (inr is))) = inr (recovers_same sets uuid (λ m. None) areas (after_steps areas cs n stays) (all_changed areas cs) cut after (is ∙ sym at_end) ∙ ap after_recovery whole)

-- ---- delete and rename

-- one change is made, or not
pub one_or_none : (areas : List (Option Area)) (cs : List Change) (n : ℕ) (stays : Bool) → length cs ≡ 1 → (after_steps areas cs n stays ≡ areas) ⊎ (after_steps areas cs n stays ≡ all_changed areas cs)
unfolding all_changed
one_or_none areas cs n stays one = by cs refl (cut_is_front cs areas n stays)
  where
    by : (ds : List Change) → cs ≡ ds → IsFront areas cs (after_steps areas cs n stays) → (after_steps areas cs n stays ≡ areas) ⊎ (after_steps areas cs n stays ≡ all_changed areas cs)
    by ds same (zero, below, is) = inl is
    by ds same (suc k, below, is) = inr (is ∙ ap (all_changed areas) (whole_front cs k (omega arith)))
      where
        whole_front : (ds : List Change) (k : ℕ) → length ds ≤ suc k → take (suc k) ds ≡ ds
        whole_front [] k few = refl
        whole_front (d ∷ []) k few = ap (λ (xs : List Change). d ∷ xs) (none k)
          where
            none : (k : ℕ) → ◌≡◌ {A = List Change} (take k []) []
            none zero = refl
            none (suc k) = refl
        whole_front (d ∷ e ∷ ds) zero few = absurd (omega arith)
        whole_front (d ∷ e ∷ ds) (suc k) few = ap (λ (xs : List Change). d ∷ xs) (whole_front (e ∷ ds) k (omega arith))

module _ (sets : List (List Mapping)) (areas : List (Option Area)) (uuid : List ℕ) (e : NamespaceEntry) (regions : AreRegions sets) (read : LabelsAreRead areas)
    (is : lookup uuid (namespaces_of sets areas).entries ≡ Some e) (status : e.status ≡ Complete e.name false) where
  quiet : e.read_only ≡ None → e.updating ≡ []
  quiet unlocked =
      own_updating sets areas uuid e is
      ∙ none_changing (st.set sets areas uuid e false regions read is status unlocked) uuid (st.model sets areas uuid e false regions read is status unlocked) (st.rules sets areas uuid e false regions read is status unlocked).whole e.name areas
      (st.stands sets areas uuid e false regions read is status unlocked)

  module _ (unlocked : e.read_only ≡ None) where
    abbrev lab : ℕ → Option Label
    lab = st.lab sets areas uuid e false regions read is status unlocked

    abbrev own_ps : List (ℕ × Label)
    own_ps = st.ps sets areas uuid e false regions read is status unlocked

    proper_own : Proper uuid lab areas
    proper_own = st.proper sets areas uuid e false regions read is status unlocked

    room_own : AllByRecursion (IsGiven uuid lab areas) own_ps → (m : ℕ) (l : Label) → lab m ≡ Some l → HasRoom lab areas m
    room_own given m l at =
        at_name (HasRoom lab areas) own_ps m (st.only sets areas uuid e false regions read is status unlocked m l at) (all_pass_to (IsGiven uuid lab areas) (λ p. HasRoom lab areas p.0) (λ p g. g.1) own_ps given)

  -- ---- delete

  module _ (gone : refusal_of (namespaces_of sets areas) (command.Delete uuid) ≡ None) where
    abbrev ds : List Change
    ds = delete_changes uuid areas

    has : DeleteGood (namespaces_of sets areas) e
    has = delete_good (namespaces_of sets areas) uuid e is gone

    whole_delete : namespaces_of sets (all_changed areas ds) ≡ done (namespaces_of sets areas) (command.Delete uuid)
    whole_delete = agree.delete_agrees sets areas uuid e false regions read is status gone

    deleted_end : lookup uuid (namespaces_of sets (all_changed areas ds)).entries ≡ None
    deleted_end =
        ap (λ (ns : Namespaces). lookup uuid ns.entries) whole_delete
        ∙ ap (λ (o : Option NamespaceEntry). lookup uuid (deleted_entry (namespaces_of sets areas) o).entries) is
        ∙ lookup_without (namespaces_of sets areas).entries e.uuid uuid
        ∙ rw ((bytes_eq-Decides e.uuid uuid).1 (entries.entry_uuid sets (placed_in_all areas) uuid e (sym (lookup_entries sets (placed_in_all areas) uuid) ∙ is))) refl

    delete_many : AllByRecursion (IsGiven uuid (lab has.unlocked) areas) (own_ps has.unlocked) → RecoversBy sets areas (delete_changes uuid areas) (command.Delete uuid)
    delete_many given n stays = by (delete_is_cut sets areas uuid e regions read is status gone n stays)
      where
        fits : Fitting uuid (lab has.unlocked) areas ds
        fits = two_fits uuid (lab has.unlocked) areas to_updating to_nothing keeps_updating keeps_nothing (own_ps has.unlocked) given

        cut : FrontOf sets uuid (lab has.unlocked) areas (after_steps areas ds n stays)
        cut = front_of_cut sets uuid (lab has.unlocked) areas ds (proper_own has.unlocked) fits (room_own has.unlocked given) n stays

        before : FrontOf sets uuid (lab has.unlocked) areas areas
        before = front_before sets uuid (lab has.unlocked) areas ds (proper_own has.unlocked) fits (room_own has.unlocked given)

        after : FrontOf sets uuid (lab has.unlocked) areas (all_changed areas ds)
        after = front_after sets uuid (lab has.unlocked) areas ds (proper_own has.unlocked) fits (room_own has.unlocked given)

        by : CutOfDelete e (lookup uuid (namespaces_of sets (after_steps areas ds n stays)).entries)
            → (after_recovery (namespaces_of sets (after_steps areas ds n stays)) ≡ after_recovery (namespaces_of sets areas))
            ⊎ (after_recovery (namespaces_of sets (after_steps areas ds n stays)) ≡ after_recovery (done (namespaces_of sets areas) (command.Delete uuid)))
        by (inl same) = inl (recovers_same sets uuid (lab has.unlocked) areas (after_steps areas ds n stays) areas cut before (same ∙ sym is))
        by (inr (inl (x, at, pending))) =
            inl (recovers_settled sets uuid (lab has.unlocked) areas (after_steps areas ds n stays) areas cut before x e e.name at pending is refl status (quiet has.unlocked))
        by (inr (inr (inl (x, at, part)))) =
            inr (recovers_gone sets uuid (lab has.unlocked) areas (after_steps areas ds n stays) (all_changed areas ds) cut after x at part.unfinished deleted_end ∙ ap after_recovery whole_delete)
        by (inr (inr (inr none))) = inr (recovers_same sets uuid (lab has.unlocked) areas (after_steps areas ds n stays) (all_changed areas ds) cut after (none ∙ sym deleted_end) ∙ ap after_recovery whole_delete)

    pub delete_recovers : RecoversBy sets areas (delete_changes uuid areas) (command.Delete uuid)
    delete_recovers n stays = elim (cases_lt 1 (length e.parts)) [
      | inl many ↦ delete_many (st.given sets areas uuid e false regions read is status has.unlocked (rw (le-leb 2 (length e.parts) (omega arith)) at has.room)) n stays
      | inr few ↦
          let some = st.some_own sets areas uuid e false regions read is status has.unlocked in
          let count = st.count_is sets areas uuid e false regions read is status has.unlocked in
          by (one_or_none areas ds n stays (one_change (own_ps has.unlocked) (omega (arith, some, count))))
    ]
      where
        one_change : (qs : List (ℕ × Label)) → length qs ≡ 1 → length (in_two to_updating to_nothing qs) ≡ 1
        one_change [] e = absurd (omega arith)
        one_change (q ∷ []) e = refl
        one_change (q ∷ r ∷ qs) e = absurd (omega arith)

        by : (after_steps areas ds n stays ≡ areas) ⊎ (after_steps areas ds n stays ≡ all_changed areas ds)
            → (after_recovery (namespaces_of sets (after_steps areas ds n stays)) ≡ after_recovery (namespaces_of sets areas))
            ⊎ (after_recovery (namespaces_of sets (after_steps areas ds n stays)) ≡ after_recovery (done (namespaces_of sets areas) (command.Delete uuid)))
        by (inl same) = inl (ap (λ (left : List (Option Area)). after_recovery (namespaces_of sets left)) same)
        by (inr same) = inr (ap (λ (left : List (Option Area)). after_recovery (namespaces_of sets left)) same ∙ ap after_recovery whole_delete)

  -- ---- rename

  module _ (name : Named) (fine_name : refusal_of (namespaces_of sets areas) (command.Rename uuid name) ≡ None) where
    abbrev rs : List Change
    rs = rename_changes uuid name areas

    abbrev new_name : List ℕ
    new_name = name_in name

    fine : RenameGood (namespaces_of sets areas) e
    fine = rename_good (namespaces_of sets areas) uuid name e is fine_name

    whole_rename : namespaces_of sets (all_changed areas rs) ≡ done (namespaces_of sets areas) (command.Rename uuid name)
    whole_rename = agree.rename_agrees sets areas uuid e false regions read is status name fine_name

    renamed_end : lookup uuid (namespaces_of sets (all_changed areas rs)).entries ≡ Some (renamed e new_name)
    renamed_end =
        ap (λ (ns : Namespaces). lookup uuid ns.entries) whole_rename
        ∙ ap (λ (o : Option NamespaceEntry). lookup uuid (renamed_entry (namespaces_of sets areas) new_name o).entries) is
        ∙ lookup_put (namespaces_of sets areas).entries (renamed e new_name) uuid
        ∙ rw ((bytes_eq-Decides e.uuid uuid).1 (entries.entry_uuid sets (placed_in_all areas) uuid e (sym (lookup_entries sets (placed_in_all areas) uuid) ∙ is))) refl

    pub rename_recovers : RecoversBy sets areas (rename_changes uuid name areas) (command.Rename uuid name)
    rename_recovers n stays = by (rename_is_cut sets areas uuid e regions read is status name fine_name n stays)
      where
        given : AllByRecursion (IsGiven uuid (lab fine.unlocked) areas) (own_ps fine.unlocked)
        given = st.given sets areas uuid e false regions read is status fine.unlocked fine.room

        fits : Fitting uuid (lab fine.unlocked) areas rs
        fits = two_fits uuid (lab fine.unlocked) areas (to_renamed new_name) (to_updated new_name) (keeps_renamed new_name) (keeps_updated new_name) (own_ps fine.unlocked) given

        cut : FrontOf sets uuid (lab fine.unlocked) areas (after_steps areas rs n stays)
        cut = front_of_cut sets uuid (lab fine.unlocked) areas rs (proper_own fine.unlocked) fits (room_own fine.unlocked given) n stays

        before : FrontOf sets uuid (lab fine.unlocked) areas areas
        before = front_before sets uuid (lab fine.unlocked) areas rs (proper_own fine.unlocked) fits (room_own fine.unlocked given)

        after : FrontOf sets uuid (lab fine.unlocked) areas (all_changed areas rs)
        after = front_after sets uuid (lab fine.unlocked) areas rs (proper_own fine.unlocked) fits (room_own fine.unlocked given)

        by : CutOfRename e new_name (lookup uuid (namespaces_of sets (after_steps areas rs n stays)).entries)
            → (after_recovery (namespaces_of sets (after_steps areas rs n stays)) ≡ after_recovery (namespaces_of sets areas))
            ⊎ (after_recovery (namespaces_of sets (after_steps areas rs n stays)) ≡ after_recovery (done (namespaces_of sets areas) (command.Rename uuid name)))
        by (inl same) = inl (recovers_same sets uuid (lab fine.unlocked) areas (after_steps areas rs n stays) areas cut before (same ∙ sym is))
        by (inr (inl (x, at, pending))) =
            inl (recovers_settled sets uuid (lab fine.unlocked) areas (after_steps areas rs n stays) areas cut before x e e.name at pending is refl status (quiet fine.unlocked))
        by (inr (inr (inl (x, at, pending)))) =
            inr (recovers_settled sets uuid (lab fine.unlocked) areas (after_steps areas rs n stays) (all_changed areas rs) cut after x (renamed e new_name) new_name at pending renamed_end refl refl refl ∙ ap after_recovery whole_rename)
        by (inr (inr (inr same))) = inr (recovers_same sets uuid (lab fine.unlocked) areas (after_steps areas rs n stays) (all_changed areas rs) cut after (same ∙ sym renamed_end) ∙ ap after_recovery whole_rename)
