-- A command's own namespace after a crash in the command, on areas that recovery has made. There a namespace that is still pending has a label on a
-- module without a free slot.
use Rattle.std.proofs.Common.{◌≡◌, ◌⊎◌, ℕ, ◌≤◌, Bool, true, false, cond, List, [], ◌∷◌, length, filter, Option, Some, None, refl, sym, ap, ◌∙◌, subst, inl, inr, arith}
use Rattle.std.specs.Prelude.{◌==◌, if◌then◌else◌, nat_lt}
use Rattle.std.specs.Option.{option_map}
use Rattle.std.specs.List.{AllByRecursion, list_any}
use Rattle.std.proofs.lemmas.Bool.{cases_lt, le-leb, true≢false}
use Rattle.std.proofs.lemmas.Bool.Decides.{nat_tests}
use Rattle.std.proofs.lemmas.Option.{none-some, same_Some}
use Rattle.std.proofs.lemmas.Slice.Eq.{bytes_eq-Decides}
use Rattle.nfit_reader.specs.declared.table.Mapping.{Mapping}
use Rattle.label_codec.specs.declared.label.Label.{Label}
use Rattle.label_set.specs.declared.placed.SetStatus.{SetStatus}
use Rattle.label_set.specs.declared.placed.SetStatus.TheVariants.{Complete, Unfinished, Local, Incomplete}
use Rattle.namespace_map.specs.Namespaces.{NamespaceEntry, Namespaces, lookup}
use Rattle.namespace_map.specs.declared.commands.Command.{Command}
use Rattle.namespace_map.specs.declared.commands.Named.{Named}
use Rattle.namespace_map.specs.declared.commands.Command.TheVariants.{Create, Delete, Rename, Claim, Unclaim}
use Rattle.namespace_map.specs.Areas.{Area, Change, after_steps, all_changed}
use Rattle.namespace_map.specs.Changes.{change_to, changes_of, delete_changes, in_two, namespaces_of, own_labels, placed_in_all}
use Rattle.namespace_map.specs.Commands.{area_of, deleted_entry, done, entry_modules, is_complete, after_recovery, refusal_of, settled_entry, settled_status, short_of, unfinished_gone}
use Rattle.namespace_map.specs.Left.{LabelsAreRead, AreRegions}
use Rattle.namespace_map.proofs.Entries as entries
use Rattle.namespace_map.proofs.Entries.{lookup_entries}
use Rattle.namespace_laws.specs.Laws.{CutOfDelete, CutOfDeleteAlone}
use Rattle.namespace_laws.specs.Recovered.{RecoversToEither}
use Rattle.namespace_laws.proofs.Agrees.{lookup_without}
use Rattle.namespace_laws.proofs.Allowed.{not_short}
use Rattle.namespace_laws.proofs.CreateCut.{create_is_cut, create_is_cut_alone}
use Rattle.namespace_laws.proofs.Delete.{to_nothing, to_updating}
use Rattle.namespace_laws.proofs.EntryCut.{DeleteGood, RenameGood, delete_good, rename_good}
use Rattle.namespace_laws.proofs.First.{delete_agrees, delete_is_cut, delete_recovers, first_alone, only_then, rename_is_cut, rename_is_cut_alone, rename_recovers, updating_among}
use Rattle.namespace_laws.proofs.One.{cut_of_one, one_of}
use Rattle.namespace_laws.proofs.Recovery.{goes, lookup_gone, lookup_settled}
use Rattle.namespace_laws.proofs.RecoversLaw.{create_recovers}
use Rattle.namespace_laws.proofs.Refusals.{IsFound, delete_found, rename_found}
use Rattle.namespace_laws.proofs.Standing as st
use Rattle.shell_changes.specs.Maps.{ChangesLabels, DeleteIsLeft, OwnIsLeft, uuid_of}

-- ---- an entry that recovery left

still_there : (gone : Namespaces) (b : Bool) (o : Option NamespaceEntry) (e : NamespaceEntry) → option_map (settled_entry gone) (cond b None o) ≡ Some e → (x : NamespaceEntry) × (o ≡ Some x) × (settled_entry gone x ≡ e)
still_there gone true o e is = absurd (none-some e is)
still_there gone false None e is = absurd (none-some e is)
still_there gone false (Some x) e is = (x, refl, same_Some (settled_entry gone x) e is)

-- it is one that was there, settled
pub found_before : (ns : Namespaces) (u : List ℕ) (e : NamespaceEntry) → lookup u (after_recovery ns).entries ≡ Some e → (x : NamespaceEntry) × (lookup u ns.entries ≡ Some x) × (settled_entry (unfinished_gone ns ns.entries) x ≡ e)
found_before ns u e is =
    let gone = unfinished_gone ns ns.entries in
    still_there gone (list_any (goes u) ns.entries) (lookup u ns.entries) e
    (sym (lookup_settled gone gone.entries u ∙ ap (option_map (settled_entry gone)) (lookup_gone ns.entries ns u)) ∙ is)

-- ---- one that is still pending has a module without a free slot

has_slot : (n : ℕ) → nat_lt n 1 ≡ false → (n == 0) ≡ false
has_slot n some = grind (arith, nat_tests)

none_full : (gone : Namespaces) (modules : List ℕ) → AllByRecursion (λ m. nat_lt (area_of gone m).free 1 ≡ false) modules → list_any (λ m. true) (filter (λ m. (area_of gone m).free == 0) modules) ≡ false
none_full gone [] all = refl
none_full gone (m ∷ modules) (some, rest) = rw (has_slot (area_of gone m).free some) (none_full gone modules rest)

-- so if each module has a free slot, it isn't pending
settled_whole : (gone : Namespaces) (x : NamespaceEntry) → AllByRecursion (λ m. nat_lt (area_of gone m).free 1 ≡ false) x.updating → (name : List ℕ) (pending : Bool) → (settled_entry gone x).status ≡ Complete name pending → pending ≡ false
settled_whole gone x all name pending is = by x.status is
  where
    by : (s : SetStatus) → settled_status s (if is_complete s then filter (λ m. (area_of gone m).free == 0) x.updating else x.updating) ≡ Complete name pending → pending ≡ false
    by (Complete n p) e =
        let same : list_any (λ (m : ℕ). true) (filter (λ m. (area_of gone m).free == 0) x.updating) ≡ pending = cc in
        sym same ∙ none_full gone x.updating all
    by Unfinished e = absurd cc
    by Local e = absurd cc
    by (Incomplete why) e = absurd cc

-- ---- on areas that recovery has made

module _ (sets : List (List Mapping)) (seen mid : List (Option Area)) (regions : AreRegions sets) (read : LabelsAreRead mid) (map_is : namespaces_of sets mid ≡ after_recovery (namespaces_of sets seen)) where
  abbrev ns : Namespaces
  ns = namespaces_of sets mid

  settled_if_room : (u : List ℕ) (e : NamespaceEntry) (pending : Bool) → lookup u ns.entries ≡ Some e → e.status ≡ Complete e.name pending → short_of ns 1 (entry_modules e) ≡ None → pending ≡ false
  settled_if_room u e pending is status room =
      let (x, was, settled) = found_before (namespaces_of sets seen) u e (ap (λ (it : Namespaces). lookup u it.entries) (sym map_is) ∙ is) in
      let gone = unfinished_gone (namespaces_of sets seen) (namespaces_of sets seen).entries in
      let all : AllByRecursion (λ m. nat_lt (area_of (after_recovery (namespaces_of sets seen)) m).free 1 ≡ false) (entry_modules e) =
      not_short (after_recovery (namespaces_of sets seen)) 1 (entry_modules e) (ap (λ (it : Namespaces). short_of it 1 (entry_modules e)) (sym map_is) ∙ room) in
      let all' : AllByRecursion (λ m. nat_lt (area_of gone m).free 1 ≡ false) (entry_modules x) =
      subst (λ (y : NamespaceEntry). AllByRecursion (λ m. nat_lt (area_of gone m).free 1 ≡ false) (entry_modules y)) (sym settled) all in
      settled_whole gone x (updating_among (λ m. nat_lt (area_of gone m).free 1 ≡ false) sets seen u x was all') e.name pending (ap (λ (y : NamespaceEntry). y.status) settled ∙ status)

  -- ---- a delete

  module _ (uuid : List ℕ) (good : refusal_of ns (Delete uuid) ≡ None) where
    abbrev ds : List Change
    ds = changes_of ns mid (Delete uuid)

    found : IsFound sets mid uuid
    found = delete_found sets mid uuid good

    has : DeleteGood ns found.entry
    has = delete_good ns uuid found.entry found.is good

    some_parts : 1 ≤ length found.entry.parts
    some_parts = let some = st.some_own sets mid uuid found.entry found.pending regions read found.is found.status has.unlocked in some

    one_if_pending : found.entry.status ≡ Complete found.entry.name true → length found.entry.parts ≡ 1
    one_if_pending status = elim (cases_lt 1 (length found.entry.parts)) [
      | inl many ↦ absurd (true≢false (settled_if_room uuid found.entry true found.is status (rw (le-leb 2 (length found.entry.parts) (omega (arith, many))) at has.room)))
      | inr few ↦ let some = some_parts in omega (arith, some, few)
    ]

    abbrev IsWhole : List Change → ℕ → Bool → Type 0
    IsWhole cs n stays = (after_steps mid cs n stays ≡ mid) ⊎ (after_steps mid cs n stays ≡ all_changed mid cs)

    -- of one label the delete is one change
    one_change : length found.entry.parts ≡ 1 → (n : ℕ) (stays : Bool) → IsWhole ds n stays
    unfolding all_changed
    one_change one n stays =
        subst (λ (cs : List Change). IsWhole cs n stays) (sym alone) (by (one_of (own_labels mid uuid) (st.count_is sets mid uuid found.entry found.pending regions read found.is found.status has.unlocked ∙ one)))
      where
        alone : ds ≡ delete_changes uuid mid
        alone = only_then sets mid uuid found.entry found.pending regions read found.is found.status (delete_changes uuid) (first_alone sets mid uuid found.entry found.pending regions read found.is found.status one)

        single : (p : ℕ × Label) → IsWhole (in_two to_updating to_nothing (p ∷ [])) n stays
        single p = cut_of_one mid (change_to to_nothing p) n stays

        by : (p : ℕ × Label) × (own_labels mid uuid ≡ p ∷ []) → IsWhole (delete_changes uuid mid) n stays
        by (p, is) = subst (λ (ps : List (ℕ × Label)). IsWhole (in_two to_updating to_nothing ps) n stays) (sym is) (single p)

    whole : namespaces_of sets (all_changed mid ds) ≡ done ns (Delete uuid)
    whole = delete_agrees sets mid uuid regions read good

    deleted : lookup uuid (namespaces_of sets (all_changed mid ds)).entries ≡ None
    deleted =
        ap (λ (it : Namespaces). lookup uuid it.entries) whole
        ∙ ap (λ (o : Option NamespaceEntry). lookup uuid (deleted_entry ns o).entries) found.is
        ∙ lookup_without ns.entries found.entry.uuid uuid
        ∙ rw ((bytes_eq-Decides found.entry.uuid uuid).1 (entries.entry_uuid sets (placed_in_all mid) uuid found.entry (sym (lookup_entries sets (placed_in_all mid) uuid) ∙ found.is))) refl

    delete_alone : length found.entry.parts ≡ 1 → (n : ℕ) (stays : Bool) → CutOfDeleteAlone found.entry (lookup uuid (namespaces_of sets (after_steps mid ds n stays)).entries)
    delete_alone one n stays = elim (one_change one n stays) [
      | inl before ↦ inl (ap (λ (left : List (Option Area)). lookup uuid (namespaces_of sets left).entries) before ∙ found.is)
      | inr after ↦ inr (ap (λ (left : List (Option Area)). lookup uuid (namespaces_of sets left).entries) after ∙ deleted)
    ]

    delete_between : (b : Bool) → found.entry.status ≡ Complete found.entry.name b → (n : ℕ) (stays : Bool) → CutOfDelete found.entry (lookup uuid (namespaces_of sets (after_steps mid ds n stays)).entries)
    delete_between false status n stays = delete_is_cut sets mid uuid found.entry regions read found.is status good n stays
    delete_between true status n stays = elim (delete_alone (one_if_pending status) n stays) [
      | inl before ↦ inl before
      | inr after ↦ inr (inr (inr after))
    ]

    delete_left : (n : ℕ) (stays : Bool) → DeleteIsLeft found.entry (lookup uuid (namespaces_of sets (after_steps mid ds n stays)).entries)
    delete_left n stays = record {
      between = delete_between found.pending found.status n stays;
      alone = λ one. delete_alone one n stays;
      pending = one_if_pending;
    }

  -- ---- a rename

  module _ (uuid : List ℕ) (name : Named) (good : refusal_of ns (Rename uuid name) ≡ None) where
    renamed : IsFound sets mid uuid
    renamed = rename_found sets mid uuid name good

    fine : RenameGood ns renamed.entry
    fine = rename_good ns uuid name renamed.entry renamed.is good

    -- it isn't pending
    quiet : renamed.entry.status ≡ Complete renamed.entry.name false
    quiet =
        renamed.status ∙ ap (λ (b : Bool). Complete renamed.entry.name b) (settled_if_room uuid renamed.entry renamed.pending renamed.is renamed.status fine.room)

  -- ---- any command that isn't refused

  pub own_left : (c : Command) → ChangesLabels c → refusal_of ns c ≡ None → (n : ℕ) (stays : Bool) → OwnIsLeft ns c (lookup (uuid_of c) (namespaces_of sets (after_steps mid (changes_of ns mid c) n stays)).entries)
  own_left (Create spec) changes good n stays = (
    create_is_cut sets mid spec.uuid spec.name spec.region spec.size spec.make regions good n stays,
    λ one. create_is_cut_alone sets mid spec.uuid spec.name spec.region spec.size spec.make regions good one n stays,
  )
  own_left (Delete uuid) changes good n stays = ((found uuid good).entry, (found uuid good).is, delete_left uuid good n stays)
  own_left (Rename uuid name) changes good n stays =
      let it = renamed uuid name good in (
        it.entry,
        it.is,
        record {
          settled = quiet uuid name good;
          between = rename_is_cut sets mid uuid it.entry regions read it.is (quiet uuid name good) name good n stays;
          alone = λ one. rename_is_cut_alone sets mid uuid it.entry regions read it.is (quiet uuid name good) name good one n stays;
        },
      )
  own_left (Claim uuid) changes good n stays = absurd changes
  own_left (Unclaim uuid) changes good n stays = absurd changes

  pub to_either : (c : Command) → ChangesLabels c → refusal_of ns c ≡ None → RecoversToEither sets mid c
  to_either (Create spec) changes good = create_recovers sets mid spec.uuid spec.name spec.region spec.size spec.make regions good
  to_either (Delete uuid) changes good = delete_recovers sets mid uuid regions read good
  to_either (Rename uuid name) changes good = rename_recovers sets mid uuid name regions read good
  to_either (Claim uuid) changes good = absurd changes
  to_either (Unclaim uuid) changes good = absurd changes
