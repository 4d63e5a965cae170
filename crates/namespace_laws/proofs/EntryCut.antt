-- The entry after a crash during a delete or a rename, with any number of modules.
use Rattle.std.proofs.Common.{◌≡◌, ℕ, ◌≤◌, Bool, false, List, [], ◌∷◌, length, Option, Some, None, refl, sym, ap, ◌∙◌, arith, inl, inr, ◌⊎◌}
use Rattle.std.specs.Prelude.{nat_lt, nat_le, if◌then◌else◌, not}
use Rattle.std.specs.Option.{option_map}
use Rattle.std.proofs.lemmas.Bool.{cases_lt, le-leb}
use Rattle.nvd_words.specs.Checks.{first_fault, fault_if}
use Rattle.nfit_reader.specs.declared.table.Mapping.{Mapping}
use Rattle.label_codec.specs.declared.label.Label.{Label}
use Rattle.label_set.specs.declared.placed.SetStatus.TheVariants.{Complete}
use Rattle.namespace_map.specs.Namespaces.{Namespaces, NamespaceEntry, lookup, claims_of}
use Rattle.namespace_map.proofs.Entries as entries
use Rattle.namespace_map.proofs.Entries.{lookup_entries}
use Rattle.namespace_map.specs.declared.commands.Named.{Named}
use Rattle.namespace_map.specs.declared.commands.Command.TheVariants as command
use Rattle.namespace_map.specs.declared.refused.OpRefused.{OpRefused}
use Rattle.namespace_map.specs.declared.refused.OpRefused.TheVariants.{NotComplete, Busy, ReadOnlyLabel}
use Rattle.namespace_map.specs.Areas.{Area, after_steps}
use Rattle.namespace_map.specs.Commands.{name_in, refusal_of, entry_refusal, entry_modules, short_of, bad_name, is_complete}
use Rattle.namespace_map.specs.Changes.{namespaces_of, placed_in_all, delete_changes, rename_changes}
use Rattle.namespace_map.specs.Left.{AreRegions, LabelsAreRead}
use Rattle.namespace_laws.specs.Laws.{CutOfDelete, CutOfDeleteAlone, CutOfRename, CutOfRenameAlone}
use Rattle.namespace_laws.proofs.Whole.{own_of}
use Rattle.namespace_laws.proofs.Sets.{no_fault, unmapped}
use Rattle.namespace_laws.proofs.Delete.{Stands, DeleteLeft, delete_cut}
use Rattle.namespace_laws.proofs.Rename.{RenameLeft, rename_cut}
use Rattle.namespace_laws.proofs.CreateCut.{length_cut}
use Rattle.namespace_laws.proofs.Standing as st
use Rattle.namespace_laws.proofs.One.{delete_cut_one, rename_cut_one}

no_label : ℕ × Label
no_label = (0, record { uuid = []; name = []; flags = 0; count = 0; position = 0; cookie = 0; lba = 0; dpa = 0; raw = 0; slot = 0; align = 0; kind = []; abstraction = []; spa_cookie = 0 })

-- ---- commands that aren't refused

-- a delete that isn't refused
pub record DeleteGood (ns : Namespaces) (e : NamespaceEntry) : Type 0 where
  pub unlocked : e.read_only ≡ None
  pub room : (if nat_le 2 (length e.parts) then short_of ns 1 (entry_modules e) else None) ≡ None

found_refusal : (further : NamespaceEntry → List (Option OpRefused)) (o : Option NamespaceEntry) (e : NamespaceEntry) → o ≡ Some e → entry_refusal o further ≡ None → first_fault (fault_if (not (is_complete e.status)) NotComplete ∷ further e) ≡ None
found_refusal further o e is good = sym (ap (λ (x : Option NamespaceEntry). entry_refusal x further) is) ∙ good

pub delete_good : (ns : Namespaces) (uuid : List ℕ) (e : NamespaceEntry) → lookup uuid ns.entries ≡ Some e → refusal_of ns (command.Delete uuid) ≡ None → DeleteGood ns e
delete_good ns uuid e is good =
    let all = found_refusal (λ e.
    fault_if (nat_lt 0 (claims_of ns uuid)) (Busy (claims_of ns uuid))
    ∷ option_map (λ number. ReadOnlyLabel number) e.read_only
    ∷ (if nat_le 2 (length e.parts) then short_of ns 1 (entry_modules e) else None)
    ∷ []) (lookup uuid ns.entries) e is good in
    let r1 = (no_fault (fault_if (not (is_complete e.status)) NotComplete) _ all).1 in
    let r2 = (no_fault (fault_if (nat_lt 0 (claims_of ns uuid)) (Busy (claims_of ns uuid))) _ r1).1 in
    let r3 = no_fault (option_map (λ number. ReadOnlyLabel number) e.read_only) _ r2 in
    let r4 = no_fault (if nat_le 2 (length e.parts) then short_of ns 1 (entry_modules e) else None) _ r3.1 in
    record { unlocked = unmapped (λ number. ReadOnlyLabel number) e.read_only r3.0; room = r4.0 }

pub record RenameGood (ns : Namespaces) (e : NamespaceEntry) : Type 0 where
  pub unlocked : e.read_only ≡ None
  pub room : short_of ns 1 (entry_modules e) ≡ None

pub rename_good : (ns : Namespaces) (uuid : List ℕ) (name : Named) (e : NamespaceEntry) → lookup uuid ns.entries ≡ Some e → refusal_of ns (command.Rename uuid name) ≡ None → RenameGood ns e
rename_good ns uuid name e is good =
    let r0 = (no_fault (bad_name name) _ good).1 in
    let r00 = (no_fault (entry_refusal (lookup uuid ns.entries) (λ e. option_map (λ number. ReadOnlyLabel number) e.read_only ∷ short_of ns 1 (entry_modules e) ∷ [])) _ r0).0 in
    let all = found_refusal (λ e. option_map (λ number. ReadOnlyLabel number) e.read_only ∷ short_of ns 1 (entry_modules e) ∷ []) (lookup uuid ns.entries) e is r00 in
    let r1 = (no_fault (fault_if (not (is_complete e.status)) NotComplete) _ all).1 in
    let r2 = no_fault (option_map (λ number. ReadOnlyLabel number) e.read_only) _ r1 in
    let r3 = no_fault (short_of ns 1 (entry_modules e)) _ r2.1 in
    record { unlocked = unmapped (λ number. ReadOnlyLabel number) e.read_only r2.0; room = r3.0 }

module _ (sets : List (List Mapping)) (areas : List (Option Area)) (uuid : List ℕ) (e : NamespaceEntry) (regions : AreRegions sets) (read : LabelsAreRead areas)
    (is : lookup uuid (namespaces_of sets areas).entries ≡ Some e) (status : e.status ≡ Complete e.name false) where
  abbrev found : List (Option Area) → Option NamespaceEntry
  found left = lookup uuid (namespaces_of sets left).entries

  some_parts : e.read_only ≡ None → 1 ≤ length e.parts
  some_parts unlocked = let h = st.some_own sets areas uuid e false regions read is status unlocked in h

  -- ---- delete

  module _ (good : refusal_of (namespaces_of sets areas) (command.Delete uuid) ≡ None) where
    has : DeleteGood (namespaces_of sets areas) e
    has = delete_good (namespaces_of sets areas) uuid e is good

    abbrev deleted : ℕ → Bool → List (Option Area)
    deleted n stays = after_steps areas (delete_changes uuid areas) n stays

    gone : (left : List (Option Area)) → own_of uuid left ≡ [] → found left ≡ None
    gone left empty = lookup_entries sets (placed_in_all left) uuid ∙ entries.entry_none sets (placed_in_all left) uuid empty

    delete_many : 2 ≤ length e.parts → (n : ℕ) (stays : Bool) → CutOfDelete e (found (deleted n stays))
    delete_many many n stays =
        by (delete_cut uuid (st.set sets areas uuid e false regions read is status has.unlocked) (st.model sets areas uuid e false regions read is status has.unlocked) (st.rules sets areas uuid e false regions read is status has.unlocked).whole
        e.name areas (st.lab sets areas uuid e false regions read is status has.unlocked) (st.ps sets areas uuid e false regions read is status has.unlocked) no_label
        (st.proper sets areas uuid e false regions read is status has.unlocked)
        (st.given sets areas uuid e false regions read is status has.unlocked (rw (le-leb 2 (length e.parts) many) at has.room))
        (st.apart sets areas uuid e false regions read is status has.unlocked) (let c = st.count_is sets areas uuid e false regions read is status has.unlocked in omega (arith, c))
        (st.is_complete sets areas uuid e false regions read is status has.unlocked refl) n stays)
      where
        same : length (deleted n stays) ≡ length areas
        same = length_cut (delete_changes uuid areas) areas n stays

        by : DeleteLeft uuid (st.set sets areas uuid e false regions read is status has.unlocked) (st.model sets areas uuid e false regions read is status has.unlocked) e.name areas (deleted n stays) → CutOfDelete e (found (deleted n stays))
        by (inl before) = inl (ap found before ∙ is)
        by (inr (inl s)) = inr (inl (st.pending_left sets areas uuid e false regions read is status has.unlocked (deleted n stays) same e.name s))
        by (inr (inr (inl s))) = inr (inr (inl (st.part_left sets areas uuid e false regions read is status has.unlocked (deleted n stays) same s)))
        by (inr (inr (inr empty))) = inr (inr (inr (gone (deleted n stays) empty)))

    delete_one : length e.parts ≡ 1 → (n : ℕ) (stays : Bool) → CutOfDeleteAlone e (found (deleted n stays))
    delete_one one n stays =
        by (delete_cut_one uuid areas (st.lab sets areas uuid e false regions read is status has.unlocked) (st.ps sets areas uuid e false regions read is status has.unlocked) (st.proper sets areas uuid e false regions read is status has.unlocked)
        (st.is_complete sets areas uuid e false regions read is status has.unlocked refl).only (st.is_complete sets areas uuid e false regions read is status has.unlocked refl).labels
        (st.count_is sets areas uuid e false regions read is status has.unlocked ∙ one) n stays)
      where
        by : (deleted n stays ≡ areas) ⊎ (own_of uuid (deleted n stays) ≡ []) → CutOfDeleteAlone e (found (deleted n stays))
        by (inl before) = inl (ap found before ∙ is)
        by (inr empty) = inr (gone (deleted n stays) empty)

    pub delete_is_cut : (n : ℕ) (stays : Bool) → CutOfDelete e (found (deleted n stays))
    delete_is_cut n stays = elim (cases_lt 1 (length e.parts)) [
      | inl many ↦ delete_many (omega arith) n stays
      | inr few ↦ let some = some_parts has.unlocked in more (delete_one (omega arith) n stays)
    ]
      where
        more : CutOfDeleteAlone e (found (deleted n stays)) → CutOfDelete e (found (deleted n stays))
        more (inl before) = inl before
        more (inr after) = inr (inr (inr after))

    pub delete_is_cut_alone : length e.parts ≡ 1 → (n : ℕ) (stays : Bool) → CutOfDeleteAlone e (found (deleted n stays))
    delete_is_cut_alone = delete_one

  -- ---- rename

  module _ (name : Named) (good : refusal_of (namespaces_of sets areas) (command.Rename uuid name) ≡ None) where
    fine : RenameGood (namespaces_of sets areas) e
    fine = rename_good (namespaces_of sets areas) uuid name e is good

    abbrev renamed_areas : ℕ → Bool → List (Option Area)
    renamed_areas n stays = after_steps areas (rename_changes uuid name areas) n stays

    rename_many : 2 ≤ length e.parts → (n : ℕ) (stays : Bool) → CutOfRename e (name_in name) (found (renamed_areas n stays))
    rename_many many n stays =
        by (rename_cut uuid (st.set sets areas uuid e false regions read is status fine.unlocked) (st.model sets areas uuid e false regions read is status fine.unlocked) (st.rules sets areas uuid e false regions read is status fine.unlocked).whole
        e.name (name_in name) areas (st.lab sets areas uuid e false regions read is status fine.unlocked) (st.ps sets areas uuid e false regions read is status fine.unlocked) no_label
        (st.proper sets areas uuid e false regions read is status fine.unlocked)
        (st.given sets areas uuid e false regions read is status fine.unlocked fine.room)
        (st.apart sets areas uuid e false regions read is status fine.unlocked) (let c = st.count_is sets areas uuid e false regions read is status fine.unlocked in omega (arith, c))
        (st.is_complete sets areas uuid e false regions read is status fine.unlocked refl) n stays)
      where
        same : length (renamed_areas n stays) ≡ length areas
        same = length_cut (rename_changes uuid name areas) areas n stays

        by : RenameLeft uuid (st.set sets areas uuid e false regions read is status fine.unlocked) (st.model sets areas uuid e false regions read is status fine.unlocked) e.name (name_in name) areas (renamed_areas n stays)
            → CutOfRename e (name_in name) (found (renamed_areas n stays))
        by (inl before) = inl (ap found before ∙ is)
        by (inr (inl s)) = inr (inl (st.pending_left sets areas uuid e false regions read is status fine.unlocked (renamed_areas n stays) same e.name s))
        by (inr (inr (inl s))) = inr (inr (inl (st.pending_left sets areas uuid e false regions read is status fine.unlocked (renamed_areas n stays) same (name_in name) s)))
        by (inr (inr (inr s))) = inr (inr (inr (st.settled_left sets areas uuid e false regions read is status fine.unlocked (renamed_areas n stays) same (name_in name) s)))

    rename_one : length e.parts ≡ 1 → (n : ℕ) (stays : Bool) → CutOfRenameAlone e (name_in name) (found (renamed_areas n stays))
    rename_one one n stays =
        by (rename_cut_one uuid (st.set sets areas uuid e false regions read is status fine.unlocked) (st.model sets areas uuid e false regions read is status fine.unlocked) (st.rules sets areas uuid e false regions read is status fine.unlocked).whole
        e.name (name_in name) areas (st.lab sets areas uuid e false regions read is status fine.unlocked) (st.ps sets areas uuid e false regions read is status fine.unlocked)
        (st.proper sets areas uuid e false regions read is status fine.unlocked)
        (st.given sets areas uuid e false regions read is status fine.unlocked fine.room)
        (st.is_complete sets areas uuid e false regions read is status fine.unlocked refl) (st.count_is sets areas uuid e false regions read is status fine.unlocked ∙ one) n stays)
      where
        same : length (renamed_areas n stays) ≡ length areas
        same = length_cut (rename_changes uuid name areas) areas n stays

        by : (renamed_areas n stays ≡ areas) ⊎ Stands uuid (st.set sets areas uuid e false regions read is status fine.unlocked) (st.model sets areas uuid e false regions read is status fine.unlocked) (Complete (name_in name) false) (renamed_areas n stays)
            → CutOfRenameAlone e (name_in name) (found (renamed_areas n stays))
        by (inl before) = inl (ap found before ∙ is)
        by (inr s) = inr (st.settled_left sets areas uuid e false regions read is status fine.unlocked (renamed_areas n stays) same (name_in name) s)

    pub rename_is_cut : (n : ℕ) (stays : Bool) → CutOfRename e (name_in name) (found (renamed_areas n stays))
    rename_is_cut n stays = elim (cases_lt 1 (length e.parts)) [
      | inl many ↦ rename_many (omega arith) n stays
      | inr few ↦ let some = some_parts fine.unlocked in more (rename_one (omega arith) n stays)
    ]
      where
        more : CutOfRenameAlone e (name_in name) (found (renamed_areas n stays)) → CutOfRename e (name_in name) (found (renamed_areas n stays))
        more (inl before) = inl before
        more (inr after) = inr (inr (inr after))

    pub rename_is_cut_alone : length e.parts ≡ 1 → (n : ℕ) (stays : Bool) → CutOfRenameAlone e (name_in name) (found (renamed_areas n stays))
    rename_is_cut_alone = rename_one
