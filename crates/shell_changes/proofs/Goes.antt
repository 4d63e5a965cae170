-- From what became of the areas and contents to what the command comes to.
use Rattle.std.proofs.Common.{◌≡◌, ℕ, Bool, true, false, List, ◌∷◌, [], map, Option, Some, None, Result, Ok, Err, refl, sym, ap, ◌∙◌, subst, inl, inr}
use Rattle.std.specs.Option.{option_map}
use Rattle.cut_words.specs.Words.{Words, IsLeft}
use Rattle.cut_words.specs.Fuses.{burnt, lasts}
use Rattle.nvd_words.specs.Checks.{first_fault, value_unless}
use Rattle.nfit_reader.specs.declared.table.Mapping.{Mapping}
use Rattle.nfit_reader.specs.declared.table.Nfit.{Nfit}
use Rattle.power_cut.specs.Left.{Each}
use Rattle.namespace_areas.specs.declared.area.Area.{Area}
use Rattle.namespace_areas.specs.Areas.{labels_of}
use Rattle.namespace_map.specs.declared.commands.Command.{Command}
use Rattle.namespace_map.specs.declared.refused.OpRefused.{OpRefused}
use Rattle.namespace_map.specs.Namespaces.{Namespaces}
use Rattle.namespace_map.specs.Areas.{Area as SeenArea, Change}
use Rattle.namespace_map.specs.Commands.{refusal_of}
use Rattle.namespace_map.specs.Changes.{namespaces_of, placed_in_all, changes_of, recovery_changes, recovered_areas}
use Rattle.namespace_areas.specs.Seen.{areas_seen}
use Rattle.namespace_areas.specs.Opening.{opened_as, AreWhole}
use Rattle.namespace_areas.specs.Went.{Went}
use Rattle.namespace_areas.proofs.Seen.{seen_labels}
use Rattle.namespace_areas.proofs.Opening.{held_all, row_of}
use Rattle.namespace_ops.specs.declared.registry.OpenFault.{OpenFault}
use Rattle.namespace_ops.specs.Registered.{Registered, opened_on}
use Rattle.namespace_ops.specs.Opening.{registry_opening, overlap_fault, set_fault_from, sets_of}
use Rattle.nvd_media.specs.Images.{Images}
use Rattle.image_set.specs.Load.{ImageSet, bytes_kept}
use Rattle.shell_reports.specs.declared.power.Power.{Power}
use Rattle.shell_reports.specs.Outcome.{Outcome}
use Rattle.shell_reports.specs.List.{open_outcome}
use Rattle.shell_reports.proofs.Opened.{are_whole}
use Rattle.image_set.specs.declared.changing.OutlineRest.{OutlineRest}
use Rattle.shell_changes.specs.Areas.{areas_in, rows_in}
use Rattle.shell_changes.specs.Going.{GoesOn, GoesThen, GoesFrom, SavesCut, StopsFirst, Works}
use Rattle.shell_changes.specs.Namespaces.{sets_in, refusal_in, work_by, work_in, ChangeComes, Goes, OnSets}
use Rattle.shell_changes.specs.Reading.{IsParted, set_parted}
use Rattle.shell_changes.specs.Rest.{objects_by, objects_for, words_for}
use Rattle.namespace_ops.specs.Counted.{makes_sectors}
use Rattle.shell_changes.specs.Work.{arena_of, count_of}
use Rattle.shell_changes.proofs.Areas.{HasWhole, IsSavedAs, opened_in, parted_kept, parted_labels, parted_nfit, parted_plain, parted_whole, rows_are}
use Rattle.shell_changes.proofs.Ends.{cut_after, cut_in_recovery, cut_within, done_after, refused_after}
use Rattle.shell_changes.proofs.Formats.{SavedAs, saved_as}
use Rattle.namespace_ops.proofs.Regions.{was_opened}

module _ (leaves : ℕ → List (Option Words) → List (Option (List ℕ)) → Type 0) (set : ImageSet) (words : List (Option Words)) (contents : List Words) (kept : List (Option (List ℕ)) → Images) (objects : List (Option (List ℕ)) → List (List ℕ) → Images) (labels : set.labels ≡ map (option_map bytes_kept) words) (is_kept : IsSavedAs set words [] (λ rows left. kept rows)) (fit : rows_in set ≡ map row_of words) (power : Power) (outcome : Outcome)
    (sets : List (List Mapping)) (c : Command) (plain : makes_sectors c ≡ false → IsSavedAs set words contents objects) (whole : makes_sectors c ≡ true → HasWhole set contents objects) where
  abbrev opened : List Area
  opened = map opened_as words

  abbrev seen : List (Option SeenArea)
  seen = areas_seen (map opened_as words)

  abbrev mid_seen : List (Option SeenArea)
  mid_seen = recovered_areas sets seen

  abbrev ns : Namespaces
  ns = namespaces_of sets mid_seen

  abbrev first : List Change
  first = recovery_changes sets seen

  abbrev own : List Change
  own = changes_of ns mid_seen c

  -- areas and contents that a command changed, by whether power lasts for its format and for its label changes
  module _ (mid : List Area) (left : Option ℕ) (one : Went opened mid power.steps left first true) (on : GoesOn leaves objects power sets mid contents left c outcome) where
    works : Works (arena_of ns c) mid on.news contents on.made left on.left own on.whole
    works =
        subst (λ (xs : List (Option SeenArea)). Works (arena_of (namespaces_of sets xs) c) mid on.news contents on.made left on.left (changes_of (namespaces_of sets xs) xs c) on.whole) (one.done refl) on.works

    at : (rows : List (Option (List ℕ))) (made_left : List (List ℕ)) → Each IsLeft on.made made_left → SavedAs leaves (arena_of ns c) set words objects on.made left rows made_left
    at rows made_left each = saved_as leaves set words contents objects labels on.made rows made_left each ns c left plain whole works.formats

    labels_on : lasts left (count_of (arena_of ns c)) ≡ true → (b : Bool) → on.whole ≡ b → Goes leaves set seen (work_by sets seen c None) None power outcome
    labels_on long true is =
        let s = on.done is in
        done_after leaves set words contents objects labels fit power outcome first own (arena_of ns c) mid left one on.news on.made on.left long works.formats
        (subst (λ (b : Bool). Went mid on.news (burnt left (count_of (arena_of ns c))) on.left own b) is (works.labels long)) s (at s.rows s.contents_left s.left)
    labels_on long false is =
        let s = on.cut is in
        cut_after leaves set words contents objects labels fit power outcome first own (arena_of ns c) mid left one on.news on.made on.left long
        (subst (λ (b : Bool). Went mid on.news (burnt left (count_of (arena_of ns c))) on.left own b) is (works.labels long)) s (at s.rows s.contents_left s.left)

    gone_on : (b : Bool) → lasts left (count_of (arena_of ns c)) ≡ b → Goes leaves set seen (work_by sets seen c None) None power outcome
    gone_on true long = labels_on long on.whole refl
    gone_on false short =
        let within = works.within short in
        let s : SavesCut leaves objects power mid on.made outcome = subst (λ (xs : List Area). SavesCut leaves objects power xs on.made outcome) within.1 (on.cut within.0) in
        cut_within leaves set words contents objects labels fit power outcome first own (arena_of ns c) mid left one on.made short s (at s.rows s.contents_left s.left)

  gone_then : (g : GoesThen leaves objects power sets opened contents c outcome) (r : Option OpRefused) → refusal_in sets seen c ≡ r → Goes leaves set seen (work_by sets seen c r) r power outcome
  gone_then g (Some f) some =
      refused_after leaves set words contents objects labels fit power outcome first g.mid g.left f g.first
      (g.refused f (ap (λ (xs : List (Option SeenArea)). refusal_of (namespaces_of sets xs) c) (g.first.done refl) ∙ some))
  gone_then g None none =
      gone_on g.mid g.left g.first (g.went (ap (λ (xs : List (Option SeenArea)). refusal_of (namespaces_of sets xs) c) (g.first.done refl) ∙ none))
      (lasts g.left (count_of (arena_of ns c))) refl

  stopped : (s : StopsFirst leaves kept power sets opened outcome) (r : Option OpRefused) → Goes leaves set seen (work_by sets seen c r) r power outcome
  stopped s (Some f) = cut_in_recovery leaves set words [] (λ rows left. kept rows) labels fit power outcome first [] None is_kept (Some f) s.news s.left s.went s.cut
  stopped s None = cut_in_recovery leaves set words [] (λ rows left. kept rows) labels fit power outcome first own (arena_of ns c) is_kept None s.news s.left s.went s.cut

  pub goes : GoesFrom leaves kept objects power sets opened contents c outcome → Goes leaves set seen (work_in sets seen c) (refusal_in sets seen c) power outcome
  goes (inl s) = stopped s (refusal_in sets seen c)
  goes (inr g) = gone_then g (refusal_in sets seen c) refl

reading : Nfit → Option OpenFault → Result (List (List Mapping)) OpenFault
reading nfit overlap = value_unless (sets_of nfit) (first_fault (set_fault_from 0 nfit.regions ∷ overlap ∷ []))

read_ok : (nfit : Nfit) (overlap : Option OpenFault) → set_fault_from 0 nfit.regions ≡ None → overlap ≡ None → reading nfit overlap ≡ Ok (sets_of nfit)
unfolding reading first_fault
read_ok nfit overlap sound clear = rw (sound, clear) refl

err_by : {A B F : Type 0} (v : A) (w : B) (o : Option F) (f : F) → Err f ≡ value_unless v o → value_unless w o ≡ Err f
err_by v w None f is = absurd (let e = is in cc)
err_by {F = F} v w (Some g) f is = ap (λ (x : F). Err x) (let e = is in cc)

read_err : (nfit : Nfit) (areas : List Area) (f : OpenFault) → Err f ≡ registry_opening nfit areas → reading nfit (overlap_fault (labels_of areas)) ≡ Err f
unfolding reading registry_opening
read_err nfit areas f is = err_by (opened_on (sets_of nfit) areas) (sets_of nfit) (first_fault (set_fault_from 0 nfit.regions ∷ overlap_fault (labels_of areas) ∷ [])) f is

module _ (set : ImageSet) (words : List (Option Words)) (nfit : Nfit) (labels : set.labels ≡ map (option_map bytes_kept) words) (is_nfit : set.nfit ≡ nfit) where
  pub labels_are : areas_seen (map opened_as words) ≡ areas_in set.labels
  labels_are = opened_in words ∙ ap areas_in (sym labels)

  -- the sets that the definition takes are those of the registry
  overlap_is : AreWhole words → overlap_fault (labels_of (map opened_as words)) ≡ overlap_fault (placed_in_all (areas_in set.labels))
  overlap_is whole = ap overlap_fault (sym (seen_labels (map opened_as words) (held_all words whole)) ∙ ap placed_in_all labels_are)

  sets_are : AreWhole words → sets_in set ≡ reading nfit (overlap_fault (labels_of (map opened_as words)))
  unfolding reading
  sets_are whole = ap (λ (n : Nfit). reading n (overlap_fault (placed_in_all (areas_in set.labels)))) is_nfit ∙ ap (reading nfit) (sym (overlap_is whole))

  -- so the sets are those of a registry that is opened
  pub sets_ok : (registry : Registered) → AreWhole words → Ok registry ≡ registry_opening nfit (map opened_as words) → sets_in set ≡ Ok registry.sets
  sets_ok registry whole is =
      let was = was_opened nfit (map opened_as words) registry is in
      sets_are whole ∙ read_ok nfit (overlap_fault (labels_of (map opened_as words))) was.sound was.clear ∙ ap (λ (s : List (List Mapping)). Ok s) was.sets

  -- and there are none if it isn't opened
  pub sets_err : (f : OpenFault) → AreWhole words → Err f ≡ registry_opening nfit (map opened_as words) → sets_in set ≡ Err f
  sets_err f whole is = sets_are whole ∙ read_err nfit (map opened_as words) f is

module _ (leaves : ℕ → List (Option Words) → List (Option (List ℕ)) → Type 0) (nfit : Nfit) (labels : List (Option Words)) (rest : OutlineRest) (contents : List (List ℕ)) (power : Power) (c : Command) (outcome : Outcome) (parted : IsParted nfit labels rest) where
  all_whole : AreWhole labels
  all_whole = are_whole labels parted.areas

  abbrev set : ImageSet
  set = set_parted nfit labels rest contents

  -- a registry that is opened, and a command on what it has
  pub comes : (registry : Registered) → Ok registry ≡ registry_opening nfit (map opened_as labels)
      → GoesFrom leaves (objects_by rest contents) (objects_for (makes_sectors c) rest contents) power registry.sets registry.areas (words_for (makes_sectors c) contents) c outcome → ChangeComes leaves c power set outcome
  comes registry is from =
      let was = was_opened nfit (map opened_as labels) registry is in
      let are = parted_labels nfit labels rest contents in
      let sets : sets_in set ≡ Ok registry.sets = sets_ok set labels nfit are (parted_nfit nfit labels rest contents) registry all_whole is in
      let from' : GoesFrom leaves (objects_by rest contents) (objects_for (makes_sectors c) rest contents) power registry.sets (map opened_as labels) (words_for (makes_sectors c) contents) c outcome =
      subst (λ (xs : List Area). GoesFrom leaves (objects_by rest contents) (objects_for (makes_sectors c) rest contents) power registry.sets xs (words_for (makes_sectors c) contents) c outcome) (sym was.areas_are) from in
      let it = goes leaves set labels (words_for (makes_sectors c) contents) (objects_by rest contents) (objects_for (makes_sectors c) rest contents) are (parted_kept nfit labels rest contents)
      (rows_are set labels are parted.areas) power outcome registry.sets c
      (λ makes_none. parted_plain nfit labels rest contents (makes_sectors c) makes_none) (λ makes. parted_whole nfit labels rest contents (makes_sectors c) makes) from' in
      subst (λ (r : Result (List (List Mapping)) OpenFault). OnSets leaves set c power r outcome) (sym sets)
      (subst (λ (xs : List (Option SeenArea)). Goes leaves set xs (work_in registry.sets xs c) (refusal_in registry.sets xs c) power outcome) (labels_are set labels nfit are (parted_nfit nfit labels rest contents)) it)

  -- one that isn't
  pub comes_not : (f : OpenFault) → Err f ≡ registry_opening nfit (map opened_as labels) → outcome ≡ open_outcome f → ChangeComes leaves c power set outcome
  comes_not f is said =
      let sets : sets_in set ≡ Err f = sets_err set labels nfit (parted_labels nfit labels rest contents) (parted_nfit nfit labels rest contents) f all_whole is in
      subst (λ (r : Result (List (List Mapping)) OpenFault). OnSets leaves set c power r outcome) (sym sets) said
