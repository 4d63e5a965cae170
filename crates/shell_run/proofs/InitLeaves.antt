-- The image set after `init`.
use Rattle.std.proofs.Common.{◌≡◌, ℕ, ◌*◌, Bool, true, false, List, length, Option, Some, None, Result, Ok, Err, refl, sym, ap, ◌∙◌, subst, inl}
use Rattle.nvd_media.specs.Images.{Images, IsSameSet}
use Rattle.cut_words.specs.Words.{Words, Step, after, settled, IsLeft}
use Rattle.cut_words.specs.Fuses.{Makes, allowed, lasts, burnt}
use Rattle.cut_words.specs.WordBytes.{bytes_of}
use Rattle.cut_words.proofs.Bytes.{length_bytes}
use Rattle.cut_words.proofs.ByWord.{is_left}
use Rattle.cut_words.proofs.Stays.{length_kept, length_stored}
use Rattle.std.proofs.lemmas.List.{length-replicate}
use Rattle.label_index.specs.declared.index.IndexBlock.{IndexBlock}
use Rattle.label_index.specs.Area.{IsAreaSize}
use Rattle.label_area.specs.declared.fault.AreaFault.{AreaFault}
use Rattle.label_area.specs.declared.fault.AreaFault.TheVariants.{Unsupported, NoIndex, OutOfMemory, AlreadyInitialised, PowerCut}
use Rattle.label_area.specs.Area.{block_in}
use Rattle.label_area.specs.Init.{IsInit, IsInitCut, init_steps, full_words}
use Rattle.label_area.specs.Initialise.{initialised_by, init_count, size_for, slots_for}
use Rattle.label_area.specs.Whole.{steps_under}
use Rattle.label_area.proofs.Blocks.{both_done, both_last, both_whole, is_init, read_fault}
use Rattle.image_set.specs.Load.{ImageSet, area_of}
use Rattle.image_set.specs.Changed.{objects_of, with_area}
use Rattle.shell_reports.specs.declared.status.Ending.{Ending}
use Rattle.shell_reports.specs.declared.power.Power.{Power}
use Rattle.shell_reports.specs.Outcome.{Outcome}
use Rattle.shell_reports.specs.Saved.{IsSaving}
use Rattle.shell_reports.specs.Labels.{fault_outcome}
use Rattle.shell_changes.specs.Init.{InitArea, InitModule}
use Rattle.shell_changes.specs.Remains.{LeavesBy}
use Rattle.shell_changes.proofs.Remains.{row_alone}
use Rattle.shell_run.specs.Laws.{HasBlocks, IsLeftByInit, InitLeavesWhole}
use Rattle.shell_run.proofs.Causes.{words_in_area}
use Rattle.shell_run.proofs.InitBlocks.{blocks_under}

-- a fuse that lasts for the steps of both blocks, or doesn't
module _ (values : List ℕ) (fuse : Option ℕ) (ok : IsInit values (size_for (length values)) (slots_for (length values))) where
  abbrev size : ℕ
  size = size_for (length values)

  abbrev slots : ℕ
  slots = slots_for (length values)

  abbrev steps : List Step
  steps = init_steps values size slots

  abbrev reached : Words
  reached = after (settled values) (allowed fuse steps)

  makes : Makes (settled values) reached fuse (burnt fuse (length steps)) steps (lasts fuse (length steps))
  makes = record { words = refl; fuse_left = refl; all_made = refl }

  -- the words after a crash in these steps
  pub short_whole : (left : List ℕ) → IsLeft reached left → IsInitCut size slots (steps_under fuse (init_count (length values))) left
  short_whole left cut = both_whole values size slots ok (settled values) reached fuse (burnt fuse (length steps)) (lasts fuse (length steps)) refl makes left cut

  abbrev blocks : List ℕ → Type 0
  blocks left = HasBlocks size slots (steps_under fuse (init_count (length values))) left

  pub short_blocks : (left : List ℕ) → IsLeft reached left → blocks left
  short_blocks left cut = blocks_under values size slots ok fuse left cut

  -- the words of both blocks are what is left if all steps were made
  done_left : lasts fuse (init_count (length values)) ≡ true → IsLeft reached (full_words values size slots)
  done_left long =
      let all : lasts fuse (length steps) ≡ true = sym (both_last values size slots ok (settled values) reached fuse (burnt fuse (length steps)) (lasts fuse (length steps)) makes) ∙ long in
      let made : Makes (settled values) reached fuse (burnt fuse (length steps)) steps true = subst (λ (b : Bool). Makes (settled values) reached fuse (burnt fuse (length steps)) steps b) all makes in
      let full : reached ≡ settled (full_words values size slots) = both_done values size slots ok (settled values) reached fuse (burnt fuse (length steps)) refl made in
      subst (λ (w : Words). IsLeft w (full_words values size slots)) (sym full) (record { same_length = refl; each = λ i. inl refl })

  pub done_whole : lasts fuse (init_count (length values)) ≡ true → IsInitCut size slots (steps_under fuse (init_count (length values))) (full_words values size slots)
  done_whole long = short_whole (full_words values size slots) (done_left long)

  pub done_blocks : lasts fuse (init_count (length values)) ≡ true → blocks (full_words values size slots)
  done_blocks long = short_blocks (full_words values size slots) (done_left long)

module _ {C : Type 0} (begins : C → ℕ → C → Type 0) (picks : C → ℕ → Bool → C → Type 0) (choose : C) (m : ℕ) (power : Power) (loaded : ImageSet) (outcome : Outcome) (set : Images) (saved : outcome.saved ≡ Some set) where
  abbrev leaves : ℕ → List (Option Words) → List (Option (List ℕ)) → Type 0
  leaves = LeavesBy begins picks choose

  not_saved : (o : Outcome) → o.saved ≡ None → outcome ≡ o → ⊥
  not_saved o none is = let e = sym saved ∙ ap (λ (x : Outcome). x.saved) is ∙ none in cc

  kept_saves_none : (fault : AreaFault) → (fault_outcome m fault).saved ≡ None
  kept_saves_none fault = refl

  abbrev Left : List ℕ → Type 0
  Left area = (now : List ℕ) × IsSameSet set (objects_of (with_area loaded m now)) × IsLeftByInit power.steps area now

  -- the set that a command saves is the one that was saved
  saved_is : (e : Ending) (text : List ℕ) (due : Images) → IsSaving e text due outcome → IsSameSet set due
  saved_is e text due said =
      let same : Some said.saved ≡ Some set = sym said.saves ∙ saved in
      let one : said.saved ≡ set = (let s = same in cc) in
      subst (λ (s : Images). IsSameSet s due) one said.same

  module _ (values area : List ℕ) (is : bytes_of values ≡ area) (sized : IsAreaSize (length area)) where
    words_size : IsAreaSize (8 * length values)
    words_size = subst IsAreaSize (sym (ap (λ (xs : List ℕ). length xs) is) ∙ length_bytes values) sized

    -- the same, counted in the area's bytes
    by_area : (now : List ℕ) → IsInitCut (size_for (length values)) (slots_for (length values)) (steps_under power.steps (init_count (length values))) now
        → HasBlocks (size_for (length values)) (slots_for (length values)) (steps_under power.steps (init_count (length values))) now → IsLeftByInit power.steps area (bytes_of now)
    by_area now cut has = record {
      values = now;
      spelt = refl;
      shows = subst (λ (n : ℕ). IsInitCut (size_for n) (slots_for n) (steps_under power.steps (init_count n)) now) (sym (words_in_area values area is)) cut;
      blocks = subst (λ (n : ℕ). HasBlocks (size_for n) (slots_for n) (steps_under power.steps (init_count n)) now) (sym (words_in_area values area is)) has;
    }

    blank_left : block_in area ≡ Err NoIndex → (b : Bool) → lasts power.steps (init_count (length values)) ≡ b → InitArea leaves m power loaded (initialised_by values power.steps (Err NoIndex)) outcome → Left area
    blank_left none true long comes =
        let done = rw long at comes in
        let bare : block_in (bytes_of values) ≡ Err NoIndex = ap block_in is ∙ none in
        let ok = is_init values words_size bare in
        let full = full_words values (size_for (length values)) (slots_for (length values)) in
        (bytes_of full, saved_is _ _ (objects_of (with_area loaded m (bytes_of full))) done, by_area full (done_whole values power.steps ok long) (done_blocks values power.steps ok long))
    blank_left none false short comes =
        let (left, n, given, (begun, after, begins_at, leaves_from), cut) = rw short at comes in
        let bare : block_in (bytes_of values) ≡ Err NoIndex = ap block_in is ∙ none in
        let ok = is_init values words_size bare in
        let words = reached values power.steps ok in
        let made = allowed power.steps (steps values power.steps ok) in
        let sized_words : length words.stored ≡ length words.kept =
        length_stored made (settled values) ∙ length-replicate (length values) None ∙ sym (length_kept made (settled values)) in
        let there = is_left picks words left begun after sized_words (row_alone picks words left begun after leaves_from) in
        (bytes_of left, saved_is _ _ (objects_of (with_area loaded m (bytes_of left))) cut, by_area left (short_whole values power.steps ok left there) (short_blocks values power.steps ok left there))

    found_left : (found : Result IndexBlock AreaFault) → block_in area ≡ found → InitArea leaves m power loaded (initialised_by values power.steps found) outcome → Left area
    found_left (Ok block) read comes = absurd (not_saved _ (kept_saves_none (AlreadyInitialised block.seq)) comes)
    found_left (Err NoIndex) read comes = blank_left read (lasts power.steps (init_count (length values))) refl comes
    found_left (Err (Unsupported major minor)) read comes = absurd (not_saved _ (kept_saves_none (Unsupported major minor)) comes)
    found_left (Err OutOfMemory) read comes = absurd (not_saved _ (kept_saves_none OutOfMemory) comes)
    found_left (Err (AlreadyInitialised seq)) read comes = absurd (not_saved _ (kept_saves_none (AlreadyInitialised seq)) comes)
    found_left (Err PowerCut) read comes = absurd (read_fault area PowerCut read refl)

  module_left : (found : Option (List ℕ)) (area : List ℕ) → found ≡ Some area → InitModule leaves m power loaded found outcome → IsAreaSize (length area) → Left area
  module_left None area is comes sized = absurd (let e = is in cc)
  module_left (Some area') area is (values, same, comes) sized =
      let one : area' ≡ area = (let e = is in cc) in
      let spelt : bytes_of values ≡ area = same ∙ one in
      found_left values area spelt sized (block_in area) refl (subst (λ (xs : List ℕ). InitArea leaves m power loaded (initialised_by values power.steps (block_in xs)) outcome) spelt comes)

pub init_leaves : {C : Type 0} (begins : C → ℕ → C → Type 0) (picks : C → ℕ → Bool → C → Type 0) (choose : C) → InitLeavesWhole begins picks choose
init_leaves begins picks choose m power loaded outcome set area comes saved found sized =
    module_left begins picks choose m power loaded outcome set saved (area_of loaded m) area found comes sized
