-- A change of the labels of an open area.
use Rattle.std.specs.Prelude.{◌≡◌, ◌⊎◌, ◌+◌, ◌<◌, ◌≤◌, ℕ, Bool, true, false, not, if◌then◌else◌, List, slice_index_or, slice_set, Option, Some, None, Result, Ok, Err}
use Rattle.std.specs.List.{position}
use Rattle.label_codec.specs.declared.label.Label.{Label}
use Rattle.label_index.specs.declared.index.IndexBlock.{IndexBlock}
use Rattle.cut_words.specs.Words.{IsLeft, settled}
use Rattle.cut_words.specs.Fuses.{Makes, lasts}
use Rattle.label_area.specs.declared.fault.ChangeRefused.{ChangeRefused}
use Rattle.label_area.specs.declared.fault.ChangeRefused.TheVariants.{NoSlot, PowerCut}
use Rattle.label_area.specs.Change.{slot_of_put, next_block, words_after, replace_steps, count_of_steps}
use Rattle.label_area.specs.Whole.{IsCut, steps_under}
use Rattle.label_area.specs.State.{AreaState}
use Rattle.label_area.specs.Opened.{OpensAs}

-- ---- the label's slot

abbrev pub least_free : List Bool → Option ℕ
least_free free = position (λ is_free. is_free) free

-- a label with the number of a slot, if there is one
abbrev pub under_slot : Label → Option ℕ → Result (Option Label) ChangeRefused
under_slot label None = Err NoSlot
under_slot label (Some slot) = Ok (Some (record label { slot = slot }))

-- the label to put, if there is one, with the number of the least free slot
abbrev pub placed : List Bool → Option Label → Result (Option Label) ChangeRefused
placed free None = Ok None
placed free (Some label) = under_slot label (least_free free)

-- a slot that is used
abbrev pub IsUsedSlot : List Bool → ℕ → Type 0
IsUsedSlot free slot = slice_index_or free slot true ≡ false

-- the slots of a change are below `count`
pub record IsInside (count : ℕ) (out : Option ℕ) (put : Option Label) : Type 0 where
  pub out_in : (k : ℕ) → out ≡ Some k → k < count
  pub put_in : (l : Label) → put ≡ Some l → l.slot < count

-- ---- the result

-- the result of a change whose label has its slot: that slot, unless the fuse has fewer steps than the change needs
abbrev pub change_answer : IndexBlock → Option ℕ → Option Label → Result (Option ℕ) ChangeRefused
change_answer block fuse put = if lasts fuse (count_of_steps block.size put) then Ok (slot_of_put put) else Err PowerCut

abbrev pub answer_by : IndexBlock → Option ℕ → Result (Option Label) ChangeRefused → Result (Option ℕ) ChangeRefused
answer_by block fuse (Ok put) = change_answer block fuse put
answer_by block fuse (Err refused) = Err refused

abbrev pub replace_answer : IndexBlock → Option ℕ → Option Label → Result (Option ℕ) ChangeRefused
replace_answer block fuse put = answer_by block fuse (placed block.free put)

-- ---- the effect on the area

-- labels with one put in its slot, and with one removed
abbrev pub with_new : Option Label → List (Option Label) → List (Option Label)
with_new None labels = labels
with_new (Some label) labels = slice_set labels label.slot (Some label)

abbrev pub without_old : Option ℕ → List (Option Label) → List (Option Label)
without_old None labels = labels
without_old (Some out) labels = slice_set labels out None

abbrev pub labels_after : Option ℕ → Option Label → List (Option Label) → List (Option Label)
labels_after out put labels = without_old out (with_new put labels)

-- an area after a change: no word is pending, the next block is current, and the labels of two slots have changed
abbrev pub changed : AreaState → Option ℕ → Option Label → AreaState
changed area out put = record {
  words = settled (words_after area.words.kept area.block out put);
  block = next_block area.block out put;
  labels = labels_after out put area.labels;
  stopped = false;
}

-- After a crash that follows n steps of a change, the area opens with the block and the labels from before. If one step is
-- missing, it opens with those or with the ones after the change; if none is missing, with the latter.
pub record Reopens (area : AreaState) (out : Option ℕ) (put : Option Label) (n : ℕ) (left : List ℕ) : Type 0 where
  pub before : n + 1 < count_of_steps area.block.size put → OpensAs left area.block area.labels
  pub either : n + 1 ≡ count_of_steps area.block.size put → OpensAs left area.block area.labels ⊎ OpensAs left (next_block area.block out put) (labels_after out put area.labels)
  pub after : count_of_steps area.block.size put ≤ n → OpensAs left (next_block area.block out put) (labels_after out put area.labels)

-- the effect of a change whose label has its slot on an area and a fuse
pub record IsChanged (old new : AreaState) (fuse left out : Option ℕ) (put : Option Label) : Type 0 where
  -- the change's steps were made, as far as the fuse lasts; if it doesn't last for all, the area is stopped
  pub made : Makes old.words new.words fuse left (replace_steps old.words.kept old.block out put) (not new.stopped)
  -- if all were made
  pub done : new.stopped ≡ false → new ≡ changed old out put
  -- the area after a crash: its current block and its slots, and how it opens
  pub whole : (values : List ℕ) → IsLeft new.words values → IsCut old.words.kept old.block out put (steps_under fuse (count_of_steps old.block.size put)) values
  pub reopens : (values : List ℕ) → IsLeft new.words values → Reopens old out put (steps_under fuse (count_of_steps old.block.size put)) values

-- the same if there is a slot for the label
abbrev pub Changes : AreaState → AreaState → Option ℕ → Option ℕ → Option ℕ → Option Label → Type 0
Changes old new fuse left out put = (l : Option Label) → placed old.block.free put ≡ Ok l → IsChanged old new fuse left out l
