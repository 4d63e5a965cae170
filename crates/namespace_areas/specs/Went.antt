-- What becomes of label areas by a list of changes, made one after another under a fuse.
use Rattle.std.specs.Prelude.{◌≡◌, ◌⊎◌, ⊤, ℕ, ◌+◌, ◌<◌, ◌≤◌, Bool, true, List, [], ◌∷◌, length, map, Option, Some, None, IsSome}
use Rattle.cut_words.specs.Words.{IsLeft}
use Rattle.cut_words.specs.Fuses.{Makes, burnt, lasts}
use Rattle.label_codec.specs.declared.label.Label.{Label}
use Rattle.label_codec.specs.Writable.{IsSound}
use Rattle.label_area.specs.Change.{count_of_steps}
use Rattle.label_area.specs.State.{AreaState}
use Rattle.label_area.specs.Opened.{IsReady}
use Rattle.namespace_areas.specs.declared.area.Area.{Area}
use Rattle.namespace_areas.specs.declared.area.Area.TheVariants.{Absent, Refused, Ready}
use Rattle.namespace_map.specs.Areas.{Area as SeenArea, Change, slots_of, free_in, slot_of, area_at, replaced, changed_areas, all_changed, steps_of_all, IsLeftBy}
use Rattle.namespace_areas.specs.Seen.{AreHeld, ready_seen, areas_seen, words_of, AreLeft, area_shown, areas_shown}
use Rattle.namespace_areas.specs.Steps.{MakesAll, all_rows, all_steps, area_steps, rows_of}

-- ---- one area

-- a label that is put has a free slot
abbrev pub HasRoom : Option SeenArea → Option Label → Type 0
HasRoom area None = ⊤
HasRoom area (Some label) = 1 ≤ free_in (slots_of area)

-- an area after the label of a UUID went and a label came
abbrev pub area_after : SeenArea → List ℕ → Option Label → SeenArea
area_after area uuid label = record area { slots = replaced (slot_of area.slots uuid) label area.slots }

-- After a crash n steps into a change the words are opened as the area before the change; if one step alone was missing, as that or
-- as the area after it; after all steps, as the area after it.
pub record ShowsCut (old new : SeenArea) (count n : ℕ) (values : List ℕ) : Type 0 where
  pub before : n + 1 < count → area_shown (Some values) ≡ Some old
  pub either : n + 1 ≡ count → (area_shown (Some values) ≡ Some old) ⊎ (area_shown (Some values) ≡ Some new)
  pub after : count ≤ n → area_shown (Some values) ≡ Some new

-- what became of one area and a fuse by one change
pub record AreaWent (old new : AreaState) (fuse left : Option ℕ) (uuid : List ℕ) (label : Option Label) (made : Bool) : Type 0 where
  pub made_is : made ≡ lasts fuse (count_of_steps old.block.size label)
  pub left_is : left ≡ burnt fuse (count_of_steps old.block.size label)
  -- its words are those after the stores and keeps that the fuse lasts for, and after no other
  pub makes : Makes old.words new.words fuse left (area_steps old.words.kept uuid label) made
  pub ready : made ≡ true → IsReady new
  pub done : made ≡ true → ready_seen new ≡ area_after (ready_seen old) uuid label
  pub cut : (n : ℕ) → fuse ≡ Some n → (values : List ℕ) → IsLeft new.words values
      → ShowsCut (ready_seen old) (area_after (ready_seen old) uuid label) (count_of_steps old.block.size label) n values
  pub size : length new.words.kept ≡ length old.words.kept

-- ---- all areas

-- an area that isn't ready, as it is
abbrev pub unready : Area → Option Area
unready Absent = Some Absent
unready (Refused refused) = Some (Refused refused)
unready (Ready area) = None

-- how many words an area has
abbrev pub size_of : Area → ℕ
size_of Absent = 0
size_of (Refused refused) = length refused.words.kept
size_of (Ready area) = length area.words.kept

-- what became of areas and a fuse by a list of changes, and whether all of them were made to their end
pub record Went (old new : List Area) (fuse left : Option ℕ) (changes : List Change) (whole : Bool) : Type 0 where
  -- they were made if and only if the fuse lasts for their steps
  pub made : whole ≡ lasts fuse (steps_of_all (areas_seen old) changes)
  pub left_is : left ≡ burnt fuse (steps_of_all (areas_seen old) changes)
  -- the words of all areas are those after the changes' stores and keeps that the fuse lasts for, and after no other
  pub makes : MakesAll (rows_of old) (map words_of new) fuse left (all_steps (rows_of old) changes) whole
  pub rows : whole ≡ true → rows_of new ≡ all_rows (rows_of old) changes
  -- then no area is stopped, and they show what the changes make of what they showed
  pub held : whole ≡ true → AreHeld new
  pub done : whole ≡ true → areas_seen new ≡ all_changed (areas_seen old) changes
  -- after a crash the areas show the state in which the changes are after the fuse's steps
  pub cut : (n : ℕ) → fuse ≡ Some n → (rows : List (Option (List ℕ))) → AreLeft new rows → IsLeftBy (areas_seen old) changes n (areas_shown rows)
  -- an area that isn't ready stays as it is, and each keeps its size
  pub beside : map unready new ≡ map unready old
  pub sizes : map size_of new ≡ map size_of old

-- ---- conditions of a list of changes

-- each can be made when its turn comes: its module's area is ready, and a label that is put finds a free slot
abbrev pub CanMake : List (Option SeenArea) → List Change → Type 0
CanMake areas [] = ⊤
CanMake areas (c ∷ cs) = IsSome (area_at areas c.number) × HasRoom (area_at areas c.number) c.label × CanMake (changed_areas areas c) cs

-- a label that is put can be written
abbrev pub PutsSound : Change → Type 0
PutsSound c = (label : Label) → c.label ≡ Some label → IsSound label
