-- The stores and keeps by which a list of changes is made in the words of all label areas, and the words after them. UEFI 2.10,
-- section 13.19 (index blocks, label slots); the steps of one change, and their order, are those of `label_area`.
use Rattle.std.specs.Prelude.{◌≡◌, ℕ, Bool, List, [], ◌∷◌, ◌++◌, length, take, map, slice_set, slice_index_or, Option, Some, None, Result, Ok, Err}
use Rattle.std.specs.Option.{option_map}
use Rattle.cut_words.specs.Words.{Words, Step, stepped, after, settled}
use Rattle.cut_words.specs.Fuses.{burnt, lasts}
use Rattle.cut_words.specs.WordBytes.{bytes_of}
use Rattle.label_codec.specs.declared.label.Label.{Label}
use Rattle.label_index.specs.declared.index.IndexBlock.{IndexBlock}
use Rattle.label_area.specs.declared.fault.AreaFault.{AreaFault}
use Rattle.label_area.specs.declared.fault.ChangeRefused.{ChangeRefused}
use Rattle.label_area.specs.Area.{block_in, slots_by}
use Rattle.label_area.specs.Change.{replace_steps}
use Rattle.label_area.specs.Replace.{placed}
use Rattle.namespace_map.specs.Areas.{Change, slot_of}
use Rattle.namespace_areas.specs.declared.area.Area.{Area}
use Rattle.namespace_areas.specs.Seen.{words_of}

-- ---- one change in one area

-- with the label that is put, under the number of its slot; nothing is stored if no slot is free for it
abbrev pub steps_put : List ℕ → List ℕ → IndexBlock → Result (Option Label) ChangeRefused → List Step
steps_put values uuid block (Ok put) = replace_steps values block (slot_of (slots_by (bytes_of values) block) uuid) put
steps_put values uuid block (Err refused) = []

-- by the current index block; an area that has none isn't changed
abbrev pub steps_by : List ℕ → List ℕ → Option Label → Result IndexBlock AreaFault → List Step
steps_by values uuid label (Ok block) = steps_put values uuid block (placed block.free label)
steps_by values uuid label (Err fault) = []

-- in an area with these words the label of a UUID goes, and a label comes
abbrev pub area_steps : List ℕ → List ℕ → Option Label → List Step
area_steps values uuid label = steps_by values uuid label (block_in (bytes_of values))

-- ---- one change

-- the words of all label areas by the modules' numbers, none if a module has no area
abbrev pub Rows : Type 0
Rows = List (Option (List ℕ))

abbrev pub row_at : Rows → ℕ → Option (List ℕ)
row_at rows m = slice_index_or rows m None

-- the steps of a change in its module's area
abbrev pub row_steps : Option (List ℕ) → Change → List Step
row_steps None c = []
row_steps (Some values) c = area_steps values c.uuid c.label

-- the area's words once these steps are made
abbrev pub row_after : Option (List ℕ) → Change → Option (List ℕ)
row_after None c = None
row_after (Some values) c = Some (after (settled values) (area_steps values c.uuid c.label)).kept

-- a store or a keep, and the module in whose area it is made
abbrev pub AreaStep : Type 0
AreaStep = ℕ × Step

abbrev pub in_area : ℕ → Step → AreaStep
in_area m step = (m, step)

abbrev pub steps_of : Rows → Change → List AreaStep
steps_of rows c = map (in_area c.number) (row_steps (row_at rows c.number) c)

abbrev pub rows_with : Rows → Change → Rows
rows_with rows c = slice_set rows c.number (row_after (row_at rows c.number) c)

-- ---- a list of changes

-- all of their stores and keeps, in order
unfoldable pub all_steps : Rows → List Change → List AreaStep
all_steps rows [] = []
all_steps rows (c ∷ cs) = steps_of rows c ++ all_steps (rows_with rows c) cs

-- the words of all areas once all changes are made
unfoldable pub all_rows : Rows → List Change → Rows
all_rows rows [] = rows
all_rows rows (c ∷ cs) = all_rows (rows_with rows c) cs

-- ---- words after steps

-- the words of all areas, none of them pending
abbrev pub all_settled : Rows → List (Option Words)
all_settled rows = map (option_map settled) rows

abbrev pub stepped_in : List (Option Words) → AreaStep → List (Option Words)
stepped_in areas s = slice_set areas s.0 (option_map (λ words. stepped words s.1) (slice_index_or areas s.0 None))

unfoldable pub after_all : List (Option Words) → List AreaStep → List (Option Words)
after_all areas [] = areas
after_all areas (s ∷ ss) = after_all (stepped_in areas s) ss

-- the steps that a fuse lasts for
abbrev pub front : {A : Type 0} → Option ℕ → List A → List A
front None steps = steps
front (Some n) steps = take n steps

-- the words of all areas after the first n steps of changes: those of the changes that these steps finish, and of the next one
-- what its first steps have stored and kept
abbrev pub words_after : Rows → List Change → ℕ → List (Option Words)
words_after rows changes n = after_all (all_settled rows) (take n (all_steps rows changes))

-- what became of the words of all areas, of which none was pending, and of a fuse by a list of steps, and whether all were made
pub record MakesAll (rows : Rows) (new : List (Option Words)) (fuse left : Option ℕ) (steps : List AreaStep) (made : Bool) : Type 0 where
  pub words : new ≡ after_all (all_settled rows) (front fuse steps)
  pub fuse_left : left ≡ burnt fuse (length steps)
  pub all_made : made ≡ lasts fuse (length steps)

-- ---- areas that are open

-- the kept words of areas
abbrev pub rows_of : List Area → Rows
rows_of areas = map (λ area. option_map (λ words. words.kept) (words_of area)) areas
