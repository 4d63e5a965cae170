-- What the definitions of changes see of label areas, and what they would see after a power cut.
use Rattle.std.specs.Prelude.{◌≡◌, ⊤, ℕ, Bool, false, List, map, Option, Some, None, Result, Ok, Err, unwrap_or}
use Rattle.std.specs.Option.{option_map}
use Rattle.std.specs.List.{All}
use Rattle.std.specs.Str.{bytes_eq}
use Rattle.cut_words.specs.Words.{Words, settled}
use Rattle.cut_words.specs.WordBytes.{bytes_of}
use Rattle.label_codec.specs.declared.label.Label.{Label}
use Rattle.label_index.specs.declared.index.IndexBlock.{IndexBlock}
use Rattle.label_area.specs.declared.fault.AreaFault.{AreaFault}
use Rattle.label_area.specs.declared.fault.AreaRefused.{AreaRefused}
use Rattle.label_area.specs.Area.{block_in, slots_by}
use Rattle.label_area.specs.State.{AreaState}
use Rattle.label_area.specs.Opened.{IsReady}
use Rattle.power_cut.specs.Left.{Each, IsLeftOf}
use Rattle.namespace_areas.specs.declared.area.Area.{Area}
use Rattle.namespace_areas.specs.declared.area.Area.TheVariants.{Absent, Refused, Ready}
use Rattle.namespace_map.specs.Areas.{Area as SeenArea}

-- ---- areas that are held

-- words of which none is pending, and no index block of which is valid
pub record IsRefused (refused : AreaRefused) : Type 0 where
  pub words : refused.words ≡ settled refused.words.kept
  pub block : (b : IndexBlock) → block_in (bytes_of refused.words.kept) ≡ Ok b → ⊥

-- an area as it was read, or as it stands after a change that was made to its end
abbrev pub IsHeld : Area → Type 0
IsHeld Absent = ⊤
IsHeld (Refused refused) = IsRefused refused
IsHeld (Ready area) = IsReady area

abbrev pub AreHeld : List Area → Type 0
AreHeld areas = All IsHeld areas

-- ---- what they show

-- the area that words show by an index block
abbrev pub area_by : List ℕ → IndexBlock → SeenArea
area_by values block = record { block = block.size; slots = slots_by (bytes_of values) block }

-- a ready area, by its current block
abbrev pub ready_seen : AreaState → SeenArea
ready_seen area = area_by area.words.kept area.block

-- an area, none if it isn't ready
abbrev pub area_seen : Area → Option SeenArea
area_seen Absent = None
area_seen (Refused refused) = None
area_seen (Ready area) = Some (ready_seen area)

-- all areas, by the modules' numbers
abbrev pub areas_seen : List Area → List (Option SeenArea)
areas_seen areas = map area_seen areas

-- ---- their state after a crash

-- an area's words, none if there is no area
abbrev pub words_of : Area → Option Words
words_of Absent = None
words_of (Refused refused) = Some refused.words
words_of (Ready area) = Some area.words

-- of each area a row of values: of each word its kept value, or the one that a load returns
abbrev pub AreLeft : List Area → List (Option (List ℕ)) → Type 0
AreLeft areas rows = Each IsLeftOf (map words_of areas) rows

abbrev pub shown_by : List ℕ → Result IndexBlock AreaFault → Option SeenArea
shown_by values (Ok block) = Some (area_by values block)
shown_by values (Err fault) = None

-- the area that values are opened as, none if there are none, or if they are refused
abbrev pub area_shown : Option (List ℕ) → Option SeenArea
area_shown None = None
area_shown (Some values) = shown_by values (block_in (bytes_of values))

-- all areas that rows are opened as
abbrev pub areas_shown : List (Option (List ℕ)) → List (Option SeenArea)
areas_shown rows = map area_shown rows

-- ---- the labels of an area

-- a slot's label, if it has one, is of a UUID
abbrev pub is_label_of : List ℕ → Option Label → Bool
is_label_of uuid label = unwrap_or (option_map (λ l. bytes_eq l.uuid uuid) label) false
