-- An open label area: its words, and what they show.
use Rattle.std.specs.Prelude.{◌≡◌, ℕ, ◌*◌, false, List, length, Option, Result, Ok, Err}
use Rattle.label_codec.specs.declared.label.Label.{Label}
use Rattle.label_index.specs.declared.index.IndexBlock.{IndexBlock}
use Rattle.label_index.specs.Area.{IsAreaSize}
use Rattle.cut_words.specs.Words.{settled}
use Rattle.cut_words.specs.WordBytes.{bytes_of}
use Rattle.label_area.specs.declared.fault.AreaFault.{AreaFault}
use Rattle.label_area.specs.declared.fault.AreaRefused.{AreaRefused}
use Rattle.label_area.specs.Area.{block_in, slots_by, labels_in}
use Rattle.label_area.specs.State.{AreaState}

-- the labels of an area's words by an index block: for each slot, none if it is free or has no valid label
abbrev pub labels_by : List ℕ → IndexBlock → List (Option Label)
labels_by values block = labels_in (slots_by (bytes_of values) block)

-- the area that words without pending ones show
abbrev pub state_of : List ℕ → IndexBlock → AreaState
state_of values block = record { words = settled values; block = block; labels = labels_by values block; stopped = false }

-- What holds of an area that isn't stopped: no word is pending, and the words show its block and labels. So it also opens with
-- them after a power loss.
pub record IsReady (area : AreaState) : Type 0 where
  pub size : IsAreaSize (8 * length area.words.kept)
  pub current : block_in (bytes_of area.words.kept) ≡ Ok area.block
  pub shown : area ≡ state_of area.words.kept area.block

-- the invariant of every area
abbrev pub IsStoppedOrReady : AreaState → Type 0
IsStoppedOrReady area = area.stopped ≡ false → IsReady area

-- ---- opening

abbrev pub refused : List ℕ → AreaFault → AreaRefused
refused values fault = record { words = settled values; fault = fault }

abbrev pub opened_by : List ℕ → Result IndexBlock AreaFault → Result AreaState AreaRefused
opened_by values (Ok block) = Ok (state_of values block)
opened_by values (Err fault) = Err (refused values fault)

-- an opened area, or why it is refused
abbrev pub opened : List ℕ → Result AreaState AreaRefused
opened values = opened_by values (block_in (bytes_of values))

-- words that open as an area with this block and these labels
pub record OpensAs (values : List ℕ) (now : IndexBlock) (list : List (Option Label)) : Type 0 where
  pub size : IsAreaSize (8 * length values)
  pub opens : opened values ≡ Ok (record { words = settled values; block = now; labels = list; stopped = false })
