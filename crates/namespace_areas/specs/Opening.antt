-- Label areas as they are opened: by what their words show.
use Rattle.std.specs.Prelude.{◌≡◌, ◌*◌, List, length, Option, Some, None, Result, Ok, Err}
use Rattle.std.specs.List.{All}
use Rattle.cut_words.specs.Words.{Words, settled}
use Rattle.label_index.specs.Area.{IsAreaSize}
use Rattle.label_area.specs.declared.fault.AreaRefused.{AreaRefused}
use Rattle.label_area.specs.State.{AreaState}
use Rattle.label_area.specs.Opened.{opened}
use Rattle.namespace_areas.specs.declared.area.Area.{Area}
use Rattle.namespace_areas.specs.declared.area.Area.TheVariants.{Absent, Refused, Ready}

-- an area's words, if there is one, have a label area's size, and none of them is pending
pub record IsWhole (words : Option Words) : Type 0 where
  pub sized : (w : Words) → words ≡ Some w → IsAreaSize (8 * length w.kept)
  pub kept : (w : Words) → words ≡ Some w → w ≡ settled w.kept

abbrev pub AreWhole : List (Option Words) → Type 0
AreWhole labels = All IsWhole labels

abbrev pub as_area : Result AreaState AreaRefused → Area
as_area (Ok area) = Ready area
as_area (Err refused) = Refused refused

-- the area that words are opened as, or refused as
abbrev pub opened_as : Option Words → Area
opened_as None = Absent
opened_as (Some words) = as_area (opened words.kept)
