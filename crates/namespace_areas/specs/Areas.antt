-- The label areas of all modules, and the labels that they show.
use Rattle.std.specs.Prelude.{◌≡◌, ⊤, false, List, map, Option, Some, None}
use Rattle.std.specs.List.{All}
use Rattle.label_codec.specs.declared.label.Label.{Label}
use Rattle.label_set.specs.declared.placed.Placed.{Placed}
use Rattle.namespace_map.specs.Namespaces.{placed_of}
use Rattle.namespace_areas.specs.declared.area.Area.{Area}
use Rattle.namespace_areas.specs.declared.area.Area.TheVariants.{Absent, Refused, Ready}

-- power wasn't cut in a change of the area
abbrev pub IsRunning : Area → Type 0
IsRunning Absent = ⊤
IsRunning (Refused refused) = ⊤
IsRunning (Ready area) = area.stopped ≡ false

abbrev pub AreRunning : List Area → Type 0
AreRunning areas = All IsRunning areas

-- the labels that an area shows, by slot; None if it isn't read
abbrev pub shown_in : Area → Option (List (Option Label))
shown_in Absent = None
shown_in (Refused refused) = None
shown_in (Ready area) = Some area.labels

-- the labels of all modules, rising by module and slot
abbrev pub labels_of : List Area → List Placed
labels_of areas = placed_of (map shown_in areas)
