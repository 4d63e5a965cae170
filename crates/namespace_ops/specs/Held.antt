-- The label areas of an image set while commands run on their namespaces.
use Rattle.std.specs.Prelude.{◌≡◌, ℕ, ◌*◌, ◌≤◌, ◌<◌, ◌^◌, Bool, false, List, length}
use Rattle.nfit_reader.specs.declared.table.Mapping.{Mapping}
use Rattle.namespace_map.specs.Left.{AreRegions}
use Rattle.namespace_areas.specs.declared.area.Area.{Area}
use Rattle.namespace_areas.specs.Areas.{labels_of}
use Rattle.namespace_areas.specs.Groups.{Grouping, HasGroupsOf, slots_in}
use Rattle.namespace_areas.specs.Seen.{AreHeld}

-- the interleave sets by region number, the label areas by module number, and whether power was cut in a command
pub record Held : Type 0 where
  pub sets : List (List Mapping)
  pub areas : List Area
  pub stopped : Bool

-- labels by UUID are those of areas of which none is stopped, and have room for as many as these have slots
pub record AreCurrent (areas : List Area) (groups : Grouping) : Type 0 where
  pub held : AreHeld areas
  pub same : HasGroupsOf groups.sorted (labels_of areas)
  pub few : length groups.sorted ≤ slots_in areas
  pub room : slots_in areas ≤ groups.room

-- after changes: labels by UUID are those of the areas, which have as many slots as before
pub record StayCurrent (old new : List Area) (groups : Grouping) : Type 0 where
  pub current : AreCurrent new groups
  pub slots : slots_in new ≡ slots_in old

-- room for so many labels, and for two changes of each
pub record HasRoomFor (slots own changes : ℕ) : Type 0 where
  pub for_own : slots ≤ own
  pub for_changes : 2 * slots ≤ changes

-- what is kept, with room for so many labels of a UUID and so many changes
pub record IsStore (held : Held) (groups : Grouping) (own changes : ℕ) : Type 0 where
  pub few_sets : length held.sets < 2 ^ 32
  pub few_areas : length held.areas < 2 ^ 32
  pub regions : AreRegions held.sets
  pub current : held.stopped ≡ false → AreCurrent held.areas groups
  pub room : held.stopped ≡ false → HasRoomFor (slots_in held.areas) own changes
