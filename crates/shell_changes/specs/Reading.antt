-- An image set without its contents, for a command on namespaces.
use Rattle.std.specs.Prelude.{◌≡◌, ℕ, ◌<◌, ◌≤◌, ◌^◌, List, length, sum, Option, Ok, [], false}
use Rattle.std.specs.List.{All}
use Rattle.cut_words.specs.Words.{Words}
use Rattle.nfit_reader.specs.declared.table.Mapping.{Mapping}
use Rattle.nfit_reader.specs.declared.table.Nfit.{Nfit}
use Rattle.nfit_reader.specs.Table.{nfit_reading}
use Rattle.nfit_reader.specs.Counted.{AreCounted}
use Rattle.namespace_areas.specs.declared.area.Area.{Area}
use Rattle.namespace_map.specs.declared.commands.Command.{Command}
use Rattle.namespace_ops.specs.Carried.{HasGoodName}
use Rattle.namespace_ops.specs.Registered.{Registered}
use Rattle.image_set.specs.declared.changing.OutlineRest.{OutlineRest}
use Rattle.image_set.specs.Limits.{most_contents}
use Rattle.image_set.specs.Load.{ImageSet}
use Rattle.image_set.specs.Outline.{IsOutlineRest, image_set_with}
use Rattle.image_set.specs.Sizes.{IsContentsSize}
use Rattle.image_set.specs.Sound.{AreMapped, IsArea}
use Rattle.shell_changes.specs.Saved.{AreWholeSizes}

-- ---- in parts

-- the image set that has these parts and these contents
abbrev pub set_parted : Nfit → List (Option Words) → OutlineRest → List (List ℕ) → ImageSet
set_parted nfit labels rest contents = image_set_with (record { nfit = nfit; nfit_bytes = rest.nfit_bytes; labels = labels; sizes = rest.sizes; bad = rest.bad }) contents

-- what holds of the parts of an outline
pub record IsParted (nfit : Nfit) (labels : List (Option Words)) (rest : OutlineRest) : Type 0 where
  pub table : nfit_reading rest.nfit_bytes ≡ Ok nfit
  pub counted : AreCounted nfit
  pub regions : length nfit.regions < 2 ^ 32
  pub areas : All IsArea labels
  pub count : length labels ≡ length rest.sizes
  pub few : length labels < 2 ^ 32
  pub rest_is : IsOutlineRest rest
  -- contents can be read: each size is within its limits, and so is their sum, and they hold the mappings
  pub sized : All IsContentsSize rest.sizes
  pub total : sum rest.sizes ≤ most_contents
  pub mapped : All (AreMapped rest.sizes) nfit.regions

-- ---- a command on these parts

-- what holds of a command, of the sets and areas that it works on, and of the rest
pub record CanRun (sets : List (List Mapping)) (areas : List Area) (rest : OutlineRest) (c : Command) : Type 0 where
  pub few_sets : length sets < 2 ^ 32
  pub name : HasGoodName c
  pub rest_is : IsOutlineRest rest
  pub whole : AreWholeSizes rest.sizes
  pub count : length areas ≡ length rest.sizes

-- a registry with which a run begins: no namespace is claimed, the journal is empty and without room, and power is on
pub record IsFresh (r : Registered) : Type 0 where
  pub running : r.stopped ≡ false
  pub claims : r.claims ≡ []
  pub journal : r.journal ≡ []
  pub room : r.room ≡ []
