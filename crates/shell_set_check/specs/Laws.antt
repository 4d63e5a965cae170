-- Laws: what a repair of a whole set is worth.
use Rattle.std.specs.Prelude.{◌≡◌, [], ◌++◌, Ok}
use Rattle.nvd_media.specs.Images.{Images}
use Rattle.nfit_reader.specs.Counted.{NamesItsModules}
use Rattle.image_set.specs.Changed.{objects_of}
use Rattle.image_set.specs.Load.{ImageSet, loading}
use Rattle.shell_set_check.specs.Repair.{loaded_lines, repair_lines, repair_text, repaired_set}
use Rattle.shell_set_check.specs.Whole.{lines_of, set_check_outcome}

-- a law: of a set that loads, `check` prints the lines of the set that is loaded
abbrev pub LinesAreLoaded : Type 0
LinesAreLoaded = (set : Images) (loaded : ImageSet) → loading set ≡ Ok loaded → lines_of set ≡ loaded_lines loaded

-- a law: the repaired set, as it is saved, loads again; every table that is read names its modules (`read_nfit`)
abbrev pub RepairedLoads : Type 0
RepairedLoads = (set : Images) (loaded : ImageSet) → NamesItsModules loaded.nfit → loading set ≡ Ok loaded → loading (objects_of (repaired_set loaded)) ≡ Ok (repaired_set loaded)

-- a law: after the lines of what was repaired, a repair prints what `check` prints of the set that is saved
abbrev pub RepairEndsAsCheck : Type 0
RepairEndsAsCheck = (set : Images) (loaded : ImageSet) → NamesItsModules loaded.nfit → loading set ≡ Ok loaded
    → repair_text loaded ≡ repair_lines 0 loaded.labels ++ (set_check_outcome (objects_of (repaired_set loaded))).text

-- a law: in a repaired set there is nothing to repair
abbrev pub SetRepairIsOnce : Type 0
SetRepairIsOnce = (set : Images) (loaded : ImageSet) → loading set ≡ Ok loaded → repair_lines 0 (repaired_set loaded).labels ≡ []
