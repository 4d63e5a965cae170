-- Laws: the faults of a set's objects, and loading it. Every table that is read names its modules (`read_nfit`).
use Rattle.std.specs.Prelude.{◌≡◌, [], Contains, Ok, Err}
use Rattle.nvd_media.specs.Images.{Images}
use Rattle.nfit_reader.specs.declared.table.Nfit.{Nfit}
use Rattle.nfit_reader.specs.Counted.{NamesItsModules}
use Rattle.image_set.specs.declared.fault.LoadFault.{LoadFault}
use Rattle.image_set.specs.Load.{ImageSet, image_set_of, loading}
use Rattle.set_objects.specs.Objects.{object_faults, table_reading}

-- a set whose table can't be read isn't loaded, for the same reason
abbrev pub NoTableNoSet : Type 0
NoTableNoSet = (set : Images) (f : LoadFault) → table_reading set ≡ Err f → loading set ≡ Err f

-- a set whose objects have no fault is loaded
abbrev pub FaultlessLoads : Type 0
FaultlessLoads = (set : Images) (nfit : Nfit) → table_reading set ≡ Ok nfit → NamesItsModules nfit → object_faults set nfit ≡ [] → loading set ≡ Ok (image_set_of set nfit)

-- a set that is loaded has objects without faults
abbrev pub LoadedIsFaultless : Type 0
LoadedIsFaultless = (set : Images) (nfit : Nfit) (loaded : ImageSet) → table_reading set ≡ Ok nfit → loading set ≡ Ok loaded → object_faults set nfit ≡ []

-- the fault for which a set isn't loaded is among those of its objects
abbrev pub FirstIsAmongAll : Type 0
FirstIsAmongAll = (set : Images) (nfit : Nfit) (f : LoadFault) → table_reading set ≡ Ok nfit → NamesItsModules nfit → loading set ≡ Err f → Contains (object_faults set nfit) f
