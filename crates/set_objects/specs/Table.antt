-- Reading the firmware's table of an image set.
use Rattle.std.specs.Prelude.{◌≡◌, ◌^◌, ◌<◌, length, Ok}
use Rattle.nvd_media.specs.declared.object.Object.TheVariants as object
use Rattle.nvd_media.specs.Images.{Images, bytes_of}
use Rattle.nfit_reader.specs.Table.{nfit_reading}
use Rattle.nfit_reader.specs.Counted.{AreCounted, NamesItsModules}
use Rattle.image_set.specs.declared.fault.LoadFault.{LoadFault}
use Rattle.image_set.specs.declared.fault.LoadFault.TheVariants as fault
use Rattle.set_objects.specs.declared.fault.ReadStop.{ReadStop}
use Rattle.set_objects.specs.declared.fault.ReadStop.TheVariants as stop
use Rattle.set_objects.specs.declared.table.Table.{Table}
use Rattle.set_objects.specs.Objects.{table_reading}

-- why reading stopped, as a fault
abbrev pub fault_of : ReadStop → LoadFault
fault_of stop.ReadFault = fault.ReadFault
fault_of stop.OutOfMemory = fault.OutOfMemory

-- the table is the decoding of its bytes
pub record IsTable (table : Table) : Type 0 where
  pub reading : nfit_reading table.bytes ≡ Ok table.nfit
  pub counted : AreCounted table.nfit
  pub few : length table.nfit.regions < 2 ^ 32
  pub modules : NamesItsModules table.nfit

-- it is the set's
pub record IsTableOf (table : Table) (set : Images) : Type 0 where
  pub reading : table_reading set ≡ Ok table.nfit
  pub bytes : table.bytes ≡ bytes_of set object.Nfit
