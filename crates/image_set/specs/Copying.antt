-- Why a set isn't copied.
use Rattle.image_set.specs.declared.fault.CopyFault.{CopyFault}
use Rattle.image_set.specs.declared.fault.CopyFault.TheVariants as fault
use Rattle.image_set.specs.declared.fault.CopyStop.{CopyStop}
use Rattle.image_set.specs.declared.fault.CopyStop.TheVariants as stop

-- why copying stopped
abbrev pub copy_fault_of : CopyStop → CopyFault
copy_fault_of stop.ReadFault = fault.ReadFault
copy_fault_of stop.WriteFault = fault.WriteFault
