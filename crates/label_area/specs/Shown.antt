-- The contents of an area: its current block and its labels.
use Rattle.std.specs.Prelude.{ℕ, List, Result, Ok, Err}
use Rattle.label_index.specs.declared.index.IndexBlock.{IndexBlock}
use Rattle.label_area.specs.declared.fault.AreaFault.{AreaFault}
use Rattle.label_area.specs.declared.read.Shown.{Shown}
use Rattle.label_area.specs.Area.{slots_by, labels_in}

-- the contents of an area by its current block, or why there is none
abbrev pub shown_by : List ℕ → Result IndexBlock AreaFault → Result Shown AreaFault
shown_by area (Ok block) = Ok (record { block = block; labels = labels_in (slots_by area block) })
shown_by area (Err fault) = Err fault
