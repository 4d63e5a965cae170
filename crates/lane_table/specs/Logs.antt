-- A lane's log as the code keeps it: each call with what it did, and no words. A read returned its
-- words, and the arena has those of a write.
use Rattle.std.specs.Prelude.{◌≡◌, List, Vec, map}
use Rattle.arena_open.specs.declared.cell.Cell.{Cell}
use Rattle.arena_open.specs.declared.cell.Cell.TheVariants as cell
use Rattle.arena_open.specs.declared.cell.CellKind.{CellKind}
use Rattle.arena_open.specs.declared.cell.CellKind.TheVariants as cell_kind
use Rattle.lane_core.specs.declared.history.Act.{Act}
use Rattle.lane_core.specs.declared.history.Act.TheVariants as act
use Rattle.lane_core.specs.declared.history.Entry.{Entry}
use Rattle.lane_table.specs.declared.log.LoggedAct.{LoggedAct}
use Rattle.lane_table.specs.declared.log.LoggedAct.TheVariants as logged
use Rattle.lane_table.specs.declared.log.LoggedCall.{LoggedCall}

abbrev pub kind_of : Cell → CellKind
kind_of (cell.Bytes words) = cell_kind.Bytes
kind_of cell.Bad = cell_kind.Bad

abbrev pub act_logged : Act → LoggedAct
act_logged (act.Read found) = logged.Read (kind_of found)
act_logged (act.Write words) = logged.Write

-- an entry of the history, as it stands among its lane's calls
abbrev pub call_logged : Entry → LoggedCall
call_logged e = record { tag = e.tag; sector = e.sector; act = act_logged e.act }

-- a lane's log has the calls of its part of the history, in order
abbrev pub IsLogOf : {Z : Type 0} → Vec LoggedCall Z → List Entry → Type 0
IsLogOf calls history = calls.items ≡ map call_logged history
