-- Values for worked rows.
use Rattle.std.proofs.Common.{ℕ, List, [], ◌∷◌, Option, replicate, Ok}
use Rattle.std.specs.Prelude.{◌==◌, ◌&&◌, ◌*◌, if◌then◌else◌}
use Rattle.arena_open.specs.declared.cell.Cell.{Cell}
use Rattle.arena_open.specs.declared.cell.Cell.TheVariants as cell
use Rattle.namespace_map.specs.declared.commands.Command.TheVariants as command
use Rattle.namespace_ops.specs.Entries.{JournalEntry}
use Rattle.lane_core.specs.declared.history.Act.TheVariants as act
use Rattle.lane_core.specs.declared.history.Entry.{Entry as HistoryEntry}
use Rattle.session_script.specs.declared.script.Line.{Line}
use Rattle.session_script.specs.declared.script.Line.TheVariants as line
use Rattle.session_script.specs.declared.script.Order.TheVariants as order
use Rattle.session_script.specs.declared.payload.Payload.TheVariants as payload
use Rattle.session_script.specs.declared.script.Script.{Script}
use Rattle.session_script.specs.declared.script.SessionLines.{SessionLines}
use Rattle.session_account.specs.Serving.{Serving}
use Rattle.lane_core.specs.History.{Cells}
use Rattle.session_account.specs.Orders.{entry}
use Rattle.session_account.specs.Account.{Histories}

abbrev pub u : List ℕ
u = replicate 16 0x11

-- one arena of 64,716 sectors of 512 bytes
abbrev pub served : ℕ → List Serving
served lanes = record { uuid = u; arenas = record { sectors = 64716; bytes = 512; lanes = lanes } ∷ [] } ∷ []

abbrev pub zeros : Cell
zeros = cell.Bytes (replicate 64 0)

abbrev pub fresh : Cells
fresh sector = zeros

-- sixty-four words of eight equal bytes
abbrev pub filled : ℕ → List ℕ
filled byte = replicate 64 (byte * 0x0101010101010101)

abbrev pub open_u : Line
open_u = line.Order (order.Open u)

abbrev pub close : Line
close = line.Order order.Close

abbrev pub write : ℕ → ℕ → Line
write sector byte = line.Write sector (payload.Fill byte)

abbrev pub claim : ℕ → ℕ → JournalEntry
claim q call = entry q call (command.Claim u) (Ok tt)

abbrev pub unclaim : ℕ → ℕ → JournalEntry
unclaim q call = entry q call (command.Unclaim u) (Ok tt)

abbrev pub wrote : ℕ → ℕ → ℕ → ℕ → HistoryEntry
wrote q call sector byte = record { lane = 0; tag = record { session = q; call = call }; sector = sector; act = act.Write (filled byte) }

abbrev pub saw : ℕ → ℕ → ℕ → Cell → HistoryEntry
saw q call sector seen = record { lane = 0; tag = record { session = q; call = call }; sector = sector; act = act.Read seen }

-- the history of the first arena of the first namespace; there is no other
abbrev pub only : List HistoryEntry → Histories
only history place k = if (place == 0) && (k == 0) then history else []

abbrev pub session : Option ℕ → List Line → SessionLines
session cut calls = record { cut = cut; calls = calls }

abbrev pub script : Option ℕ → List SessionLines → Script
script labelcut sessions = record { labelcut = labelcut; sessions = sessions }
