-- An arena's sectors after a crash, by the calls that were cut.
use Rattle.std.specs.Prelude.{◌≡◌, ◌⊎◌, ℕ, ◌<◌, List, Any}
use Rattle.arena_open.specs.declared.cell.Cell.{Cell}
use Rattle.lane_core.specs.declared.history.Act.{Act}
use Rattle.lane_core.specs.declared.history.Entry.{Entry}
use Rattle.lane_core.specs.History.{Cells, end_of}
use Rattle.lane_core.specs.Sessions.{MayLeave}

-- a call on a sector that was cut, and what it would have done
pub record Flight : Type 0 where
  pub sector : ℕ
  pub act : Act

abbrev pub IsLeftBy : ℕ → Cell → Flight → Type 0
IsLeftBy sector left flight = (flight.sector ≡ sector) × MayLeave flight.act left

-- a cell that a sector may have then: the one at the history's end, or what one call in flight may leave
abbrev pub MayRemain : Cells → List Entry → List Flight → ℕ → Cell → Type 0
MayRemain first history flights sector left = (left ≡ end_of first history sector) ⊎ Any (IsLeftBy sector left) flights

-- each of so many sectors has such a cell
abbrev pub Survives : Cells → List Entry → List Flight → ℕ → Cells → Type 0
Survives first history flights count left = (sector : ℕ) → sector < count → MayRemain first history flights sector (left sector)
