-- How a call begins.
use Rattle.std.specs.Prelude.{◌≡◌, ◌⊎◌, ℕ, ◌<◌, ◌≤◌, Bool, true, false, List, length, replicate, slice_get, slice_set, Some, Result, Ok, Err}
use Rattle.nvd_words.specs.declared.tag.Tag.{Tag}
use Rattle.lane_core.specs.declared.call.Call.{Call}
use Rattle.lane_core.specs.declared.call.Call.TheVariants as call
use Rattle.lane_core.specs.declared.call.Begun.{Begun}
use Rattle.lane_core.specs.declared.call.Begun.TheVariants as begun
use Rattle.lane_core.specs.declared.phase.Phase.{Phase}
use Rattle.lane_core.specs.declared.machine.Core.{Core}
use Rattle.lane_core.specs.declared.now.LaneNow.{LaneNow}
use Rattle.lane_core.specs.declared.phase.Phase.TheVariants.{Idle, Called}
use Rattle.lane_core.specs.declared.shape.Shape.{Shape}
use Rattle.lane_core.specs.Machine.{State, first_phase, begin_read, begin_write}
use Rattle.lane_core.specs.Places.{geometry}
use Rattle.lane_core.specs.Machines.{CoreShows}

abbrev pub read_begun : LaneNow → Tag → ℕ → List ℕ → List ℕ → LaneNow
read_begun p tag sector words cell = record p { phase = Called; tag = tag; sector = sector; words = words; cell = cell }

abbrev pub write_begun : Shape → LaneNow → Tag → ℕ → List ℕ → LaneNow
write_begun x p tag sector words = record p { phase = first_phase (geometry x); words = words; next = tag; next_sector = sector }

-- the lane is there and in no call
abbrev pub IsIdleLane : Core → ℕ → Type 0
IsIdleLane core lane = (p : LaneNow) × (slice_get core.lanes.items lane ≡ Some p) × (p.phase ≡ Idle)

-- only the lanes and the room for entries change
pub record KeepsRest (old new : Core) : Type 0 where
  pub shape : new.shape ≡ old.shape
  pub info : new.info ≡ old.info
  pub row : new.row ≡ old.row
  pub entries : new.history.entries ≡ old.history.entries

-- there is room for an entry of each lane, and nothing else changes
pub record HasRoom (old new : Core) : Type 0 where
  pub rest : KeepsRest old new
  pub lanes : new.lanes.items ≡ old.lanes.items
  pub room : length new.lanes.items ≤ new.history.room
  pub more : old.history.room ≤ new.history.room

-- a lane is what a call makes of it, and the core shows what the line makes of each state that it
-- showed
pub record Starts (old new : Core) (lane : ℕ) (begun : LaneNow → LaneNow) (after : State → State) : Type 0 where
  pub rest : KeepsRest old new
  pub lanes : (p : LaneNow) → slice_get old.lanes.items lane ≡ Some p → new.lanes.items ≡ slice_set old.lanes.items lane (begun p)
  pub line : (s : State) → CoreShows old s → CoreShows new (after s)

-- a lane is in a read, with this room for its words and for the cell of its entry
abbrev pub ReadStarts : Core → Core → ℕ → Tag → ℕ → List ℕ → List ℕ → Type 0
ReadStarts old new lane tag sector words cell = Starts old new lane (λ p. read_begun p tag sector words cell) (λ s. begin_read (geometry old.shape) s lane tag sector)

-- a lane is in a write of these words
abbrev pub WriteStarts : Core → Core → ℕ → Tag → ℕ → List ℕ → Type 0
WriteStarts old new lane tag sector words = Starts old new lane (λ p. write_begun old.shape p tag sector words) (λ s. begin_write (geometry old.shape) s lane)

-- a lane began a read, with room for as many words as a sector has
abbrev pub ReadBegins : Core → Core → ℕ → Tag → ℕ → Type 0
ReadBegins old new lane tag sector = ReadStarts old new lane tag sector (replicate old.shape.width 0) (replicate old.shape.width 0)

-- the call is on a sector of the arena, and a value has as many words as a sector
abbrev pub FitsCall : Shape → Call → Type 0
FitsCall x (call.Read sector) = sector < x.sectors
FitsCall x (call.Write sector words) = (sector < x.sectors) × (length words.items ≡ x.width)

abbrev pub CallBegins : Core → Core → ℕ → Tag → Call → Type 0
CallBegins old new lane tag (call.Read sector) = ReadBegins old new lane tag sector
CallBegins old new lane tag (call.Write sector words) = WriteStarts old new lane tag sector words.items

abbrev pub is_idle : Phase → Bool
is_idle Idle = true
is_idle other = false

-- a lane is refused as busy if and only if it isn't idle
abbrev pub BusyExactly : Core → ℕ → Result (Unit {0}) Begun → Type 0
BusyExactly core lane result =
    (p : LaneNow) → slice_get core.lanes.items lane ≡ Some p
    → (is_idle p.phase ≡ false → result ≡ Err (begun.LaneBusy p.phase)) × (is_idle p.phase ≡ true → (result ≡ Ok tt) ⊎ (result ≡ Err begun.OutOfMemory))
