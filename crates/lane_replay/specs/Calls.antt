-- A line that begins a call: why it doesn't begin, and what the core holds if it does.
use Rattle.std.specs.Prelude.{◌≡◌, ℕ, ◌*◌, ◌==◌, nat_le, if◌then◌else◌, List, replicate, Option, Some, None}
use Rattle.nvd_words.specs.declared.tag.Tag.{Tag}
use Rattle.cut_words.specs.WordBytes.{words_in}
use Rattle.lane_core.specs.declared.call.Call.{Call}
use Rattle.lane_core.specs.declared.call.Call.TheVariants as call
use Rattle.lane_core.specs.declared.now.LaneNow.{LaneNow}
use Rattle.lane_core.specs.declared.phase.Phase.{Phase}
use Rattle.lane_core.specs.declared.shape.Shape.{Shape}
use Rattle.lane_core.specs.Begins.{is_idle, read_begun, write_begun}
use Rattle.session_script.specs.declared.payload.Payload.{Payload}
use Rattle.session_script.specs.declared.payload.Payload.TheVariants.{Fill, Hex}
use Rattle.lane_replay.specs.declared.refused.Refused.{Refused}
use Rattle.lane_replay.specs.declared.refused.Refused.TheVariants as refused
use Rattle.lane_core.specs.Held.{Held}
use Rattle.lane_replay.specs.Lanes.{lane_changed, phase_at}
use Rattle.lane_replay.specs.Steps.{Played}
use Rattle.lane_replay.specs.Texts.{refused_line}

-- ---- refusals

-- the bytes of a sector
abbrev pub sector_bytes : Shape → ℕ
sector_bytes x = 8 * x.width

-- the bytes of a value if a sector has this many: a single byte is repeated to fill it
abbrev pub bytes_said : ℕ → Payload → List ℕ
bytes_said had (Fill byte) = replicate had byte
bytes_said had (Hex bytes) = bytes

-- no such lane, or no such sector
abbrev pub unplaced : Shape → ℕ → ℕ → Option Refused
unplaced x lane sector =
    if nat_le x.lanes lane then Some (refused.Lane x.lanes)
    else if nat_le x.sectors sector then Some (refused.Range x.sectors)
    else None

-- a value of another length than a sector
abbrev pub misfit : ℕ → ℕ → Option Refused
misfit said had = if said == had then None else Some (refused.Length said had)

-- a lane in a call
abbrev pub busy : Phase → Option Refused
busy phase = if is_idle phase then None else Some (refused.LaneBusy phase)

-- the first that applies
abbrev pub or_else : Option Refused → Option Refused → Option Refused
or_else None other = other
or_else (Some why) other = Some why

abbrev pub read_refusal : Held → ℕ → ℕ → Option Refused
read_refusal held lane sector = or_else (unplaced held.shape lane sector) (busy (phase_at held lane))

abbrev pub write_refusal : Held → ℕ → ℕ → ℕ → Option Refused
write_refusal held lane sector said =
    or_else (unplaced held.shape lane sector) (or_else (misfit said (sector_bytes held.shape)) (busy (phase_at held lane)))

-- ---- the call

-- the lane is the session, and the number of the line the call
abbrev pub line_tag : ℕ → ℕ → Tag
line_tag lane number = record { session = lane; call = number }

-- a lane in which a call began
abbrev pub called : Shape → Tag → Call → LaneNow → LaneNow
called x tag (call.Read sector) p = read_begun p tag sector (replicate x.width 0) (replicate x.width 0)
called x tag (call.Write sector words) p = write_begun x p tag sector words.items

abbrev pub read_called : Shape → Tag → ℕ → LaneNow → LaneNow
read_called x tag sector p = read_begun p tag sector (replicate x.width 0) (replicate x.width 0)

abbrev pub write_called : Shape → Tag → ℕ → Payload → LaneNow → LaneNow
write_called x tag sector value p = write_begun x p tag sector (words_in (bytes_said (sector_bytes x) value))

abbrev pub held_unless : Held → ℕ → (LaneNow → LaneNow) → Option Refused → Held
held_unless held lane change None = lane_changed held lane change
held_unless held lane change (Some why) = held

-- a call begins unless it is refused, and the refusal is printed
abbrev pub begun_unless : Held → ℕ → (LaneNow → LaneNow) → Option Refused → Played
begun_unless held lane change why = record { held = held_unless held lane change why; text = refused_line lane why }

-- why a call didn't begin, and what the core holds then
pub record Begins (old : Held) (lane : ℕ) (change : LaneNow → LaneNow) (due why : Option Refused) (new : Held) : Type 0 where
  pub same : why ≡ due
  pub held : new ≡ held_unless old lane change due
