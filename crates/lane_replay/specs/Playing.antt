-- A schedule, line by line.
use Rattle.std.specs.Prelude.{ℕ, zero, suc, ◌+◌, nat_lt, if◌then◌else◌, List, [], ◌∷◌, ◌++◌, length, Some, false}
use Rattle.lane_core.specs.Begins.{is_idle}
use Rattle.session_script.specs.declared.payload.Payload.{Payload}
use Rattle.session_script.specs.declared.schedule.ReplayLine.{ReplayLine}
use Rattle.session_script.specs.declared.schedule.ReplayLine.TheVariants.{Read, Write, Step}
use Rattle.lane_replay.specs.declared.refused.Refused.TheVariants as refused
use Rattle.lane_core.specs.Held.{Held}
use Rattle.lane_replay.specs.Lanes.{phase_at}
use Rattle.lane_replay.specs.Texts.{cut_text, lane_line, refused_line}
use Rattle.lane_replay.specs.Steps.{Played, and_text, steps}
use Rattle.lane_replay.specs.Calls.{begun_unless, bytes_said, line_tag, read_called, read_refusal, sector_bytes, write_called, write_refusal}

-- ---- one line, with its number

abbrev pub read_played : Held → ℕ → ℕ → ℕ → Played
read_played held number lane sector =
    begun_unless held lane (read_called held.shape (line_tag lane number) sector) (read_refusal held lane sector)

abbrev pub write_played : Held → ℕ → ℕ → ℕ → Payload → Played
write_played held number lane sector value =
    begun_unless held lane (write_called held.shape (line_tag lane number) sector value) (write_refusal held lane sector (length (bytes_said (sector_bytes held.shape) value)))

-- steps of a lane that isn't there are refused, also if they are none
abbrev pub steps_played : Held → ℕ → ℕ → Played
steps_played held lane count =
    if nat_lt lane held.shape.lanes then steps count lane false held
    else record { held = held; text = refused_line lane (Some (refused.Lane held.shape.lanes)) }

abbrev pub played : Held → ℕ → ReplayLine → Played
played held number (Read lane sector) = read_played held number lane sector
played held number (Write lane sector value) = write_played held number lane sector value
played held number (Step lane count) = steps_played held lane count

-- ---- all lines

-- the first of these lines has the number
unfoldable pub played_all : ℕ → Held → List ReplayLine → Played
played_all number held [] = record { held = held; text = [] }
played_all number held (line ∷ lines) = and_text (played held number line).text (played_all (number + 1) (played held number line).held lines)

-- a schedule: its lines are counted from 1
abbrev pub replayed : Held → List ReplayLine → Played
replayed held lines = played_all 1 held lines

-- a lane that is in a call at the end
abbrev pub cut_line : Held → ℕ → List ℕ
cut_line held lane = if is_idle (phase_at held lane) then [] else lane_line lane cut_text

-- of the first lanes, this many, in rising order
unfoldable pub cut_lines : ℕ → Held → List ℕ
cut_lines zero held = []
cut_lines (suc n) held = cut_lines n held ++ cut_line held n

abbrev pub all_cuts : Held → List ℕ
all_cuts held = cut_lines held.shape.lanes held

-- what a schedule prints
abbrev pub replay_text : Held → List ReplayLine → List ℕ
replay_text held lines = (replayed held lines).text ++ all_cuts (replayed held lines).held
