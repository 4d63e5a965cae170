-- Schedules of lanes as they are read: this project's grammar.
use Rattle.std.specs.Prelude.{ℕ, ◌+◌, nat_lt, if◌then◌else◌, List, length, Result, Ok, Err}
use Rattle.session_script.specs.declared.fault.LineFault.{LineFault}
use Rattle.session_script.specs.declared.fault.LineFault.TheVariants as line
use Rattle.session_script.specs.declared.fault.ScriptFault.{ScriptFault}
use Rattle.session_script.specs.declared.fault.ScriptFault.TheVariants as fault
use Rattle.session_script.specs.declared.fault.ScriptLimit.TheVariants as limit
use Rattle.session_script.specs.declared.schedule.Replay.{Replay}
use Rattle.session_script.specs.declared.schedule.ReplayLine.{ReplayLine}
use Rattle.session_script.specs.declared.schedule.ReplayLine.TheVariants.{Read, Write, Step}
use Rattle.session_script.specs.declared.reading.Counted.{Counted}
use Rattle.session_script.specs.Lines.{lines_in, lines_read}
use Rattle.session_script.specs.ScheduleLines.{line_reading, lines_stated}

-- a fault of the line with this number
abbrev pub numbered : ℕ → LineFault → ScriptFault
numbered number (line.Kind what) = fault.Line number what
numbered number line.OutOfMemory = fault.OutOfMemory

-- how many calls a line is
abbrev pub calls_in : ReplayLine → ℕ
calls_in (Read lane sector) = 1
calls_in (Write lane sector value) = 1
calls_in (Step lane count) = 0

abbrev pub none_counted : Counted
none_counted = record { calls = 0 }

-- a line that was read is one too many if it is the 65,537th call
abbrev pub with_reading : Counted → ℕ → Result ReplayLine LineFault → Result Counted ScriptFault
with_reading counted number (Err what) = Err (numbered number what)
with_reading counted number (Ok l) =
    if nat_lt 65536 (counted.calls + calls_in l) then Err (fault.TooMany limit.Calls) else Ok (record { calls = counted.calls + calls_in l })

-- a line of more than 32,768 bytes isn't looked at
abbrev pub with_line : Counted → ℕ → List ℕ → Result Counted ScriptFault
with_line counted number text =
    if nat_lt 32768 (length text) then Err (fault.TooMany limit.Bytes) else with_reading counted number (line_reading text)

abbrev pub replay_of : List ReplayLine → Result Counted ScriptFault → Result Replay ScriptFault
replay_of lines (Ok counted) = Ok (record { lines = lines })
replay_of lines (Err what) = Err what

-- the schedule in a text, or why the first line that isn't read isn't
abbrev pub replay_reading : List ℕ → Result Replay ScriptFault
replay_reading text = replay_of (lines_stated (lines_in text)) (lines_read with_line 1 (lines_in text) (Ok none_counted))
