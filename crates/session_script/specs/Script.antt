-- Scripts of sessions as they are read: this project's grammar.
use Rattle.std.specs.Prelude.{ℕ, ◌+◌, ◌==◌, nat_lt, Bool, true, false, if◌then◌else◌, List, [], ◌∷◌, ◌++◌, length, Option, Some, None, is_some, option_map, option_to_list, Result, Ok, Err, codes}
use Rattle.std.specs.Str.{bytes_eq}
use Rattle.session_script.specs.declared.fault.LineFault.{LineFault}
use Rattle.session_script.specs.declared.fault.LineFault.TheVariants as line
use Rattle.session_script.specs.declared.fault.LineKind.TheVariants as kind
use Rattle.session_script.specs.declared.fault.ScriptFault.{ScriptFault}
use Rattle.session_script.specs.declared.fault.ScriptFault.TheVariants as fault
use Rattle.session_script.specs.declared.fault.ScriptLimit.TheVariants as limit
use Rattle.session_script.specs.declared.script.Line.{Line}
use Rattle.session_script.specs.declared.script.Line.TheVariants.{Read, Write, Order}
use Rattle.session_script.specs.declared.script.Order.TheVariants.{Open, Close, Create, Delete, Rename}
use Rattle.session_script.specs.declared.script.Script.{Script}
use Rattle.session_script.specs.declared.script.SessionLines.{SessionLines}
use Rattle.session_script.specs.declared.sessions.ReadScript.{ReadScript}
use Rattle.session_script.specs.declared.verbs.Said.{Said}
use Rattle.session_script.specs.declared.verbs.Said.TheVariants as said
use Rattle.session_script.specs.declared.verbs.Verb.{Verb}
use Rattle.session_script.specs.declared.verbs.Verb.TheVariants as verb
use Rattle.session_script.specs.Lines.{before, after, lines_in, lines_read}
use Rattle.session_script.specs.Fields.{Rest, at_end, is_printable, name_field, on_field, u32_field, u64_field, uuid_field, value_field}
use Rattle.session_script.specs.Schedule.{numbered}

-- ---- one line

-- the first word
unfoldable pub verb_of : List ℕ → Option Verb
verb_of word =
    if bytes_eq word (codes "labelcut") then Some verb.Labelcut
    else if bytes_eq word (codes "session") then Some verb.Session
    else if bytes_eq word (codes "cut") then Some verb.Cut
    else if bytes_eq word (codes "open") then Some verb.Open
    else if bytes_eq word (codes "close") then Some verb.Close
    else if bytes_eq word (codes "read") then Some verb.Read
    else if bytes_eq word (codes "write") then Some verb.Write
    else if bytes_eq word (codes "create") then Some verb.Create
    else if bytes_eq word (codes "delete") then Some verb.Delete
    else if bytes_eq word (codes "rename") then Some verb.Rename
    else None

-- where a line with this first word may stand: labelcut first, cut after the line of a session, calls in a session
abbrev pub may_stand : ReadScript → Verb → Bool
may_stand read verb.Labelcut = read.first
may_stand read verb.Session = true
may_stand read verb.Cut = read.fresh
may_stand read call = is_some read.last

abbrev pub labelcut_line : Rest → Result Said LineFault
labelcut_line rest = on_field (u64_field rest) (λ steps rest. at_end rest (said.Labelcut steps))

-- a session's number is the next
abbrev pub session_line : ℕ → Rest → Result Said LineFault
session_line count rest = on_field (u32_field rest) (λ number rest. if number == count then at_end rest said.Session else Err (line.Kind kind.Order))

abbrev pub cut_line : Rest → Result Said LineFault
cut_line rest = on_field (u64_field rest) (λ steps rest. at_end rest (said.Cut steps))

abbrev pub open_line : Rest → Result Said LineFault
open_line rest = on_field (uuid_field rest) (λ uuid rest. at_end rest (said.Call (Order (Open uuid))))

abbrev pub close_line : Rest → Result Said LineFault
close_line rest = at_end rest (said.Call (Order Close))

abbrev pub read_call : Rest → Result Said LineFault
read_call rest = on_field (u64_field rest) (λ sector rest. at_end rest (said.Call (Read sector)))

abbrev pub write_call : Rest → Result Said LineFault
write_call rest = on_field (u64_field rest) (λ sector rest. on_field (value_field rest) (λ value rest. at_end rest (said.Call (Write sector value))))

abbrev pub create_line : Rest → Result Said LineFault
create_line rest =
    on_field (uuid_field rest) (λ uuid rest.
    on_field (u32_field rest) (λ region rest.
    on_field (u64_field rest) (λ size rest.
    on_field (name_field rest) (λ name rest. at_end rest (said.Call (Order (Create uuid region size name)))))))

abbrev pub delete_line : Rest → Result Said LineFault
delete_line rest = on_field (uuid_field rest) (λ uuid rest. at_end rest (said.Call (Order (Delete uuid))))

abbrev pub rename_line : Rest → Result Said LineFault
rename_line rest = on_field (uuid_field rest) (λ uuid rest. on_field (name_field rest) (λ name rest. at_end rest (said.Call (Order (Rename uuid name)))))

-- the fields after a first word; so many sessions came before
abbrev pub said_by : ℕ → Verb → Rest → Result Said LineFault
said_by count verb.Labelcut rest = labelcut_line rest
said_by count verb.Session rest = session_line count rest
said_by count verb.Cut rest = cut_line rest
said_by count verb.Open rest = open_line rest
said_by count verb.Close rest = close_line rest
said_by count verb.Read rest = read_call rest
said_by count verb.Write rest = write_call rest
said_by count verb.Create rest = create_line rest
said_by count verb.Delete rest = delete_line rest
said_by count verb.Rename rest = rename_line rest

-- ---- a script so far

abbrev pub nothing_said : ReadScript
nothing_said = record { first = true; fresh = false; labelcut = None; done = []; last = None; calls = 0 }

-- with the session that was read last
abbrev pub sessions_of : ReadScript → List SessionLines
sessions_of read = read.done ++ option_to_list read.last

-- an unknown first word comes before a wrong place, and that before the fields
abbrev pub on_verb : ReadScript → Option Verb → Rest → Result Said LineFault
on_verb read None rest = Err (line.Kind kind.Word)
on_verb read (Some v) rest = if may_stand read v then said_by (length (sessions_of read)) v rest else Err (line.Kind kind.Order)

abbrev pub said_reading : ReadScript → List ℕ → Result Said LineFault
said_reading read text = if is_printable text then on_verb read (verb_of (before 32 text)) (after 32 text) else Err (line.Kind kind.Encoding)

abbrev pub with_cut : ℕ → SessionLines → SessionLines
with_cut steps session = record { cut = Some steps; calls = session.calls }

abbrev pub with_call : Line → SessionLines → SessionLines
with_call call session = record { cut = session.cut; calls = session.calls ++ call ∷ [] }

-- with what a line says
abbrev pub and_said : ReadScript → Said → ReadScript
and_said read (said.Labelcut steps) = record { first = false; fresh = false; labelcut = Some steps; done = read.done; last = read.last; calls = read.calls }
and_said read said.Session = record { first = false; fresh = true; labelcut = read.labelcut; done = sessions_of read; last = Some (record { cut = None; calls = [] }); calls = read.calls }
and_said read (said.Cut steps) = record { first = false; fresh = false; labelcut = read.labelcut; done = read.done; last = option_map (with_cut steps) read.last; calls = read.calls }
and_said read (said.Call call) = record { first = false; fresh = false; labelcut = read.labelcut; done = read.done; last = option_map (with_call call) read.last; calls = read.calls + 1 }

-- the limits, after the line's own faults
abbrev pub within_limits : ReadScript → Result ReadScript ScriptFault
within_limits read =
    if nat_lt 1024 (length (sessions_of read)) then Err (fault.TooMany limit.Sessions)
    else if nat_lt 65536 read.calls then Err (fault.TooMany limit.Calls)
    else Ok read

abbrev pub with_said : ReadScript → ℕ → Result Said LineFault → Result ReadScript ScriptFault
with_said read number (Err what) = Err (numbered number what)
with_said read number (Ok s) = within_limits (and_said read s)

-- a line of more than 32,768 bytes isn't looked at
abbrev pub with_line : ReadScript → ℕ → List ℕ → Result ReadScript ScriptFault
with_line read number text =
    if nat_lt 32768 (length text) then Err (fault.TooMany limit.Bytes) else with_said read number (said_reading read text)

abbrev pub script_of : Result ReadScript ScriptFault → Result Script ScriptFault
script_of (Ok read) = Ok (record { labelcut = read.labelcut; sessions = sessions_of read })
script_of (Err what) = Err what

-- the script in a text, or why the first line that isn't read isn't
abbrev pub script_reading : List ℕ → Result Script ScriptFault
script_reading text = script_of (lines_read with_line 1 (lines_in text) (Ok nothing_said))
