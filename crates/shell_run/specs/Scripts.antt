-- The script of a command: the text that is left of a source. It is read to its end before the image set is loaded. This project's rules.
use Rattle.std.specs.Prelude.{ℕ, nat_lt, if◌then◌else◌, List, [], ◌∷◌, length, None, Result, Ok, Err, codes}
use Rattle.std.specs.Fmt.{decimal}
use Rattle.session_script.specs.declared.fault.LineKind.{LineKind}
use Rattle.session_script.specs.declared.fault.LineKind.TheVariants as kind
use Rattle.session_script.specs.declared.fault.ScriptFault.{ScriptFault}
use Rattle.session_script.specs.declared.fault.ScriptFault.TheVariants as fault
use Rattle.session_script.specs.declared.fault.ScriptLimit.{ScriptLimit}
use Rattle.session_script.specs.declared.fault.ScriptLimit.TheVariants as limit
use Rattle.shell_reports.specs.declared.status.Ending.TheVariants as ending
use Rattle.shell_reports.specs.Outcome.{Outcome, joined, lf, no_text}
use Rattle.shell_run.specs.declared.scripts.ScriptRefused.{ScriptRefused}
use Rattle.shell_run.specs.declared.scripts.ScriptRefused.TheVariants as refused

-- ---- reading

-- the greatest number of bytes of a script of lines
abbrev pub most_bytes : ℕ
most_bytes = 16777216

-- the greatest number of bytes of import's FILE, which is read into memory
abbrev pub most_file_bytes : ℕ
most_file_bytes = 536870912

abbrev pub or_refused : {A : Type 0} → Result A ScriptFault → Result A ScriptRefused
or_refused (Ok script) = Ok script
or_refused (Err fault) = Err (refused.Fault fault)

-- the script in a text, by the grammar of its kind, or why it isn't taken
abbrev pub script_in : {A : Type 0} → (List ℕ → Result A ScriptFault) → List ℕ → Result A ScriptRefused
script_in reading text = if nat_lt most_bytes (length text) then Err (refused.TooLong most_bytes) else or_refused (reading text)

-- the bytes for a namespace, which may be any
abbrev pub bytes_in : List ℕ → Result (List ℕ) ScriptRefused
bytes_in text = if nat_lt most_file_bytes (length text) then Err (refused.TooLong most_file_bytes) else Ok text

-- ---- the texts of refusals

abbrev pub kind_text : LineKind → List ℕ
kind_text kind.Encoding = codes "Encoding"
kind_text kind.Word = codes "Word"
kind_text kind.Number = codes "Number"
kind_text kind.Uuid = codes "Uuid"
kind_text kind.Value = codes "Value"
kind_text kind.Name = codes "Name"
kind_text kind.Order = codes "Order"

abbrev pub limit_text : ScriptLimit → List ℕ
limit_text limit.Sessions = codes "Sessions"
limit_text limit.Calls = codes "Calls"
limit_text limit.Bytes = codes "Bytes"

abbrev pub refused_text : ScriptRefused → List ℕ
refused_text (refused.TooLong most) = joined (codes "script TooLong " ∷ decimal most ∷ lf ∷ [])
refused_text (refused.Fault (fault.Line number kind)) = joined (codes "script Line " ∷ decimal number ∷ codes " " ∷ kind_text kind ∷ lf ∷ [])
refused_text (refused.Fault (fault.TooMany what)) = joined (codes "script TooMany " ∷ limit_text what ∷ lf ∷ [])
refused_text (refused.Fault fault.OutOfMemory) = no_text

-- the outcome for a script that isn't taken
abbrev pub script_outcome : ScriptRefused → Outcome
script_outcome why = record { ending = ending.Usage; text = refused_text why; saved = None }
