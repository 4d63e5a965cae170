-- Scripts that are made from a number: this project's rule.
use Rattle.std.specs.Prelude.{ℕ, zero, suc, ◌+◌, ◌*◌, ◌/◌, ◌%◌, ◌^◌, ◌==◌, if◌then◌else◌, List, [], ◌∷◌, ◌++◌, None}
use Rattle.nvd_media.specs.Choosers.{next_of}
use Rattle.session_script.specs.declared.payload.Payload.TheVariants.{Fill}
use Rattle.session_script.specs.declared.script.Line.{Line}
use Rattle.session_script.specs.declared.script.Line.TheVariants.{Read, Write, Order}
use Rattle.session_script.specs.declared.script.Order.TheVariants.{Open, Close}
use Rattle.session_script.specs.declared.script.Script.{Script}
use Rattle.session_script.specs.declared.script.SessionLines.{SessionLines}

-- the call that a number makes of session q: each session has sectors of its own
abbrev pub load_line : ℕ → ℕ → ℕ → ℕ → Line
load_line share sessions q x =
    let sector = x / 2 ^ 33 % share * sessions + q in
    if x / 2 ^ 32 % 2 == 0 then Write sector (Fill (x / 2 ^ 56)) else Read sector

-- so many calls, by the numbers after x
abbrev pub load_lines : ℕ → ℕ → ℕ → ℕ → ℕ → List Line
load_lines zero share sessions q x = []
load_lines (suc n) share sessions q x = load_line share sessions q (next_of x) ∷ load_lines n share sessions q (next_of x)

-- the number after so many more
abbrev pub number_after : ℕ → ℕ → ℕ
number_after zero x = x
number_after (suc n) x = number_after n (next_of x)

-- session q opens the namespace, makes its calls and closes it
abbrev pub load_session : List ℕ → ℕ → ℕ → ℕ → ℕ → ℕ → SessionLines
load_session uuid calls share sessions q x = record { cut = None; calls = Order (Open uuid) ∷ (load_lines calls share sessions q x ++ Order Close ∷ []) }

-- so many sessions, from session q on
abbrev pub load_sessions : ℕ → List ℕ → ℕ → ℕ → ℕ → ℕ → ℕ → List SessionLines
load_sessions zero uuid calls share sessions q x = []
load_sessions (suc n) uuid calls share sessions q x = load_session uuid calls share sessions q x ∷ load_sessions n uuid calls share sessions (q + 1) (number_after calls x)

-- the script of a load on so many sectors
abbrev pub load_script : ℕ → List ℕ → ℕ → ℕ → ℕ → Script
load_script number uuid sectors sessions calls = record { labelcut = None; sessions = load_sessions sessions uuid calls (sectors / sessions) sessions 0 number }
