-- The names in a script are UTF-8.
use Rattle.std.specs.Prelude.{◌≡◌, ⊤, true, All}
use Rattle.std.specs.Str.{is_utf8}
use Rattle.session_script.specs.declared.script.Line.{Line}
use Rattle.session_script.specs.declared.script.Line.TheVariants as line
use Rattle.session_script.specs.declared.script.Order.{Order}
use Rattle.session_script.specs.declared.script.Order.TheVariants as order
use Rattle.session_script.specs.declared.script.Script.{Script}
use Rattle.session_script.specs.declared.script.SessionLines.{SessionLines}

-- the name that an order gives, if it gives one, is UTF-8
abbrev pub HasText : Order → Type 0
HasText (order.Open uuid) = ⊤
HasText order.Close = ⊤
HasText (order.Create uuid region size name) = is_utf8 name ≡ true
HasText (order.Delete uuid) = ⊤
HasText (order.Rename uuid name) = is_utf8 name ≡ true

-- the same of a call
abbrev pub LineHasText : Line → Type 0
LineHasText (line.Read sector) = ⊤
LineHasText (line.Write sector value) = ⊤
LineHasText (line.Order o) = HasText o

-- the same of all calls of a session
abbrev pub SessionHasText : SessionLines → Type 0
SessionHasText session = All LineHasText session.calls

-- the names of all calls of a script are UTF-8
abbrev pub ScriptHasText : Script → Type 0
ScriptHasText script = All SessionHasText script.sessions
