-- The namespaces that a script opens: this project's rules.
use Rattle.std.specs.Prelude.{ℕ, List, filter_map, flat_map, Option, Some, None}
use Rattle.served_namespaces.specs.Opening.{firsts}
use Rattle.session_script.specs.declared.script.Line.{Line}
use Rattle.session_script.specs.declared.script.Line.TheVariants.{Order}
use Rattle.session_script.specs.declared.script.Order.TheVariants.{Open}
use Rattle.session_script.specs.declared.script.Script.{Script}

-- the namespace that a call opens
abbrev pub opens : Line → Option (List ℕ)
opens (Order (Open uuid)) = Some uuid
opens other = None

-- all calls that open a namespace, session by session
abbrev pub open_lines : Script → List (List ℕ)
open_lines script = flat_map (λ session. filter_map opens session.calls) script.sessions

-- the namespaces that they open, in order of the first such call
abbrev pub opened_by : Script → List (List ℕ)
opened_by script = firsts (open_lines script)
