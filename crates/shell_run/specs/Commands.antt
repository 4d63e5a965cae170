-- The table of commands: each has a name, and a list of arguments for the words after it.
use Rattle.std.specs.Prelude.{List, [], ◌∷◌, ℕ, Option, Some, None, ◌&&◌, if◌then◌else◌, codes}
use Rattle.std.specs.Str.{bytes_eq}
use Rattle.command_words.specs.App.{Described}
use Rattle.command_words.specs.declared.argument.Form.TheVariants.{Place, Optional, Required, Flag}
use Rattle.shell_run.specs.declared.commands.CommandKind.{CommandKind}
use Rattle.shell_run.specs.declared.commands.CommandKind.TheVariants as kind

-- the command that a name says
unfoldable pub kind_of : List ℕ → Option CommandKind
kind_of name =
    if bytes_eq name (codes "labels") then Some kind.Labels
    else if bytes_eq name (codes "nfit") then Some kind.Nfit
    else if bytes_eq name (codes "list") then Some kind.List
    else if bytes_eq name (codes "init") then Some kind.Init
    else if bytes_eq name (codes "create") then Some kind.Create
    else if bytes_eq name (codes "delete") then Some kind.Delete
    else if bytes_eq name (codes "rename") then Some kind.Rename
    else if bytes_eq name (codes "info") then Some kind.Info
    else if bytes_eq name (codes "check") then Some kind.Check
    else if bytes_eq name (codes "read") then Some kind.Read
    else if bytes_eq name (codes "write") then Some kind.Write
    else if bytes_eq name (codes "replay") then Some kind.Replay
    else if bytes_eq name (codes "export") then Some kind.Export
    else if bytes_eq name (codes "rescue") then Some kind.Rescue
    else if bytes_eq name (codes "import") then Some kind.Import
    else if bytes_eq name (codes "serve") then Some kind.Serve
    else if bytes_eq name (codes "load") then Some kind.Load
    else None

-- the same with the words after it: `check` alone is the check of the whole set, and `check --repair` its repair
abbrev pub kind_with : List ℕ → List (List ℕ) → Option CommandKind
kind_with name [] = if bytes_eq name (codes "check") then Some kind.CheckSet else kind_of name
kind_with name (word ∷ []) = if bytes_eq name (codes "check") && bytes_eq word (codes "--repair") then Some kind.RepairSet else kind_of name
kind_with name (word ∷ another ∷ words) = kind_of name

-- the options on power cuts
abbrev pub power_arguments : List Described
power_arguments = (codes "cut", Optional) ∷ (codes "evict", Optional) ∷ []

-- the arguments of a command
abbrev pub arguments_of : CommandKind → List Described
arguments_of kind.Labels = (codes "module", Place) ∷ []
arguments_of kind.Nfit = []
arguments_of kind.List = []
arguments_of kind.Init = (codes "module", Place) ∷ power_arguments
arguments_of kind.Create =
    (codes "uuid", Required) ∷ (codes "name", Required) ∷ (codes "region", Required) ∷ (codes "size", Required) ∷ (codes "mode", Required)
    ∷ (codes "sector", Optional) ∷ (codes "lanes", Optional) ∷ power_arguments
arguments_of kind.Delete = (codes "uuid", Place) ∷ power_arguments
arguments_of kind.Rename = (codes "uuid", Place) ∷ (codes "name", Place) ∷ power_arguments
arguments_of kind.Info = (codes "uuid", Place) ∷ []
arguments_of kind.Check = (codes "uuid", Place) ∷ (codes "repair", Flag) ∷ []
arguments_of kind.CheckSet = []
arguments_of kind.RepairSet = (codes "repair", Flag) ∷ []
arguments_of kind.Read = (codes "uuid", Place) ∷ (codes "sector", Place) ∷ []
arguments_of kind.Write = (codes "uuid", Place) ∷ (codes "sector", Place) ∷ (codes "value", Place) ∷ []
arguments_of kind.Replay = (codes "uuid", Place) ∷ (codes "evict", Optional) ∷ []
arguments_of kind.Export = (codes "uuid", Place) ∷ (codes "bad-as-zeros", Flag) ∷ []
arguments_of kind.Rescue = (codes "uuid", Place) ∷ (codes "lost", Flag) ∷ []
arguments_of kind.Import = (codes "uuid", Place) ∷ []
arguments_of kind.Serve = (codes "workers", Optional) ∷ (codes "evict", Optional) ∷ []
arguments_of kind.Load = (codes "number", Place) ∷ (codes "uuid", Required) ∷ (codes "sessions", Optional) ∷ (codes "calls", Optional) ∷ (codes "workers", Optional) ∷ []
