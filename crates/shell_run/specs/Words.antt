-- The words of a command line: a name, and the words after it.
use Rattle.std.specs.Prelude.{⊤, List, [], ◌∷◌, ℕ, ◌+◌, ◌*◌, ◌<◌, nat_lt, if◌then◌else◌, Option, Some, None, unwrap_or, codes}
use Rattle.std.specs.Option.{option_map, option_and_then}
use Rattle.clap.specs.Words.{Row, first_of}
use Rattle.command_words.specs.Parsed.{parsed, number_in, optional_number_in, uuid_in, flag_in}
use Rattle.shell_run.specs.declared.commands.CommandKind.{CommandKind}
use Rattle.shell_run.specs.declared.commands.CommandKind.TheVariants as kind
use Rattle.shell_run.specs.declared.words.CommandLine.{CommandLine}
use Rattle.shell_run.specs.declared.words.LoadSize.{LoadSize}
use Rattle.shell_run.specs.declared.words.CommandLine.TheVariants.{Labels, Nfit, Init, Change, Info, Check, CheckSet, RepairSet, Read, Write, Replay, Export, Rescue, Import, Serve, Load}
use Rattle.shell_run.specs.declared.words.CommandLine.TheVariants as command
use Rattle.shell_reports.specs.declared.power.Power.{Power}
use Rattle.namespace_ops.specs.Carried.{HasGoodName}
use Rattle.namespace_map.specs.declared.commands.Command.TheVariants.{Create}
use Rattle.session_script.specs.Fields.{value_of}
use Rattle.shell_changes.specs.Words.{create_in, delete_in, rename_in}
use Rattle.shell_serve.specs.declared.load.Load.{Load as Loading}
use Rattle.shell_run.specs.Commands.{kind_with, arguments_of}

-- the greatest number of an option
abbrev pub most : ℕ
most = 18446744073709551615

-- how long power lasts, by the steps that were said, and from which seed the chooser begins
abbrev pub power_of : Option ℕ → Option ℕ → Power
power_of steps seed = record { steps = steps; seed = unwrap_or seed 0 }

abbrev pub power_in : List Row → Option Power
power_in values = option_and_then (λ steps. option_map (power_of steps) (optional_number_in 0 most (codes "evict") values)) (optional_number_in 0 most (codes "cut") values)

-- write UUID SECTOR VALUE
abbrev pub write_in : List Row → Option CommandLine
write_in values =
    option_and_then (λ uuid. option_and_then (λ sector. option_map (λ value. Write uuid sector value) (option_and_then value_of (first_of (codes "value") values)))
    (number_in 0 most (codes "sector") values)) (uuid_in (codes "uuid") values)

-- replay UUID [--evict S]
abbrev pub replay_in : List Row → Option CommandLine
replay_in values = option_and_then (λ uuid. option_map (λ seed. Replay uuid (unwrap_or seed 0)) (optional_number_in 0 most (codes "evict") values)) (uuid_in (codes "uuid") values)

-- how many threads there are at most, 2 if the words don't say
abbrev pub workers_in : List Row → Option ℕ
workers_in values = option_map (λ given. unwrap_or given 2) (optional_number_in 1 64 (codes "workers") values)

-- serve [--workers W] [--evict S]
abbrev pub serve_in : List Row → Option CommandLine
serve_in values =
    option_and_then (λ workers. option_map (λ seed. Serve (record { workers = workers; seed = unwrap_or seed 0 })) (optional_number_in 0 most (codes "evict") values)) (workers_in values)

-- all sessions together have at most 65,536 calls; each opens the namespace and closes it, too
abbrev pub loads : Loading → ℕ → Option CommandLine
loads l workers = if nat_lt 65536 (l.sessions * (l.calls + 2)) then None else Some (Load l workers)

-- 4 sessions with 100 calls each, if the words don't say
abbrev pub share_of : Option ℕ → Option ℕ → LoadSize
share_of sessions calls = record { sessions = unwrap_or sessions 4; calls = unwrap_or calls 100 }

abbrev pub share_in : List Row → Option LoadSize
share_in values = option_and_then (λ sessions. option_map (share_of sessions) (optional_number_in 1 65534 (codes "calls") values)) (optional_number_in 1 1024 (codes "sessions") values)

abbrev pub load_by : ℕ → List ℕ → LoadSize → Loading
load_by number uuid share = record { number = number; uuid = uuid; sessions = share.sessions; calls = share.calls }

-- load NUMBER --uuid U [--sessions S] [--calls C] [--workers W]
abbrev pub load_in : List Row → Option CommandLine
load_in values =
    option_and_then (λ number. option_and_then (λ uuid. option_and_then (λ share. option_and_then (loads (load_by number uuid share)) (workers_in values)) (share_in values)) (uuid_in (codes "uuid") values))
    (number_in 0 most (codes "number") values)

-- the command that the values of its arguments make; modules are numbered 0 to 63
abbrev pub command_in : CommandKind → List Row → Option CommandLine
command_in kind.Labels values = option_map (λ m. Labels m) (number_in 0 63 (codes "module") values)
command_in kind.Nfit values = Some Nfit
command_in kind.List values = Some command.List
command_in kind.Create values = option_and_then (λ spec. option_map (λ power. Change (Create spec) power) (power_in values)) (create_in values)
command_in kind.Delete values = option_and_then (λ c. option_map (λ power. Change c power) (power_in values)) (delete_in values)
command_in kind.Rename values = option_and_then (λ c. option_map (λ power. Change c power) (power_in values)) (rename_in values)
command_in kind.Info values = option_map (λ uuid. Info uuid) (uuid_in (codes "uuid") values)
command_in kind.Check values = option_map (λ uuid. Check uuid (flag_in (codes "repair") values)) (uuid_in (codes "uuid") values)
command_in kind.CheckSet values = Some CheckSet
command_in kind.RepairSet values = Some RepairSet
command_in kind.Read values = option_and_then (λ uuid. option_map (λ sector. Read uuid sector) (number_in 0 most (codes "sector") values)) (uuid_in (codes "uuid") values)
command_in kind.Write values = write_in values
command_in kind.Replay values = replay_in values
command_in kind.Import values = option_map (λ uuid. Import uuid) (uuid_in (codes "uuid") values)
command_in kind.Export values = option_map (λ uuid. Export uuid (flag_in (codes "bad-as-zeros") values)) (uuid_in (codes "uuid") values)
command_in kind.Rescue values = option_map (λ uuid. Rescue uuid (flag_in (codes "lost") values)) (uuid_in (codes "uuid") values)
command_in kind.Serve values = serve_in values
command_in kind.Load values = load_in values
command_in kind.Init values = option_and_then (λ m. option_map (λ power. Init m power) (power_in values)) (number_in 0 63 (codes "module") values)

-- the command of a name with the words after it
abbrev pub command_with : CommandKind → List (List ℕ) → Option CommandLine
command_with kind words = option_and_then (command_in kind) (parsed (arguments_of kind) words)

-- the command that the words say, None if they aren't a command line
abbrev pub command_of : List (List ℕ) → Option CommandLine
command_of [] = None
command_of (name ∷ words) = option_and_then (λ kind. command_with kind words) (kind_with name words)

-- a name that a command gives has no zero byte, and there is a thread and a session for one that runs sessions
abbrev pub HasGoodValues : CommandLine → Type 0
HasGoodValues (Labels m) = ⊤
HasGoodValues Nfit = ⊤
HasGoodValues command.List = ⊤
HasGoodValues (Init m power) = ⊤
HasGoodValues (Change c power) = HasGoodName c
HasGoodValues (Info uuid) = ⊤
HasGoodValues (Check uuid repair) = ⊤
HasGoodValues CheckSet = ⊤
HasGoodValues RepairSet = ⊤
HasGoodValues (Read uuid sector) = ⊤
HasGoodValues (Write uuid sector value) = ⊤
HasGoodValues (Replay uuid seed) = ⊤
HasGoodValues (Export uuid zeros) = ⊤
HasGoodValues (Rescue uuid listing) = ⊤
HasGoodValues (Import uuid) = ⊤
HasGoodValues (Serve running) = 0 < running.workers
HasGoodValues (Load l workers) = (0 < l.sessions) × (0 < workers)
