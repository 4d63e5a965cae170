-- The table of exit statuses: which one is due for a command line and images. Faults of reading and writing and out of memory stand
-- outside it. This project's rules.
use Rattle.std.specs.Prelude.{⊤, ℕ, ◌/◌, Bool, true, false, not, if◌then◌else◌, List, length, Option, Some, None, is_some, Result, Ok, Err, is_err}
use Rattle.nvd_media.specs.Images.{Images}
use Rattle.cut_words.specs.Fuses.{lasts}
use Rattle.label_index.specs.declared.index.IndexBlock.{IndexBlock}
use Rattle.label_area.specs.declared.fault.AreaFault.{AreaFault}
use Rattle.label_area.specs.declared.fault.AreaFault.TheVariants.{NoIndex}
use Rattle.label_area.specs.Area.{block_in}
use Rattle.label_area.specs.Initialise.{init_count}
use Rattle.image_set.specs.declared.fault.LoadFault.{LoadFault}
use Rattle.image_set.specs.Load.{ImageSet, area_of, loading}
use Rattle.shell_reports.specs.declared.status.Ending.{Ending}
use Rattle.shell_reports.specs.declared.status.Ending.TheVariants as ending
use Rattle.shell_reports.specs.declared.status.Status.{Status}
use Rattle.shell_reports.specs.declared.status.Status.TheVariants as status
use Rattle.shell_reports.specs.List.{listed_of}
use Rattle.shell_reports.specs.Causes.{fault_in, is_broken, refuses_info, refuses_read}
use Rattle.shell_changes.specs.Namespaces as changes
use Rattle.shell_changes.specs.Namespaces.{sets_in, refuses}
use Rattle.shell_set_check.specs.Whole.{set_check_outcome}
use Rattle.shell_sectors.specs.Causes.{refuses_write}
use Rattle.shell_export.specs.Causes.{breaks_export, refuses_export}
use Rattle.shell_rescue.specs.Causes.{breaks_rescue, refuses_rescue}
use Rattle.shell_import.specs.Causes.{refuses_import}
use Rattle.shell_replay.specs.Causes.{refuses_replay}
use Rattle.session_script.specs.declared.script.Script.{Script}
use Rattle.session_script.specs.Schedule.{replay_reading}
use Rattle.session_script.specs.Script.{script_reading}
use Rattle.shell_serve.specs.Causes.{breaks_load, breaks_serve, refuses_load, refuses_serve}
use Rattle.shell_run.specs.declared.scripts.ScriptRefused.{ScriptRefused}
use Rattle.shell_run.specs.Scripts.{bytes_in, script_in}
use Rattle.shell_run.specs.declared.words.CommandLine.{CommandLine}
use Rattle.shell_run.specs.declared.words.CommandLine.TheVariants.{Labels, Nfit, Init, Change, Info, Check, CheckSet, RepairSet, Read, Write, Replay, Export, Rescue, Import, Serve, Load}
use Rattle.shell_run.specs.declared.words.CommandLine.TheVariants as command
use Rattle.shell_run.specs.Words.{command_of}

-- ---- a script that isn't taken

abbrev pub refuses_script : CommandLine → List ℕ → Bool
refuses_script (Replay uuid seed) script = is_err (script_in replay_reading script)
refuses_script (Import uuid) script = is_err (bytes_in script)
refuses_script (Serve running) script = is_err (script_in script_reading script)
refuses_script command script = false

-- ---- images that are refused for a command

-- `labels`: there is no label area, or it has no valid index block
abbrev pub refuses_area : Option (List ℕ) → Bool
refuses_area None = true
refuses_area (Some area) = is_err (block_in area)

-- `init`: there is none, or it has an index block, valid or of another version
abbrev pub has_block : Result IndexBlock AreaFault → Bool
has_block (Err NoIndex) = false
has_block found = true

abbrev pub keeps_area : Option (List ℕ) → Bool
keeps_area None = true
keeps_area (Some area) = has_block (block_in area)

-- the set isn't loaded, or what the command asks of it is refused
abbrev pub refuses_images : CommandLine → Result ImageSet LoadFault → Bool
refuses_images command (Err fault) = true
refuses_images (Labels m) (Ok loaded) = refuses_area (area_of loaded m)
refuses_images Nfit (Ok loaded) = false
refuses_images command.List (Ok loaded) = is_err (listed_of loaded)
refuses_images (Init m power) (Ok loaded) = keeps_area (area_of loaded m)
refuses_images (Change c power) (Ok loaded) = is_err (sets_in loaded)
refuses_images (Info uuid) (Ok loaded) = is_broken loaded uuid
refuses_images (Check uuid repair) (Ok loaded) = is_some (fault_in loaded)
refuses_images CheckSet (Ok loaded) = false
refuses_images RepairSet (Ok loaded) = false
refuses_images (Read uuid sector) (Ok loaded) = is_broken loaded uuid
refuses_images (Write uuid sector value) (Ok loaded) = is_broken loaded uuid
refuses_images (Replay uuid seed) (Ok loaded) = is_broken loaded uuid
refuses_images (Export uuid zeros) (Ok loaded) = breaks_export loaded uuid
refuses_images (Rescue uuid listing) (Ok loaded) = breaks_rescue loaded uuid listing
refuses_images (Import uuid) (Ok loaded) = breaks_export loaded uuid
refuses_images (Serve running) (Ok loaded) = is_err (sets_in loaded)
refuses_images (Load l workers) (Ok loaded) = breaks_load l loaded

-- ---- steps and refusals

-- the steps that a label area's first two blocks take are more than power lasts for
abbrev pub is_short : Option ℕ → Option (List ℕ) → Bool
is_short steps None = false
is_short steps (Some area) = not (lasts steps (init_count (length area / 8)))

-- a command takes more steps than power lasts for
abbrev pub is_cut : CommandLine → Result ImageSet LoadFault → Bool
is_cut (Init m power) (Ok loaded) = is_short power.steps (area_of loaded m)
is_cut (Change c power) (Ok loaded) = changes.is_short loaded c power.steps
is_cut command found = false

-- a command is refused by its own rules
abbrev pub is_barred : CommandLine → Result ImageSet LoadFault → Bool
is_barred (Change c power) (Ok loaded) = refuses loaded c
is_barred (Info uuid) (Ok loaded) = refuses_info loaded uuid
is_barred (Check uuid repair) (Ok loaded) = refuses_info loaded uuid
is_barred (Read uuid sector) (Ok loaded) = refuses_read loaded uuid sector
is_barred (Write uuid sector value) (Ok loaded) = refuses_write loaded uuid sector value
is_barred (Replay uuid seed) (Ok loaded) = refuses_replay loaded uuid
is_barred (Export uuid zeros) (Ok loaded) = refuses_export loaded uuid zeros
is_barred (Rescue uuid listing) (Ok loaded) = refuses_rescue loaded uuid
is_barred (Load l workers) (Ok loaded) = refuses_load l loaded
is_barred command found = false

-- ---- the table

-- of images that are refused, power that doesn't last, and a refusal by the command's rules, the first that holds decides
abbrev pub ending_by : Bool → Bool → Bool → Ending
ending_by refused cut barred = if refused then ending.Image else if cut then ending.PowerCut else if barred then ending.Refused else ending.Done

abbrev pub ending_on : CommandLine → Result ImageSet LoadFault → Ending
ending_on command found = ending_by (refuses_images command found) (is_cut command found) (is_barred command found)

-- whether the bytes of `import` aren't taken; the images were loaded
abbrev pub bars_bytes : List ℕ → List ℕ → Result ImageSet LoadFault → Bool
bars_bytes uuid bytes (Ok loaded) = refuses_import loaded uuid (length bytes)
bars_bytes uuid bytes (Err fault) = false

-- the images are refused for sessions; the script was read
abbrev pub breaks_sessions : Result Script ScriptRefused → Result ImageSet LoadFault → Bool
breaks_sessions lines (Err fault) = true
breaks_sessions (Ok script) (Ok loaded) = breaks_serve loaded script
breaks_sessions (Err why) (Ok loaded) = false

-- the arenas that sessions open have too many bytes together
abbrev pub bars_sessions : Result Script ScriptRefused → Result ImageSet LoadFault → Bool
bars_sessions (Ok script) (Ok loaded) = refuses_serve loaded script
bars_sessions lines found = false

-- a refusal of `import` is by its script, too, and so are the arenas that `serve` opens
abbrev pub ending_scripted : CommandLine → List ℕ → Result ImageSet LoadFault → Ending
ending_scripted (Import uuid) script found = ending_by (refuses_images (Import uuid) found) false (bars_bytes uuid script found)
ending_scripted (Serve running) script found = ending_by (breaks_sessions (script_in script_reading script) found) false (bars_sessions (script_in script_reading script) found)
ending_scripted command script found = ending_on command found

abbrev pub ending_with : Option CommandLine → List ℕ → Result ImageSet LoadFault → Ending
ending_with None script found = ending.Usage
ending_with (Some command) script found = if refuses_script command script then ending.Usage else ending_scripted command script found

-- a check of the whole set ends by what it finds, whether the set is loaded or not
abbrev pub ending_on_set : Option CommandLine → List ℕ → Images → Ending
ending_on_set (Some CheckSet) script set = (set_check_outcome set).ending
ending_on_set command script set = ending_with command script (loading set)

-- the ending that is due: words that are no command line come first, then a script that isn't taken
abbrev pub ending_due : List (List ℕ) → List ℕ → Images → Ending
ending_due words script set = ending_on_set (command_of words) script set

-- a status that says that something outside failed, or that memory ran out
abbrev pub IsFromOutside : Status → Type 0
IsFromOutside status.ReadFault = ⊤
IsFromOutside status.WriteFault = ⊤
IsFromOutside status.OutOfMemory = ⊤
IsFromOutside other = ⊥
