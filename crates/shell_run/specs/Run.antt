-- What a run does, seen from outside.
use Rattle.std.specs.Prelude.{◌≡◌, ⊤, ◌⊎◌, ℕ, Bool, true, false, IsTrue, IsSome, List, ◌++◌, Option, Some, None, Result, Ok, Err, MatchOption, codes, length, take}
use Rattle.std.specs.Option.{ForSome}
use Rattle.std.specs.Io.KnownBytes.{Keeps, Appends}
use Rattle.nvd_media.specs.Images.{Images, Becomes, IsUnfinished}
use Rattle.nvd_media.specs.Images.{Keeps as StillTells}
use Rattle.cut_words.specs.Words.{Words}
use Rattle.image_set.specs.declared.fault.LoadFault.{LoadFault}
use Rattle.image_set.specs.Load.{ImageSet, loading}
use Rattle.image_set.specs.declared.outline.Outline.{Outline}
use Rattle.image_set.specs.Outline.{contents_in, image_set_with}
use Rattle.shell_reports.specs.declared.status.Ending.TheVariants as ending
use Rattle.shell_reports.specs.declared.status.Status.{Status}
use Rattle.shell_reports.specs.declared.status.Status.TheVariants as status
use Rattle.shell_run.specs.declared.words.CommandLine.{CommandLine}
use Rattle.shell_run.specs.declared.words.CommandLine.TheVariants.{Labels, Nfit, Init, Change, Info, Check, CheckSet, RepairSet, Read, Write, Replay, Export, Rescue, Import, Serve, Load}
use Rattle.shell_run.specs.declared.words.CommandLine.TheVariants as command
use Rattle.shell_run.specs.Words.{HasGoodValues, command_of}
use Rattle.shell_reports.specs.Outcome.{Outcome, usage, lf, status_of}
use Rattle.shell_reports.specs.LoadFaults.{load_outcome}
use Rattle.shell_reports.specs.Labels.{labels_outcome}
use Rattle.shell_reports.specs.Nfit.{nfit_outcome}
use Rattle.shell_reports.specs.Saved.{Saves}
use Rattle.shell_changes.specs.declared.answer.Answer.{Answer}
use Rattle.shell_changes.specs.Answers.{outcome_with}
use Rattle.shell_changes.specs.Init.{InitComes}
use Rattle.shell_changes.specs.Saved.{Stores}
use Rattle.shell_changes.specs.Namespaces.{ChangeComes}
use Rattle.shell_reports.specs.List.{list_outcome}
use Rattle.shell_reports.specs.Sectors.{info_outcome, read_outcome}
use Rattle.shell_check.specs.Comes.{CheckComes}
use Rattle.shell_set_check.specs.Whole.{set_check_outcome}
use Rattle.shell_set_check.specs.Repair.{SetRepairComes}
use Rattle.shell_sectors.specs.Write.{WriteComes}
use Rattle.shell_export.specs.Export.{export_outcome}
use Rattle.shell_rescue.specs.Comes.{rescue_outcome}
use Rattle.shell_import.specs.Import.{ImportComes}
use Rattle.shell_replay.specs.Replay.{ReplayComes}
use Rattle.session_script.specs.Schedule.{replay_reading}
use Rattle.session_script.specs.Script.{script_reading}
use Rattle.shell_serve.specs.Load.{LoadComes}
use Rattle.shell_serve.specs.Serve.{ServeComes}
use Rattle.shell_run.specs.declared.scripts.ScriptRefused.{ScriptRefused}
use Rattle.shell_run.specs.Scripts.{bytes_in, script_in, script_outcome}

-- ---- a case for each command

-- what a command without a script may come to on the set that it loads; `leaves` says what rows of words may be after a crash, by the number from
-- which the chooser is begun
abbrev pub LoadedComes : (ℕ → List (Option Words) → List (Option (List ℕ)) → Type 0) → CommandLine → ImageSet → Outcome → Type 0
LoadedComes leaves (Labels m) loaded outcome = outcome ≡ labels_outcome m loaded
LoadedComes leaves Nfit loaded outcome = outcome ≡ nfit_outcome loaded
LoadedComes leaves command.List loaded outcome = outcome ≡ list_outcome loaded
LoadedComes leaves (Init m power) loaded outcome = InitComes leaves m power loaded outcome
LoadedComes leaves (Change c power) loaded outcome = ChangeComes leaves c power loaded outcome
LoadedComes leaves (Info uuid) loaded outcome = outcome ≡ info_outcome uuid loaded
LoadedComes leaves (Check uuid repair) loaded outcome = CheckComes uuid repair loaded outcome
LoadedComes leaves CheckSet loaded outcome = ⊥
LoadedComes leaves RepairSet loaded outcome = SetRepairComes loaded outcome
LoadedComes leaves (Read uuid sector) loaded outcome = outcome ≡ read_outcome uuid sector loaded
LoadedComes leaves (Write uuid sector value) loaded outcome = WriteComes uuid sector value loaded outcome
LoadedComes leaves (Replay uuid seed) loaded outcome = ⊥
LoadedComes leaves (Export uuid zeros) loaded outcome = outcome ≡ export_outcome uuid zeros loaded
LoadedComes leaves (Rescue uuid listing) loaded outcome = outcome ≡ rescue_outcome uuid listing loaded
LoadedComes leaves (Import uuid) loaded outcome = ⊥
LoadedComes leaves (Serve running) loaded outcome = ⊥
LoadedComes leaves (Load l workers) loaded outcome = LoadComes (leaves 0) l loaded outcome

-- by the set that is loaded, or by why none is
abbrev pub OnLoaded : (ImageSet → Outcome → Type 0) → Result ImageSet LoadFault → Outcome → Type 0
OnLoaded comes (Ok loaded) outcome = comes loaded outcome
OnLoaded comes (Err fault) outcome = outcome ≡ load_outcome fault

-- by the images, as far as they are told: the whole set is loaded
abbrev pub OnImages : (ImageSet → Outcome → Type 0) → Option Images → Outcome → Type 0
OnImages comes held outcome = ForSome held (λ set. OnLoaded comes (loading set) outcome)

-- an answer on a set that was loaded without its contents: they are those that the source has, as far as it reveals them
abbrev pub OnSource : (ImageSet → Outcome → Type 0) → Option Images → Outline → Answer → Type 0
OnSource comes held outline answer = ForSome held (λ source.
    comes (image_set_with outline (contents_in source (length outline.sizes))) (outcome_with answer (contents_in source (length outline.sizes))))

-- by the script that is read, or by why none is
abbrev pub OnScript : {A : Type 0} → (A → Outcome → Type 0) → Result A ScriptRefused → Outcome → Type 0
OnScript comes (Ok script) outcome = comes script outcome
OnScript comes (Err why) outcome = outcome ≡ script_outcome why

-- what a command may come to, for images and a script: a command with a script reads it to its end first, and then loads the set; the
-- check of the whole set goes on where loading stops
abbrev pub Comes : (ℕ → List (Option Words) → List (Option (List ℕ)) → Type 0) → CommandLine → Option Images → List ℕ → Outcome → Type 0
Comes leaves (Replay uuid seed) held script outcome =
    OnScript (λ schedule. OnImages (ReplayComes leaves uuid (record { lines = schedule.lines; seed = seed })) held) (script_in replay_reading script) outcome
Comes leaves (Import uuid) held script outcome = OnScript (λ bytes. OnImages (ImportComes uuid bytes) held) (bytes_in script) outcome
Comes leaves (Serve running) held script outcome = OnScript (λ lines. OnImages (ServeComes (leaves running.seed) lines) held) (script_in script_reading script) outcome
Comes leaves CheckSet held script outcome = ForSome held (λ set. outcome ≡ set_check_outcome set)
Comes leaves command held script outcome = OnImages (LoadedComes leaves command) held outcome

-- whether a command reads the script
abbrev pub reads_script : CommandLine → Bool
reads_script (Labels m) = false
reads_script Nfit = false
reads_script command.List = false
reads_script (Init m power) = false
reads_script (Change c power) = false
reads_script (Info uuid) = false
reads_script (Check uuid repair) = false
reads_script CheckSet = false
reads_script RepairSet = false
reads_script (Read uuid sector) = false
reads_script (Write uuid sector value) = false
reads_script (Replay uuid seed) = true
reads_script (Export uuid zeros) = false
reads_script (Rescue uuid listing) = false
reads_script (Import uuid) = true
reads_script (Serve running) = true
reads_script (Load l workers) = false

-- whether a command prints its text piece by piece, as the text may be as long as the contents, so that reading may fail in between; it writes no set
abbrev pub streams : CommandLine → Bool
streams (Labels m) = false
streams Nfit = false
streams command.List = false
streams (Init m power) = false
streams (Change c power) = false
streams (Info uuid) = false
streams (Check uuid repair) = false
streams CheckSet = false
streams RepairSet = false
streams (Read uuid sector) = false
streams (Write uuid sector value) = false
streams (Replay uuid seed) = false
streams (Export uuid zeros) = true
streams (Rescue uuid listing) = true
streams (Import uuid) = false
streams (Serve running) = false
streams (Load l workers) = false

-- whether a command checks the whole set
abbrev pub checks_set : CommandLine → Bool
checks_set CheckSet = true
checks_set command = false

-- a command that makes an answer, of the loaded set alone
abbrev pub IsPlain : CommandLine → Type 0
IsPlain command = (reads_script command ≡ false) × (streams command ≡ false) × (checks_set command ≡ false)

-- a command that makes an answer, and has good values
abbrev pub IsAnswered : CommandLine → Type 0
IsAnswered command = HasGoodValues command × (streams command ≡ false)

-- whether a command starts sessions, which may wait for one another; no other command waits
abbrev pub has_sessions : CommandLine → Bool
has_sessions (Labels m) = false
has_sessions Nfit = false
has_sessions command.List = false
has_sessions (Init m power) = false
has_sessions (Change c power) = false
has_sessions (Info uuid) = false
has_sessions (Check uuid repair) = false
has_sessions CheckSet = false
has_sessions RepairSet = false
has_sessions (Read uuid sector) = false
has_sessions (Write uuid sector value) = false
has_sessions (Replay uuid seed) = false
has_sessions (Export uuid zeros) = false
has_sessions (Rescue uuid listing) = false
has_sessions (Import uuid) = false
has_sessions (Serve running) = true
has_sessions (Load l workers) = true

-- whether a command copies contents as it saves, so that reading may fail then
abbrev pub copies : CommandLine → Bool
copies (Labels m) = false
copies Nfit = false
copies command.List = false
copies (Init m power) = true
copies (Change c power) = true
copies (Info uuid) = false
copies (Check uuid repair) = true
copies CheckSet = false
copies RepairSet = true
copies (Read uuid sector) = false
copies (Write uuid sector value) = true
copies (Replay uuid seed) = true
copies (Export uuid zeros) = false
copies (Rescue uuid listing) = false
copies (Import uuid) = true
copies (Serve running) = true
copies (Load l workers) = true

-- whether the words are those of a command that copies contents
abbrev pub copies_found : Option CommandLine → Bool
copies_found None = false
copies_found (Some command) = copies command

abbrev pub copies_by : List (List ℕ) → Bool
copies_by words = copies_found (command_of words)

-- whether the words are those of a command that prints its text piece by piece
abbrev pub streams_found : Option CommandLine → Bool
streams_found None = false
streams_found (Some command) = streams command

abbrev pub streams_by : List (List ℕ) → Bool
streams_by words = streams_found (command_of words)

-- ---- once for all commands

-- a command comes to this, as far as images and script are told
abbrev pub ComesTold : (ℕ → List (Option Words) → List (Option (List ℕ)) → Type 0) → CommandLine → Option Images → Option (List ℕ) → Outcome → Type 0
ComesTold leaves command held left outcome =
    (script : List ℕ) → (IsTrue (reads_script command) → left ≡ Some script) → Comes leaves command held script outcome

-- what the words come to
abbrev pub IsDue : (ℕ → List (Option Words) → List (Option (List ℕ)) → Type 0) → List (List ℕ) → Option Images → Option (List ℕ) → Outcome → Type 0
IsDue leaves words held left outcome = MatchOption (command_of words) (outcome ≡ usage) (λ command. ComesTold leaves command held left outcome)

-- the script is as it was, unless the words are those of a command that reads it
abbrev pub LeavesScript : List (List ℕ) → Option (List ℕ) → Option (List ℕ) → Type 0
LeavesScript words left left' = MatchOption (command_of words) (left' ≡ left) (λ command. reads_script command ≡ false → left' ≡ left)

-- the text has a front of what was to be printed
abbrev pub AppendsPart : Option (List ℕ) → Option (List ℕ) → List ℕ → Type 0
AppendsPart text text' bytes = (n : ℕ) × Appends text text' (take n bytes)

-- after a read fault nothing was written; or, of a command that copies contents as it saves, an outcome was due that has a set,
-- and the set isn't finished
abbrev pub FailedToRead : Bool → (Outcome → Type 0) → Option Images → Option Images → Type 0
FailedToRead copying due made made' =
    (made' ≡ made) ⊎ (IsTrue copying × ((outcome : Outcome) × due outcome × IsSome outcome.saved × Becomes made made' IsUnfinished))

-- after a write fault an outcome was due and its set wasn't finished and nothing was printed; or an outcome was due and
-- printing stopped before its end; or reading had failed, and printing `read fault` stopped
abbrev pub FailedToWrite : Type 0 → Bool → (Outcome → Type 0) → Option Images → Option Images → Option (List ℕ) → Option (List ℕ) → Type 0
FailedToWrite faulted copying due made made' text text' =
    ((outcome : Outcome) × due outcome × IsSome outcome.saved × Becomes made made' IsUnfinished × Keeps text text')
    ⊎ ((outcome : Outcome) × due outcome × Saves outcome.saved made made' × AppendsPart text text' outcome.text)
    ⊎ (faulted × FailedToRead copying due made made' × AppendsPart text text' (codes "read fault" ++ lf))

-- after a read fault the text is `read fault`; or, of a command that prints its text piece by piece, an outcome without a refusal was due, and a
-- front of its text was printed
abbrev pub SaysReadFault : Bool → (Outcome → Type 0) → Option (List ℕ) → Option (List ℕ) → Type 0
SaysReadFault streaming due text text' =
    Appends text text' (codes "read fault" ++ lf) ⊎ (IsTrue streaming × ((outcome : Outcome) × due outcome × (outcome.ending ≡ ending.Done) × AppendsPart text text' outcome.text))

-- what stands outside after a status, of a command that copies contents as it saves or doesn't, and that prints its text piece by piece or
-- doesn't; `faulted` says that the images or the script had a fault of reading
abbrev pub Ends : Type 0 → Bool → Bool → (Outcome → Type 0) → Option Images → Option Images → Option (List ℕ) → Option (List ℕ) → Status → Type 0
Ends faulted copying streaming due made made' text text' status.ReadFault = faulted × FailedToRead copying due made made' × SaysReadFault streaming due text text'
Ends faulted copying streaming due made made' text text' status.WriteFault = FailedToWrite faulted copying due made made' text text'
Ends faulted copying streaming due made made' text text' status.OutOfMemory = (made' ≡ made) × Keeps text text'
Ends faulted copying streaming due made made' text text' other = (outcome : Outcome) × due outcome × (status_of outcome.ending ≡ other) × Saves outcome.saved made made' × Appends text text' outcome.text

-- What sinks hold that tell, after the run, that they stored everything: if the status is the one of an outcome that was due, its set and its text.
abbrev pub Holds : (Outcome → Type 0) → Option Images → Option Images → Option (List ℕ) → Option (List ℕ) → Status → Type 0
Holds due kept kept' text text' status.ReadFault = ⊤
Holds due kept kept' text text' status.WriteFault = ⊤
Holds due kept kept' text text' status.OutOfMemory = ⊤
Holds due kept kept' text text' other =
    (outcome : Outcome) × due outcome × (status_of outcome.ending ≡ other) × Stores outcome.saved kept kept' × StillTells text text' (λ was now. now ≡ was ++ outcome.text)
