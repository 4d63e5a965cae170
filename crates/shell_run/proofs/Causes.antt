-- The status is the one that is due.
use Rattle.std.proofs.Common.{◌≡◌, ℕ, ◌/◌, Bool, true, false, List, [], ◌∷◌, length, Option, Some, None, Result, Ok, Err, refl, sym, ap, ◌∙◌, subst, inl, inr, arith}
use Rattle.std.specs.Prelude.{◌⊎◌, ◌||◌, not, nat_lt, is_some, is_err, MatchBool, MatchOption, IsTrue, ⊤, if◌then◌else◌}
use Rattle.nvd_media.specs.Images.{Images}
use Rattle.cut_words.specs.Words.{Words}
use Rattle.cut_words.specs.Fuses.{lasts}
use Rattle.cut_words.specs.WordBytes.{bytes_of}
use Rattle.cut_words.proofs.Bytes.{length_bytes}
use Rattle.label_index.specs.declared.index.IndexBlock.{IndexBlock}
use Rattle.label_area.specs.declared.fault.AreaFault.{AreaFault}
use Rattle.label_area.specs.declared.fault.AreaFault.TheVariants.{Unsupported, NoIndex, OutOfMemory, AlreadyInitialised, PowerCut}
use Rattle.label_area.specs.Area.{block_in}
use Rattle.label_area.specs.Initialise.{initialised_by, init_count}
use Rattle.label_area.proofs.Blocks.{read_fault}
use Rattle.namespace_map.specs.declared.listed.Namespace.{Namespace}
use Rattle.namespace_ops.specs.declared.registry.OpenFault.{OpenFault}
use Rattle.image_set.specs.declared.fault.LoadFault.{LoadFault}
use Rattle.image_set.specs.Load.{ImageSet, area_of, loading}
use Rattle.shell_reports.specs.declared.status.Ending.{Ending}
use Rattle.shell_reports.specs.declared.status.Ending.TheVariants as ending
use Rattle.shell_reports.specs.declared.status.Status.TheVariants as status
use Rattle.shell_run.specs.declared.words.CommandLine.{CommandLine}
use Rattle.shell_run.specs.declared.words.CommandLine.TheVariants.{Labels, Nfit, Init, Change, Info, Check, CheckSet, RepairSet, Read, Write, Replay, Export, Rescue, Import, Serve, Load}
use Rattle.shell_run.specs.declared.words.CommandLine.TheVariants as command
use Rattle.shell_reports.specs.declared.power.Power.{Power}
use Rattle.nfit_reader.specs.declared.table.Mapping.{Mapping}
use Rattle.namespace_map.specs.declared.commands.Command.{Command}
use Rattle.namespace_map.specs.declared.refused.OpRefused.{OpRefused}
use Rattle.namespace_map.specs.Areas.{Area}
use Rattle.shell_changes.specs.Areas.{areas_in}
use Rattle.shell_changes.specs.Namespaces as changes
use Rattle.shell_changes.specs.Namespaces.{sets_in, refusal_in, refuses_by, work_in}
use Rattle.shell_changes.specs.Work.{steps_of_work}
use Rattle.shell_run.specs.Words.{command_of}
use Rattle.shell_reports.specs.Outcome.{Outcome, usage, printed, status_of}
use Rattle.shell_reports.specs.Labels.{module_outcome, found_outcome, fault_outcome}
use Rattle.shell_changes.specs.Init.{InitArea, InitModule}
use Rattle.shell_reports.specs.List.{listed_of, listed_outcome, open_outcome}
use Rattle.arena_open.specs.declared.chain_refused.ChainRefused.{ChainRefused}
use Rattle.arena_open.specs.declared.state.ArenaState.{ArenaState}
use Rattle.arena_open.specs.ChainCells.{sectors_of}
use Rattle.namespace_areas.specs.declared.found.Found.{Found}
use Rattle.shell_reports.specs.Faults.{arena_outcome, held_text, most_held, refusal_text, refused_outcome}
use Rattle.shell_reports.specs.Sectors.{arena_lines, sector_outcome}
use Rattle.shell_reports.specs.Causes.{breaks, fault_in, found_in, is_broken, is_unfound, lacks, lacks_found, opened_in}
use Rattle.shell_reports.proofs.Causes.{SectorsCase, faulty, unfound, broken, opened, sectors_case}
use Rattle.shell_reports.proofs.More.{ending_of}
use Rattle.session_script.specs.declared.payload.Payload.{Payload}
use Rattle.shell_check.specs.Comes.{OnFound, OnNamed}
use Rattle.shell_set_check.specs.Whole.{set_check_outcome}
use Rattle.shell_sectors.specs.Causes.{bars, bars_found}
use Rattle.shell_sectors.specs.Write.{Writes, WritesArenas, write_refusal}
use Rattle.shell_sectors.proofs.Causes.{SetCase, set_broken, set_case, set_faulty, set_opened, set_unfound}
use Rattle.shell_export.specs.Causes.{breaks_export, refuses_export}
use Rattle.shell_export.specs.Export.{export_outcome}
use Rattle.shell_export.proofs.Causes.{export_ends, ending_for as ending_by_cause}
use Rattle.shell_rescue.specs.Causes.{breaks_rescue, refuses_rescue}
use Rattle.shell_rescue.specs.Comes.{rescue_outcome}
use Rattle.shell_rescue.proofs.Causes.{rescue_ends}
use Rattle.session_script.specs.declared.schedule.Replay.{Replay as Schedules}
use Rattle.session_script.specs.declared.script.Script.{Script}
use Rattle.session_script.specs.Schedule.{replay_reading}
use Rattle.session_script.specs.Script.{script_reading}
use Rattle.shell_replay.specs.declared.schedule.Schedule.{Schedule}
use Rattle.shell_import.specs.Import.{ImportComes}
use Rattle.shell_import.proofs.Causes.{import_ends}
use Rattle.shell_serve.specs.declared.load.Load.{Load as Loading}
use Rattle.shell_serve.specs.Causes.{breaks_load, breaks_serve, refuses_load, refuses_serve}
use Rattle.shell_serve.specs.Laws as due
use Rattle.shell_serve.specs.Load.{LoadComes}
use Rattle.shell_serve.specs.Serve.{ServeComes}
use Rattle.shell_serve.proofs.Causes.{load_due, serve_due}
use Rattle.shell_replay.specs.Causes.{cannot_replay, refused_on}
use Rattle.shell_replay.specs.Replay.{ReplayComes, Replays, ReplaysArenas, arenas_refusal}
use Rattle.shell_run.specs.declared.scripts.ScriptRefused.{ScriptRefused}
use Rattle.shell_run.specs.Run.{Comes, LoadedComes, OnImages, OnLoaded, OnScript, ComesTold, reads_script}
use Rattle.shell_run.specs.declared.scripts.ScriptRefused.TheVariants as refused
use Rattle.shell_run.specs.Scripts.{bytes_in, most_file_bytes, script_in, script_outcome}
use Rattle.shell_run.specs.Statuses.{bars_sessions, breaks_sessions, ending_by, ending_due, ending_on, ending_on_set, ending_scripted, has_block, is_barred, is_cut, is_short, keeps_area, refuses_area, refuses_images}
use Rattle.shell_run.specs.Laws.{StatusIsDue}

-- the ways in which a command on images is answered
data CommandCase (command : CommandLine) (found : Result ImageSet LoadFault) (e : Ending) : Type 0 where
  is_refused : refuses_images command found ≡ true → e ≡ ending.Image → CommandCase command found e
  is_done : refuses_images command found ≡ false → is_cut command found ≡ false → is_barred command found ≡ false → e ≡ ending.Done → CommandCase command found e
  is_turned_down : refuses_images command found ≡ false → is_cut command found ≡ false → is_barred command found ≡ true → e ≡ ending.Refused → CommandCase command found e
  is_cut_short : refuses_images command found ≡ false → is_cut command found ≡ true → e ≡ ending.PowerCut → CommandCase command found e

abbrev AreaCase : Option (List ℕ) → Ending → Type 0
AreaCase found e = ((refuses_area found ≡ true) × (e ≡ ending.Image)) ⊎ ((refuses_area found ≡ false) × (e ≡ ending.Done))

fault_ending : (m : ℕ) (fault : AreaFault) → (fault_outcome m fault).ending ≡ ending.Image
fault_ending m fault = refl

area_case : (m : ℕ) (area : List ℕ) (found : Result IndexBlock AreaFault) → block_in area ≡ found → AreaCase (Some area) (found_outcome m area found).ending
area_case m area (Ok block) is = inr (ap (λ r. is_err r) is, refl)
area_case m area (Err fault) is = inl (ap (λ r. is_err r) is, fault_ending m fault)

module_case : (m : ℕ) (found : Option (List ℕ)) → AreaCase found (module_outcome m found).ending
module_case m None = inl (refl, refl)
module_case m (Some area) = area_case m area (block_in area) refl

labels_case : (m : ℕ) (loaded : ImageSet) (e : Ending) → AreaCase (area_of loaded m) e → CommandCase (Labels m) (Ok loaded) e
labels_case m loaded e (inl refused) = is_refused refused.0 refused.1
labels_case m loaded e (inr accepted) = is_done accepted.0 refl refl accepted.1

list_case : (loaded : ImageSet) (found : Result (List Namespace) OpenFault) → listed_of loaded ≡ found → CommandCase command.List (Ok loaded) (listed_outcome found).ending
list_case loaded (Ok namespaces) is = is_done (ap (λ r. is_err r) is) refl refl refl
list_case loaded (Err fault) is = is_refused (ap (λ r. is_err r) is) refl

-- ---- `init`

-- the words of an area are an eighth of its bytes
pub words_in_area : (values area : List ℕ) → bytes_of values ≡ area → length area / 8 ≡ length values
words_in_area values area is = let e = length_bytes values in let f = ap (λ (xs : List ℕ). length xs) is in omega arith

-- a module's area that has no index block, with power lasting or not
data InitCase (steps : Option ℕ) (found : Option (List ℕ)) (e : Ending) : Type 0 where
  is_kept : keeps_area found ≡ true → e ≡ ending.Image → InitCase steps found e
  is_blank : keeps_area found ≡ false → is_short steps found ≡ false → e ≡ ending.Done → InitCase steps found e
  is_blank_short : keeps_area found ≡ false → is_short steps found ≡ true → e ≡ ending.PowerCut → InitCase steps found e

module _ (leaves : ℕ → List (Option Words) → List (Option (List ℕ)) → Type 0) (m : ℕ) (power : Power) (loaded : ImageSet) (outcome : Outcome) where
  blank_case : (values area : List ℕ) → bytes_of values ≡ area → block_in area ≡ Err NoIndex → (b : Bool) → lasts power.steps (init_count (length values)) ≡ b
      → InitArea leaves m power loaded (initialised_by values power.steps (Err NoIndex)) outcome → InitCase power.steps (Some area) outcome.ending
  blank_case values area is none true long comes =
      is_blank (ap has_block none) (ap (λ (n : ℕ). not (lasts power.steps (init_count n))) (words_in_area values area is) ∙ ap not long)
      (let done = rw long at comes in done.ends)
  blank_case values area is none false short comes =
      is_blank_short (ap has_block none) (ap (λ (n : ℕ). not (lasts power.steps (init_count n))) (words_in_area values area is) ∙ ap not short)
      (let cut = rw short at comes in cut.4.ends)

  found_case : (values area : List ℕ) → bytes_of values ≡ area → (found : Result IndexBlock AreaFault) → block_in area ≡ found
      → InitArea leaves m power loaded (initialised_by values power.steps found) outcome → InitCase power.steps (Some area) outcome.ending
  found_case values area is (Ok block) read comes = is_kept (ap has_block read) (ending_of outcome _ comes ∙ fault_ending m (AlreadyInitialised block.seq))
  found_case values area is (Err NoIndex) read comes = blank_case values area is read (lasts power.steps (init_count (length values))) refl comes
  found_case values area is (Err (Unsupported major minor)) read comes = is_kept (ap has_block read) (ending_of outcome _ comes ∙ fault_ending m (Unsupported major minor))
  found_case values area is (Err OutOfMemory) read comes = is_kept (ap has_block read) (ending_of outcome _ comes ∙ fault_ending m OutOfMemory)
  found_case values area is (Err (AlreadyInitialised seq)) read comes = is_kept (ap has_block read) (ending_of outcome _ comes ∙ fault_ending m (AlreadyInitialised seq))
  found_case values area is (Err PowerCut) read comes = absurd (read_fault area PowerCut read refl)

  init_case : (found : Option (List ℕ)) → InitModule leaves m power loaded found outcome → InitCase power.steps found outcome.ending
  init_case None comes = is_kept refl (ending_of outcome _ comes)
  init_case (Some area) (values, is, comes) = found_case values area is (block_in area) refl
      (subst (λ (xs : List ℕ). InitArea leaves m power loaded (initialised_by values power.steps (block_in xs)) outcome) is comes)

init_command : (m : ℕ) (power : Power) (loaded : ImageSet) (e : Ending) → InitCase power.steps (area_of loaded m) e → CommandCase (Init m power) (Ok loaded) e
init_command m power loaded e (is_kept kept image) = is_refused kept image
init_command m power loaded e (is_blank blank long done) = is_done blank long refl done
init_command m power loaded e (is_blank_short blank short cut) = is_cut_short blank short cut

-- ---- commands on namespaces

module _ (leaves : ℕ → List (Option Words) → List (Option (List ℕ)) → Type 0) (c : Command) (power : Power) (loaded : ImageSet) (outcome : Outcome) where
  abbrev seen : List (Option Area)
  seen = areas_in loaded.labels

  whole_case : (sets : List (List Mapping)) → sets_in loaded ≡ Ok sets → (refusal : Option OpRefused) → refusal_in sets seen c ≡ refusal → changes.is_short loaded c power.steps ≡ false
      → changes.Ends loaded seen (work_in sets seen c) refusal outcome → CommandCase (Change c power) (Ok loaded) outcome.ending
  whole_case sets are None none long ends =
      is_done (ap (λ r. is_err r) are) long (ap (refuses_by seen c) are ∙ ap (λ (o : Option OpRefused). is_some o) none) (ends.saves.ends)
  whole_case sets are (Some f) some long ends =
      is_turned_down (ap (λ r. is_err r) are) long (ap (refuses_by seen c) are ∙ ap (λ (o : Option OpRefused). is_some o) some) (ending_of outcome (refused_outcome (refusal_text f)) ends)

  lasting_case : (sets : List (List Mapping)) → sets_in loaded ≡ Ok sets → (b : Bool) → lasts power.steps (steps_of_work seen (work_in sets seen c)) ≡ b
      → MatchBool b (changes.Ends loaded seen (work_in sets seen c) (refusal_in sets seen c) outcome) (changes.IsPowerCut leaves loaded seen (work_in sets seen c) power outcome)
      → CommandCase (Change c power) (Ok loaded) outcome.ending
  lasting_case sets are true long ends = whole_case sets are (refusal_in sets seen c) refl (ap (changes.is_short_by seen c power.steps) are ∙ ap not long) ends
  lasting_case sets are false short cut = is_cut_short (ap (λ r. is_err r) are) (ap (changes.is_short_by seen c power.steps) are ∙ ap not short) (cut.saves.ends)

  change_case : (found : Result (List (List Mapping)) OpenFault) → sets_in loaded ≡ found → changes.OnSets leaves loaded c power found outcome → CommandCase (Change c power) (Ok loaded) outcome.ending
  change_case (Ok sets) are comes = lasting_case sets are (lasts power.steps (steps_of_work seen (work_in sets seen c))) refl comes
  change_case (Err fault) are comes = is_refused (ap (λ r. is_err r) are) (ending_of outcome (open_outcome fault) comes)

-- ---- the arenas of a namespace

or_true : (b : Bool) → b || true ≡ true
or_true true = refl
or_true false = refl

module _ (uuid : List ℕ) (loaded : ImageSet) where
  broken_is : (o : Option OpenFault) (r : Result Found OpRefused) → fault_in loaded ≡ o → found_in loaded uuid ≡ r → is_broken loaded uuid ≡ is_some o || breaks loaded uuid r
  broken_is o r p q = λ i. is_some (p i) || breaks loaded uuid (q i)

  table_broken : (fault : OpenFault) → fault_in loaded ≡ Some fault → is_broken loaded uuid ≡ true
  table_broken fault is = broken_is (Some fault) (found_in loaded uuid) is refl

  arena_broken : (found : Found) (fault : ChainRefused) → found_in loaded uuid ≡ Ok found → opened_in loaded uuid found ≡ Err fault → is_broken loaded uuid ≡ true
  arena_broken found fault is read =
      broken_is (fault_in loaded) (Ok found) refl is ∙ ap (λ (r : Result (List ArenaState) ChainRefused). is_some (fault_in loaded) || is_err r) read ∙ or_true (is_some (fault_in loaded))

  unfound_reads : (refusal : OpRefused) → fault_in loaded ≡ None → found_in loaded uuid ≡ Err refusal → is_broken loaded uuid ≡ false
  unfound_reads refusal none is = broken_is None (Err refusal) none is

  opened_reads : (found : Found) (states : List ArenaState) → fault_in loaded ≡ None → found_in loaded uuid ≡ Ok found → opened_in loaded uuid found ≡ Ok states → is_broken loaded uuid ≡ false
  opened_reads found states none is read = broken_is None (Ok found) none is ∙ ap (λ (r : Result (List ArenaState) ChainRefused). is_err r) read

-- what a check finds in the arenas is no fault of the images
check_done : (uuid : List ℕ) (repair : Bool) (loaded : ImageSet) (outcome : Outcome) (found : Found) → OnFound uuid repair loaded outcome found → outcome.ending ≡ ending.Done
check_done uuid true loaded outcome found on = on.saves.ends
check_done uuid false loaded outcome found on = on.ends

check_case : (uuid : List ℕ) (repair : Bool) (loaded : ImageSet) (outcome : Outcome) (o : Option OpenFault) (r : Result Found OpRefused) → fault_in loaded ≡ o → found_in loaded uuid ≡ r
    → MatchOption o (OnNamed uuid repair loaded outcome r) (λ fault. outcome ≡ open_outcome fault) → CommandCase (Check uuid repair) (Ok loaded) outcome.ending
check_case uuid repair loaded outcome (Some fault) r fault_is is comes = is_refused (ap (λ (f : Option OpenFault). is_some f) fault_is) (ending_of outcome (open_outcome fault) comes)
check_case uuid repair loaded outcome None (Err refusal) fault_is is comes =
    is_turned_down (ap (λ (f : Option OpenFault). is_some f) fault_is) refl (ap is_unfound is) (ending_of outcome (refused_outcome (refusal_text refusal)) comes)
check_case uuid repair loaded outcome None (Ok found) fault_is is comes =
    is_done (ap (λ (f : Option OpenFault). is_some f) fault_is) refl (ap is_unfound is) (check_done uuid repair loaded outcome found comes)

info_case : (uuid : List ℕ) (loaded : ImageSet) (outcome : Outcome) → SectorsCase (λ states. printed (arena_lines 0 states)) loaded uuid outcome → CommandCase (Info uuid) (Ok loaded) outcome.ending
info_case uuid loaded outcome (faulty fault is e) = is_refused (table_broken uuid loaded fault is) (ending_of outcome (open_outcome fault) e)
info_case uuid loaded outcome (unfound refusal none is e) =
    is_turned_down (unfound_reads uuid loaded refusal none is) refl (ap is_unfound is) (ending_of outcome (refused_outcome (refusal_text refusal)) e)
info_case uuid loaded outcome (broken found fault is read e) = is_refused (arena_broken uuid loaded found fault is read) (ending_of outcome (arena_outcome uuid fault) e)
info_case uuid loaded outcome (opened found states none is read e) =
    is_done (opened_reads uuid loaded found states none is read) refl (ap is_unfound is) (ending_of outcome (printed (arena_lines 0 states)) e)

sector_case : (uuid : List ℕ) (sector : ℕ) (loaded : ImageSet) (outcome : Outcome) (found : Found) (states : List ArenaState) → is_broken loaded uuid ≡ false → found_in loaded uuid ≡ Ok found
    → opened_in loaded uuid found ≡ Ok states → outcome ≡ sector_outcome sector states → (b : Bool) → nat_lt sector (sectors_of states) ≡ b → CommandCase (Read uuid sector) (Ok loaded) outcome.ending
sector_case uuid sector loaded outcome found states readable is read e true there =
    is_done readable refl (ap (lacks_found loaded uuid sector) is ∙ ap (lacks sector) read ∙ ap not there)
    (ending_of outcome (sector_outcome sector states) e ∙ rw there refl)
sector_case uuid sector loaded outcome found states readable is read e false past =
    is_turned_down readable refl (ap (lacks_found loaded uuid sector) is ∙ ap (lacks sector) read ∙ ap not past)
    (ending_of outcome (sector_outcome sector states) e ∙ rw past refl)

read_case : (uuid : List ℕ) (sector : ℕ) (loaded : ImageSet) (outcome : Outcome) → SectorsCase (sector_outcome sector) loaded uuid outcome → CommandCase (Read uuid sector) (Ok loaded) outcome.ending
read_case uuid sector loaded outcome (faulty fault is e) = is_refused (table_broken uuid loaded fault is) (ending_of outcome (open_outcome fault) e)
read_case uuid sector loaded outcome (unfound refusal none is e) =
    is_turned_down (unfound_reads uuid loaded refusal none is) refl (ap (lacks_found loaded uuid sector) is) (ending_of outcome (refused_outcome (refusal_text refusal)) e)
read_case uuid sector loaded outcome (broken found fault is read e) = is_refused (arena_broken uuid loaded found fault is read) (ending_of outcome (arena_outcome uuid fault) e)
read_case uuid sector loaded outcome (opened found states none is read e) =
    sector_case uuid sector loaded outcome found states (opened_reads uuid loaded found states none is read) is read e (nat_lt sector (sectors_of states)) refl

-- the arenas take the value at the sector, or they don't
taken_case : (uuid : List ℕ) (sector : ℕ) (value : Payload) (loaded : ImageSet) (outcome : Outcome) (found : Found) (states : List ArenaState) → is_broken loaded uuid ≡ false → found_in loaded uuid ≡ Ok found
    → opened_in loaded uuid found ≡ Ok states → (o : Option (List ℕ)) → write_refusal sector value states ≡ o
    → MatchOption o (Writes found uuid sector value loaded states outcome) (λ refusal. outcome ≡ refused_outcome refusal) → CommandCase (Write uuid sector value) (Ok loaded) outcome.ending
taken_case uuid sector value loaded outcome found states readable is read None none writes =
    is_done readable refl (ap (bars_found loaded uuid sector value) is ∙ ap (bars sector value) read ∙ ap (λ (o : Option (List ℕ)). is_some o) none) writes.saves.ends
taken_case uuid sector value loaded outcome found states readable is read (Some refusal) some said =
    is_turned_down readable refl (ap (bars_found loaded uuid sector value) is ∙ ap (bars sector value) read ∙ ap (λ (o : Option (List ℕ)). is_some o) some)
    (ending_of outcome (refused_outcome refusal) said)

write_case : (uuid : List ℕ) (sector : ℕ) (value : Payload) (loaded : ImageSet) (outcome : Outcome) → SetCase (WritesArenas uuid sector value loaded outcome) loaded uuid outcome
    → CommandCase (Write uuid sector value) (Ok loaded) outcome.ending
write_case uuid sector value loaded outcome (set_faulty fault is e) = is_refused (table_broken uuid loaded fault is) (ending_of outcome (open_outcome fault) e)
write_case uuid sector value loaded outcome (set_unfound refusal none is e) =
    is_turned_down (unfound_reads uuid loaded refusal none is) refl (ap (bars_found loaded uuid sector value) is) (ending_of outcome (refused_outcome (refusal_text refusal)) e)
write_case uuid sector value loaded outcome (set_broken found fault is read e) =
    is_refused (arena_broken uuid loaded found fault is read) (ending_of outcome (arena_outcome uuid fault) e)
write_case uuid sector value loaded outcome (set_opened found states none is read on) =
    taken_case uuid sector value loaded outcome found states (opened_reads uuid loaded found states none is read) is read (write_refusal sector value states) refl on

-- one arena is too large, or it isn't
large_case : (leaves : ℕ → List (Option Words) → List (Option (List ℕ)) → Type 0) (uuid : List ℕ) (seed : ℕ) (schedule : Schedule) (loaded : ImageSet) (outcome : Outcome) (found : Found) (state : ArenaState) → is_broken loaded uuid ≡ false
    → found_in loaded uuid ≡ Ok found → opened_in loaded uuid found ≡ Ok (state ∷ []) → (large : Bool) → nat_lt most_held state.info.layout.size ≡ large
    → MatchBool large (outcome ≡ refused_outcome (held_text state.info.layout.size)) (Replays leaves uuid schedule loaded outcome found state) → CommandCase (Replay uuid seed) (Ok loaded) outcome.ending
large_case leaves uuid seed schedule loaded outcome found state readable is read true large said =
    is_turned_down readable refl (ap (refused_on loaded uuid) is ∙ ap cannot_replay read ∙ ap (λ (b : Bool). not (not b)) large) (ending_of outcome (refused_outcome (held_text state.info.layout.size)) said)
large_case leaves uuid seed schedule loaded outcome found state readable is read false few saved =
    is_done readable refl (ap (refused_on loaded uuid) is ∙ ap cannot_replay read ∙ ap (λ (b : Bool). not (not b)) few) saved.saves.ends

-- there is one arena, or there are others
one_case : (leaves : ℕ → List (Option Words) → List (Option (List ℕ)) → Type 0) (uuid : List ℕ) (seed : ℕ) (schedule : Schedule) (loaded : ImageSet) (outcome : Outcome) (found : Found) (states : List ArenaState) → is_broken loaded uuid ≡ false
    → found_in loaded uuid ≡ Ok found → opened_in loaded uuid found ≡ Ok states → ReplaysArenas leaves uuid schedule loaded outcome found states → CommandCase (Replay uuid seed) (Ok loaded) outcome.ending
one_case leaves uuid seed schedule loaded outcome found [] readable is read said =
    is_turned_down readable refl (ap (refused_on loaded uuid) is ∙ ap cannot_replay read) (ending_of outcome (refused_outcome (arenas_refusal 0)) said)
one_case leaves uuid seed schedule loaded outcome found (state ∷ []) readable is read comes = large_case leaves uuid seed schedule loaded outcome found state readable is read (nat_lt most_held state.info.layout.size) refl comes
one_case leaves uuid seed schedule loaded outcome found (state ∷ next ∷ states) readable is read said =
    is_turned_down readable refl (ap (refused_on loaded uuid) is ∙ ap cannot_replay read) (ending_of outcome (refused_outcome (arenas_refusal (length (state ∷ next ∷ states)))) said)

replay_case : (leaves : ℕ → List (Option Words) → List (Option (List ℕ)) → Type 0) (uuid : List ℕ) (seed : ℕ) (schedule : Schedule) (loaded : ImageSet) (outcome : Outcome)
    → SetCase (ReplaysArenas leaves uuid schedule loaded outcome) loaded uuid outcome → CommandCase (Replay uuid seed) (Ok loaded) outcome.ending
replay_case leaves uuid seed schedule loaded outcome (set_faulty fault is e) = is_refused (table_broken uuid loaded fault is) (ending_of outcome (open_outcome fault) e)
replay_case leaves uuid seed schedule loaded outcome (set_unfound refusal none is e) =
    is_turned_down (unfound_reads uuid loaded refusal none is) refl (ap (refused_on loaded uuid) is) (ending_of outcome (refused_outcome (refusal_text refusal)) e)
replay_case leaves uuid seed schedule loaded outcome (set_broken found fault is read e) =
    is_refused (arena_broken uuid loaded found fault is read) (ending_of outcome (arena_outcome uuid fault) e)
replay_case leaves uuid seed schedule loaded outcome (set_opened found states none is read on) =
    one_case leaves uuid seed schedule loaded outcome found states (opened_reads uuid loaded found states none is read) is read on

-- ---- `export`

export_by : (uuid : List ℕ) (zeros : Bool) (loaded : ImageSet) (e : Ending) (b c : Bool) → breaks_export loaded uuid ≡ b → refuses_export loaded uuid zeros ≡ c
    → e ≡ ending_by_cause b c → CommandCase (Export uuid zeros) (Ok loaded) e
export_by uuid zeros loaded e true c p q is = is_refused p is
export_by uuid zeros loaded e false true p q is = is_turned_down p refl q is
export_by uuid zeros loaded e false false p q is = is_done p refl q is

export_case : (uuid : List ℕ) (zeros : Bool) (loaded : ImageSet) (outcome : Outcome) → outcome ≡ export_outcome uuid zeros loaded → CommandCase (Export uuid zeros) (Ok loaded) outcome.ending
export_case uuid zeros loaded outcome comes =
    export_by uuid zeros loaded outcome.ending (breaks_export loaded uuid) (refuses_export loaded uuid zeros) refl refl (ending_of outcome (export_outcome uuid zeros loaded) comes ∙ (export_ends loaded uuid zeros).0)

-- ---- `rescue`

rescue_by : (uuid : List ℕ) (listing : Bool) (loaded : ImageSet) (e : Ending) (b c : Bool) → breaks_rescue loaded uuid listing ≡ b → refuses_rescue loaded uuid ≡ c → e ≡ ending_by_cause b c → CommandCase (Rescue uuid listing) (Ok loaded) e
rescue_by uuid listing loaded e true c p q is = is_refused p is
rescue_by uuid listing loaded e false true p q is = is_turned_down p refl q is
rescue_by uuid listing loaded e false false p q is = is_done p refl q is

rescue_case : (uuid : List ℕ) (listing : Bool) (loaded : ImageSet) (outcome : Outcome) → outcome ≡ rescue_outcome uuid listing loaded → CommandCase (Rescue uuid listing) (Ok loaded) outcome.ending
rescue_case uuid listing loaded outcome comes =
    rescue_by uuid listing loaded outcome.ending (breaks_rescue loaded uuid listing) (refuses_rescue loaded uuid) refl refl (ending_of outcome (rescue_outcome uuid listing loaded) comes ∙ (rescue_ends loaded uuid listing).0)

-- ---- `import`

same_by : (long : Bool) (script bytes : List ℕ) (why : ScriptRefused) → (if long then Err why else Ok script) ≡ Ok bytes → bytes ≡ script
same_by true script bytes why e = absurd (let never = e in cc)
same_by false script bytes why e = let same : script ≡ bytes = cc in sym same

-- the bytes are the script
bytes_same : (script bytes : List ℕ) → bytes_in script ≡ Ok bytes → bytes ≡ script
bytes_same script bytes e = same_by (nat_lt most_file_bytes (length script)) script bytes (refused.TooLong most_file_bytes) e

-- ---- `load`

load_by : (l : Loading) (workers : ℕ) (loaded : ImageSet) (e : Ending) (b c : Bool) → breaks_load l loaded ≡ b → refuses_load l loaded ≡ c → e ≡ due.ending_by b c → CommandCase (Load l workers) (Ok loaded) e
load_by l workers loaded e true c p q is = is_refused p is
load_by l workers loaded e false true p q is = is_turned_down p refl q is
load_by l workers loaded e false false p q is = is_done p refl q is

load_case : (leaves : List (Option Words) → List (Option (List ℕ)) → Type 0) (l : Loading) (workers : ℕ) (loaded : ImageSet) (outcome : Outcome) → LoadComes leaves l loaded outcome → CommandCase (Load l workers) (Ok loaded) outcome.ending
load_case leaves l workers loaded outcome comes = load_by l workers loaded outcome.ending (breaks_load l loaded) (refuses_load l loaded) refl refl (load_due leaves l loaded outcome comes)

-- ---- `serve`

serve_by : (b c : Bool) → due.ending_by b c ≡ ending_by b false c
serve_by true c = refl
serve_by false true = refl
serve_by false false = refl

serve_found : (leaves : List (Option Words) → List (Option (List ℕ)) → Type 0) (script : Script) (found : Result ImageSet LoadFault) (outcome : Outcome) → OnLoaded (ServeComes leaves script) found outcome
    → outcome.ending ≡ ending_by (breaks_sessions (Ok script) found) false (bars_sessions (Ok script) found)
serve_found leaves script (Ok loaded) outcome comes = serve_due leaves script loaded outcome comes ∙ serve_by (breaks_serve loaded script) (refuses_serve loaded script)
serve_found leaves script (Err fault) outcome comes = ending_of outcome _ comes

abbrev serve_for : Images → Result Script ScriptRefused → Ending
serve_for set r = if is_err r then ending.Usage else ending_by (breaks_sessions r (loading set)) false (bars_sessions r (loading set))

serve_ending : (leaves : List (Option Words) → List (Option (List ℕ)) → Type 0) (set : Images) (outcome : Outcome) (r : Result Script ScriptRefused) → OnScript (λ (lines : Script). OnImages (ServeComes leaves lines) (Some set)) r outcome → outcome.ending ≡ serve_for set r
serve_ending leaves set outcome (Ok script) on = serve_found leaves script (loading set) outcome (on set refl)
serve_ending leaves set outcome (Err why) said = ending_of outcome (script_outcome why) said

-- ---- any command

module _ (leaves : ℕ → List (Option Words) → List (Option (List ℕ)) → Type 0) where
  command_case : (command : CommandLine) (found : Result ImageSet LoadFault) (outcome : Outcome) → OnLoaded (LoadedComes leaves command) found outcome → CommandCase command found outcome.ending
  command_case command (Err fault) outcome comes = is_refused refl (ending_of outcome _ comes)
  command_case (Labels m) (Ok loaded) outcome comes =
      subst (λ (e : Ending). CommandCase (Labels m) (Ok loaded) e) (sym (ending_of outcome _ comes)) (labels_case m loaded (module_outcome m (area_of loaded m)).ending (module_case m (area_of loaded m)))
  command_case Nfit (Ok loaded) outcome comes = is_done refl refl refl (ending_of outcome _ comes)
  command_case command.List (Ok loaded) outcome comes =
      subst (λ (e : Ending). CommandCase command.List (Ok loaded) e) (sym (ending_of outcome _ comes)) (list_case loaded (listed_of loaded) refl)
  command_case (Init m power) (Ok loaded) outcome comes = init_command m power loaded outcome.ending (init_case leaves m power loaded outcome (area_of loaded m) comes)
  command_case (Change c power) (Ok loaded) outcome comes = change_case leaves c power loaded outcome (sets_in loaded) refl comes
  command_case (Info uuid) (Ok loaded) outcome comes = info_case uuid loaded outcome (sectors_case (λ states. printed (arena_lines 0 states)) loaded uuid outcome comes)
  command_case (Check uuid repair) (Ok loaded) outcome comes = check_case uuid repair loaded outcome (fault_in loaded) (found_in loaded uuid) refl refl comes
  command_case CheckSet (Ok loaded) outcome comes = absurd comes
  command_case RepairSet (Ok loaded) outcome comes = is_done refl refl refl comes.ends
  command_case (Read uuid sector) (Ok loaded) outcome comes = read_case uuid sector loaded outcome (sectors_case (sector_outcome sector) loaded uuid outcome comes)
  command_case (Write uuid sector value) (Ok loaded) outcome comes =
      write_case uuid sector value loaded outcome (set_case (WritesArenas uuid sector value loaded outcome) loaded uuid outcome comes)
  command_case (Replay uuid seed) (Ok loaded) outcome comes = absurd comes
  command_case (Export uuid zeros) (Ok loaded) outcome comes = export_case uuid zeros loaded outcome comes
  command_case (Rescue uuid listing) (Ok loaded) outcome comes = rescue_case uuid listing loaded outcome comes
  command_case (Import uuid) (Ok loaded) outcome comes = absurd comes
  command_case (Serve running) (Ok loaded) outcome comes = absurd comes
  command_case (Load l workers) (Ok loaded) outcome comes = load_case (leaves 0) l workers loaded outcome comes

  -- ---- the ending that is due

  by_three : (command : CommandLine) (found : Result ImageSet LoadFault) (a b c : Bool) → refuses_images command found ≡ a → is_cut command found ≡ b → is_barred command found ≡ c
      → ending_on command found ≡ ending_by a b c
  by_three command found a b c p q r = λ i. ending_by (p i) (q i) (r i)

  case_ending : (command : CommandLine) (found : Result ImageSet LoadFault) (e : Ending) → CommandCase command found e → e ≡ ending_on command found
  case_ending command found e (is_refused refused image) = image ∙ sym (by_three command found true (is_cut command found) (is_barred command found) refused refl refl)
  case_ending command found e (is_done accepted long allowed done) = done ∙ sym (by_three command found false false false accepted long allowed)
  case_ending command found e (is_turned_down accepted long barred refused) = refused ∙ sym (by_three command found false false true accepted long barred)
  case_ending command found e (is_cut_short accepted short cut) = cut ∙ sym (by_three command found false true (is_barred command found) accepted short refl)

  -- a command without a script
  plain_ending : (command : CommandLine) (set : Images) (outcome : Outcome) → OnImages (LoadedComes leaves command) (Some set) outcome → outcome.ending ≡ ending_on command (loading set)
  plain_ending command set outcome on = case_ending command (loading set) outcome.ending (command_case command (loading set) outcome (on set refl))

  -- `replay`, by its script
  replay_loaded : (uuid : List ℕ) (seed : ℕ) (schedule : Schedule) (found : Result ImageSet LoadFault) (outcome : Outcome) → OnLoaded (ReplayComes leaves uuid schedule) found outcome → CommandCase (Replay uuid seed) found outcome.ending
  replay_loaded uuid seed schedule (Ok loaded) outcome comes = replay_case leaves uuid seed schedule loaded outcome (set_case (ReplaysArenas leaves uuid schedule loaded outcome) loaded uuid outcome comes)
  replay_loaded uuid seed schedule (Err fault) outcome comes = is_refused refl (ending_of outcome _ comes)

  abbrev ending_for : ℕ → List ℕ → Images → Result Schedules ScriptRefused → Ending
  ending_for seed uuid set r = if is_err r then ending.Usage else ending_on (Replay uuid seed) (loading set)

  replay_ending : (uuid : List ℕ) (seed : ℕ) (set : Images) (outcome : Outcome) (r : Result Schedules ScriptRefused)
      → OnScript (λ (q : Schedules). OnImages (ReplayComes leaves uuid (record { lines = q.lines; seed = seed })) (Some set)) r outcome → outcome.ending ≡ ending_for seed uuid set r
  replay_ending uuid seed set outcome (Ok q) on =
      case_ending (Replay uuid seed) (loading set) outcome.ending (replay_loaded uuid seed (record { lines = q.lines; seed = seed }) (loading set) outcome (on set refl))
  replay_ending uuid seed set outcome (Err why) said = ending_of outcome (script_outcome why) said

  -- `import`, by its bytes
  import_found : (uuid bytes : List ℕ) (found : Result ImageSet LoadFault) (outcome : Outcome) → OnLoaded (ImportComes uuid bytes) found outcome → outcome.ending ≡ ending_scripted (Import uuid) bytes found
  import_found uuid bytes (Ok loaded) outcome comes = import_ends uuid bytes loaded outcome comes
  import_found uuid bytes (Err fault) outcome comes = ending_of outcome _ comes

  abbrev import_for : List ℕ → List ℕ → Images → Result (List ℕ) ScriptRefused → Ending
  import_for uuid script set r = if is_err r then ending.Usage else ending_scripted (Import uuid) script (loading set)

  import_ending : (uuid script : List ℕ) (set : Images) (outcome : Outcome) (r : Result (List ℕ) ScriptRefused) → ((bytes : List ℕ) → r ≡ Ok bytes → bytes ≡ script)
      → OnScript (λ (bytes : List ℕ). OnImages (ImportComes uuid bytes) (Some set)) r outcome → outcome.ending ≡ import_for uuid script set r
  import_ending uuid script set outcome (Ok bytes) same on =
      import_found uuid bytes (loading set) outcome (on set refl) ∙ ap (λ (bs : List ℕ). ending_scripted (Import uuid) bs (loading set)) (same bytes refl)
  import_ending uuid script set outcome (Err why) same said = ending_of outcome (script_outcome why) said

  script_ending : (command : CommandLine) (script : List ℕ) (set : Images) (outcome : Outcome) → Comes leaves command (Some set) script outcome → outcome.ending ≡ ending_on_set (Some command) script set
  script_ending (Labels m) script set outcome comes = plain_ending (Labels m) set outcome comes
  script_ending Nfit script set outcome comes = plain_ending Nfit set outcome comes
  script_ending command.List script set outcome comes = plain_ending command.List set outcome comes
  script_ending (Init m power) script set outcome comes = plain_ending (Init m power) set outcome comes
  script_ending (Change c power) script set outcome comes = plain_ending (Change c power) set outcome comes
  script_ending (Info uuid) script set outcome comes = plain_ending (Info uuid) set outcome comes
  script_ending (Check uuid repair) script set outcome comes = plain_ending (Check uuid repair) set outcome comes
  script_ending CheckSet script set outcome comes = ending_of outcome (set_check_outcome set) (comes set refl)
  script_ending RepairSet script set outcome comes = plain_ending RepairSet set outcome comes
  script_ending (Read uuid sector) script set outcome comes = plain_ending (Read uuid sector) set outcome comes
  script_ending (Write uuid sector value) script set outcome comes = plain_ending (Write uuid sector value) set outcome comes
  script_ending (Export uuid zeros) script set outcome comes = plain_ending (Export uuid zeros) set outcome comes
  script_ending (Rescue uuid listing) script set outcome comes = plain_ending (Rescue uuid listing) set outcome comes
  script_ending (Import uuid) script set outcome comes = import_ending uuid script set outcome (bytes_in script) (bytes_same script) comes
  script_ending (Serve running) script set outcome comes = serve_ending (leaves running.seed) set outcome (script_in script_reading script) comes
  script_ending (Load l workers) script set outcome comes = plain_ending (Load l workers) set outcome comes
  script_ending (Replay uuid seed) script set outcome comes = replay_ending uuid seed set outcome (script_in replay_reading script) comes

  due_by : (words : List (List ℕ)) (set : Images) (script : List ℕ) (left : Option (List ℕ)) (outcome : Outcome) (found : Option CommandLine) → command_of words ≡ found
      → MatchOption found ⊤ (λ command. IsTrue (reads_script command) → left ≡ Some script)
      → MatchOption found (outcome ≡ usage) (λ command. ComesTold leaves command (Some set) left outcome) → outcome.ending ≡ ending_due words script set
  due_by words set script left outcome None is told due = ending_of outcome _ due ∙ sym (ap (λ (o : Option CommandLine). ending_on_set o script set) is)
  due_by words set script left outcome (Some command) is told due =
      script_ending command script set outcome (due script told) ∙ sym (ap (λ (o : Option CommandLine). ending_on_set o script set) is)

  pub status_due : StatusIsDue leaves
  status_due words set script left made made' text text' images images' source source' status.ReadFault told ends = inr tt
  status_due words set script left made made' text text' images images' source source' status.WriteFault told ends = inr tt
  status_due words set script left made made' text text' images images' source source' status.OutOfMemory told ends = inr tt
  status_due words set script left made made' text text' images images' source source' other told ends = inl (sym ends.2 ∙ ap status_of (due_by words set script left ends.0 (command_of words) refl told ends.1))
