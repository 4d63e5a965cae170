-- The command `replay`: the lanes of one arena take their steps by a schedule, and power is cut. The algorithm is that of Linux's BTT
-- document, over UEFI 2.10, section 6.3; schedules and texts are this project's rules.
use Rattle.std.specs.Prelude.{◌≡◌, ℕ, ◌<◌, nat_lt, List, [], ◌∷◌, ◌++◌, length, Option, Some, codes, Ok, MatchBool}
use Rattle.std.specs.Fmt.{decimal}
use Rattle.cut_words.specs.Words.{Words}
use Rattle.cut_words.specs.WordBytes.{put_at}
use Rattle.arena_open.specs.declared.state.ArenaState.{ArenaState}
use Rattle.lane_core.specs.Held.{Held}
use Rattle.lane_core.specs.Reopening.{MaySurvive, first_cells}
use Rattle.lane_core.specs.Rows.{words_in}
use Rattle.lane_core.specs.Schedules.{opened_held}
use Rattle.session_script.specs.declared.schedule.ReplayLine.{ReplayLine}
use Rattle.lane_replay.specs.Asking.{ReplayStands}
use Rattle.lane_replay.specs.Playing.{replay_text, replayed}
use Rattle.power_cut.specs.Namespace.{words_of}
use Rattle.image_set.specs.Load.{ImageSet}
use Rattle.namespace_areas.specs.declared.found.Found.{Found}
use Rattle.sector_namespaces.specs.View.{opened_view, rows_of}
use Rattle.shell_reports.specs.declared.status.Ending.TheVariants as ending
use Rattle.shell_reports.specs.Faults.{held_text, most_held, refused_outcome}
use Rattle.shell_reports.specs.Outcome.{Outcome}
use Rattle.shell_sectors.specs.Found.{OnSet, SavesNamespace, place_of}
use Rattle.shell_replay.specs.declared.schedule.Schedule.{Schedule}

-- ---- the schedule

-- what the lanes hold after the last line
abbrev pub held_at_end : ArenaState → List ReplayLine → Held
held_at_end state lines = (replayed (opened_held state) lines).held

-- Words open as the one arena of a namespace, and each sector has the cell at the end of the history of the calls, or the words of one
-- write in flight.
pub record ReopensIn (uuid : List ℕ) (state : ArenaState) (held : Held) (now : List ℕ) : Type 0 where
  pub new : ArenaState
  pub opens : opened_view now uuid ≡ Ok (new ∷ [])
  pub info : new.info ≡ state.info
  pub sectors : (sector : ℕ) → sector < state.info.layout.external → MaySurvive (first_cells state) held sector (first_cells new sector)

-- The words of a namespace of one arena after a schedule and a power cut. `leaves` says what rows of words may be after a crash, by
-- the number from which the chooser is begun.
pub record HasReplayed (leaves : ℕ → List (Option Words) → List (Option (List ℕ)) → Type 0) (uuid : List ℕ) (schedule : Schedule) (state : ArenaState) (was now : List ℕ) : Type 0 where
  -- the arena's words after the cut: the chooser decides for each pending word, in rising order
  pub left : List ℕ
  pub cut : leaves schedule.seed (Some (words_in (held_at_end state schedule.lines).row) ∷ []) (Some left ∷ [])
  -- they are the namespace's first words, and all others are as they were
  pub words : now ≡ put_at was 0 left
  -- The lines are calls and steps whose history is legal from the arena's cells. It has each answer once, and else only what stands
  -- of calls that lanes are in. Whatever else the cut could have left would open again too.
  pub stands : ReplayStands state schedule.lines
  pub reopens : ReopensIn uuid state (held_at_end state schedule.lines) now

-- ---- the command

-- a namespace has another number of arenas than one
abbrev pub arenas_refusal : ℕ → List ℕ
arenas_refusal count = codes "Arenas " ++ decimal count

-- the loaded set is saved, with what the schedule and the cut leave in the namespace; labels aren't recovered
abbrev pub Replays : (ℕ → List (Option Words) → List (Option (List ℕ)) → Type 0) → List ℕ → Schedule → ImageSet → Outcome → Found → ArenaState → Type 0
Replays leaves uuid schedule loaded outcome found state =
    SavesNamespace found loaded (HasReplayed leaves uuid schedule state (words_of (place_of loaded found (rows_of loaded.contents))).kept)
    ending.Done (replay_text (opened_held state) schedule.lines) outcome

-- on the arenas of a namespace: one that isn't too large to be opened in memory
abbrev pub ReplaysArenas : (ℕ → List (Option Words) → List (Option (List ℕ)) → Type 0) → List ℕ → Schedule → ImageSet → Outcome → Found → List ArenaState → Type 0
ReplaysArenas leaves uuid schedule loaded outcome found (state ∷ []) =
    MatchBool (nat_lt most_held state.info.layout.size) (outcome ≡ refused_outcome (held_text state.info.layout.size)) (Replays leaves uuid schedule loaded outcome found state)
ReplaysArenas leaves uuid schedule loaded outcome found states = outcome ≡ refused_outcome (arenas_refusal (length states))

-- what the command may come to on a set that is loaded
abbrev pub ReplayComes : (ℕ → List (Option Words) → List (Option (List ℕ)) → Type 0) → List ℕ → Schedule → ImageSet → Outcome → Type 0
ReplayComes leaves uuid schedule loaded outcome = OnSet (ReplaysArenas leaves uuid schedule loaded outcome) uuid loaded outcome
