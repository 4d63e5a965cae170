-- The commands `create`, `delete` and `rename`: UEFI 2.10, sections 6.2 (BTT arena) and 13.19 (labels), with this project's rules.
use Rattle.std.specs.Prelude.{◌≡◌, ℕ, Bool, List, [], ◌∷◌, ◌++◌, map, Option, Some, None, is_some, Result, Ok, Err, MatchBool, false, not}
use Rattle.nvd_media.specs.Images.{Images}
use Rattle.nvd_words.specs.Checks.{first_fault, value_unless}
use Rattle.nfit_reader.specs.declared.table.Mapping.{Mapping}
use Rattle.cut_words.specs.Words.{Words}
use Rattle.cut_words.specs.Fuses.{burnt, lasts}
use Rattle.power_cut.specs.Left.{Each, IsLeftOf}
use Rattle.namespace_areas.specs.Seen.{areas_shown}
use Rattle.namespace_areas.specs.Steps.{all_rows, words_after}
use Rattle.namespace_map.specs.declared.commands.Command.{Command}
use Rattle.namespace_map.specs.declared.refused.OpRefused.{OpRefused}
use Rattle.namespace_map.specs.Areas.{Area, all_changed, steps_of_all, IsLeftBy}
use Rattle.namespace_map.specs.Commands.{refusal_of}
use Rattle.namespace_map.specs.Changes.{namespaces_of, placed_in_all, changes_of, recovery_changes, recovered_areas}
use Rattle.namespace_ops.specs.declared.registry.OpenFault.{OpenFault}
use Rattle.namespace_ops.specs.Opening.{set_fault_from, sets_of, overlap_fault}
use Rattle.image_set.specs.Load.{ImageSet}
use Rattle.shell_reports.specs.declared.status.Ending.TheVariants as ending
use Rattle.shell_reports.specs.declared.power.Power.{Power}
use Rattle.shell_reports.specs.Outcome.{Outcome}
use Rattle.shell_reports.specs.Saved.{IsSaving}
use Rattle.shell_reports.specs.Cut.{cut_text, done_text}
use Rattle.shell_reports.specs.List.{open_outcome}
use Rattle.shell_changes.specs.Areas.{areas_in, rows_in, HasRows}
use Rattle.shell_reports.specs.Faults.{refusal_text, refused_outcome}
use Rattle.shell_changes.specs.Work.{Formats, Work, arena_of, begun, label_changes, label_steps, steps_of_work}

-- the interleave sets of a set whose namespaces can be told, or the first fault: a region that is no interleave set; extents of two
-- UUIDs that meet
abbrev pub sets_in : ImageSet → Result (List (List Mapping)) OpenFault
sets_in loaded = value_unless (sets_of loaded.nfit) (first_fault (set_fault_from 0 loaded.nfit.regions ∷ overlap_fault (placed_in_all (areas_in loaded.labels)) ∷ []))

-- ---- after all steps, and after a cut

-- all work is done: the set is saved with the words of its label areas after their last store and keep, and with the arena, if one is made
pub record IsDone (loaded : ImageSet) (areas : List (Option Area)) (work : Work) (outcome : Outcome) : Type 0 where
  -- these show what the changes make of the areas
  pub shown : areas_shown (all_rows (rows_in loaded) (label_changes work)) ≡ all_changed areas (label_changes work)
  pub contents : List Words
  pub contents_left : List (List ℕ)
  pub now : ImageSet
  pub formats : Formats work.arena loaded None contents contents_left now
  pub set : Images
  pub has : HasRows now (all_rows (rows_in loaded) (label_changes work)) set
  pub saves : IsSaving ending.Done done_text set outcome

-- power is cut within the work: the set is saved as it is after the crash. The chooser picks first in the words of the label areas, after their
-- first stores and keeps, and then in the contents, if a format has begun
pub record IsPowerCut (leaves : ℕ → List (Option Words) → List (Option (List ℕ)) → Type 0) (loaded : ImageSet) (areas : List (Option Area)) (work : Work) (power : Power) (outcome : Outcome) : Type 0 where
  pub steps : ℕ
  pub given : power.steps ≡ Some steps
  -- whatever label areas are there after the crash, they show the changes that a crash may leave
  pub leave : (rows : List (Option (List ℕ))) → Each IsLeftOf (words_after (rows_in loaded) (label_changes work) (label_steps areas work steps)) rows
      → IsLeftBy areas (label_changes work) (label_steps areas work steps) (areas_shown rows)
  pub contents : List Words
  pub contents_left : List (List ℕ)
  pub now : ImageSet
  pub formats : Formats (begun (lasts power.steps (steps_of_all areas work.recovery)) work.arena) loaded (burnt power.steps (steps_of_all areas work.recovery)) contents contents_left now
  -- what the chooser leaves, label areas first
  pub rows : List (Option (List ℕ))
  pub asked : leaves power.seed (words_after (rows_in loaded) (label_changes work) (label_steps areas work steps) ++ map (λ words. Some words) contents) (rows ++ map (λ row. Some row) contents_left)
  pub left_of : Each IsLeftOf (words_after (rows_in loaded) (label_changes work) (label_steps areas work steps)) rows
  pub set : Images
  pub has : HasRows now rows set
  pub saves : IsSaving ending.PowerCut (cut_text steps) set outcome

-- ---- a command

-- the first reason for which a command is refused once recovery has made its changes
abbrev pub refusal_in : List (List Mapping) → List (Option Area) → Command → Option OpRefused
refusal_in sets areas c = refusal_of (namespaces_of sets (recovered_areas sets areas)) c

-- recovery, and then a command that isn't refused, on the namespaces that recovery has made
abbrev pub work_by : List (List Mapping) → List (Option Area) → Command → Option OpRefused → Work
work_by sets areas c (Some refused) = record { recovery = recovery_changes sets areas; arena = None; own = [] }
work_by sets areas c None = record {
  recovery = recovery_changes sets areas;
  arena = arena_of (namespaces_of sets (recovered_areas sets areas)) c;
  own = changes_of (namespaces_of sets (recovered_areas sets areas)) (recovered_areas sets areas) c;
}

abbrev pub work_in : List (List Mapping) → List (Option Area) → Command → Work
work_in sets areas c = work_by sets areas c (refusal_in sets areas c)

-- with power to the end: of a command that is refused nothing is saved, what recovery made neither
abbrev pub Ends : ImageSet → List (Option Area) → Work → Option OpRefused → Outcome → Type 0
Ends loaded areas work None outcome = IsDone loaded areas work outcome
Ends loaded areas work (Some refused) outcome = outcome ≡ refused_outcome (refusal_text refused)

-- a command, by how long power lasts
abbrev pub Goes : (ℕ → List (Option Words) → List (Option (List ℕ)) → Type 0) → ImageSet → List (Option Area) → Work → Option OpRefused → Power → Outcome → Type 0
Goes leaves loaded areas work refusal power outcome =
    MatchBool (lasts power.steps (steps_of_work areas work)) (Ends loaded areas work refusal outcome) (IsPowerCut leaves loaded areas work power outcome)

abbrev pub OnSets : (ℕ → List (Option Words) → List (Option (List ℕ)) → Type 0) → ImageSet → Command → Power → Result (List (List Mapping)) OpenFault → Outcome → Type 0
OnSets leaves loaded c power (Ok sets) outcome =
    let areas = areas_in loaded.labels in Goes leaves loaded areas (work_in sets areas c) (refusal_in sets areas c) power outcome
OnSets leaves loaded c power (Err fault) outcome = outcome ≡ open_outcome fault

-- What a command on namespaces may come to on a set that is loaded, whose label areas have a label area's size. `leaves` says what
-- rows of words may be after a crash, by the number from which the chooser is begun.
abbrev pub ChangeComes : (ℕ → List (Option Words) → List (Option (List ℕ)) → Type 0) → Command → Power → ImageSet → Outcome → Type 0
ChangeComes leaves c power loaded outcome = OnSets leaves loaded c power (sets_in loaded) outcome

-- ---- what the table of exit statuses asks

abbrev pub refuses_by : List (Option Area) → Command → Result (List (List Mapping)) OpenFault → Bool
refuses_by areas c (Ok sets) = is_some (refusal_in sets areas c)
refuses_by areas c (Err fault) = false

-- a command is refused by its own rules, once recovery has made its changes
abbrev pub refuses : ImageSet → Command → Bool
refuses loaded c = refuses_by (areas_in loaded.labels) c (sets_in loaded)

abbrev pub is_short_by : List (Option Area) → Command → Option ℕ → Result (List (List Mapping)) OpenFault → Bool
is_short_by areas c steps (Ok sets) = not (lasts steps (steps_of_work areas (work_in sets areas c)))
is_short_by areas c steps (Err fault) = false

-- its work takes more steps than power lasts for
abbrev pub is_short : ImageSet → Command → Option ℕ → Bool
is_short loaded c steps = is_short_by (areas_in loaded.labels) c steps (sets_in loaded)
