-- Laws about what a run comes to.
use Rattle.std.specs.Prelude.{◌≡◌, ◌≢◌, ◌⊎◌, ℕ, ◌+◌, ◌*◌, ◌/◌, ◌<◌, ◌≤◌, Bool, List, length, Option, Some, None, Ok, ⊤, IsTrue, MatchOption}
use Rattle.nvd_media.specs.Causes.{Rose}
use Rattle.nvd_media.specs.Images.{Images, IsSameSet}
use Rattle.cut_words.specs.Words.{Words}
use Rattle.cut_words.specs.WordBytes.{bytes_of}
use Rattle.label_index.specs.declared.index.IndexBlock.{IndexBlock}
use Rattle.label_index.specs.declared.index.Side.TheVariants as side
use Rattle.label_index.specs.Area.{IsAreaSize}
use Rattle.label_index.specs.Index.{index_reading}
use Rattle.label_area.specs.Change.{count_of_steps}
use Rattle.label_area.specs.Init.{IsInitCut, empty_block}
use Rattle.label_area.specs.Initialise.{init_count, size_for, slots_for}
use Rattle.label_area.specs.Whole.{steps_under}
use Rattle.image_set.specs.Load.{ImageSet, area_of}
use Rattle.image_set.specs.Changed.{objects_of, with_area}
use Rattle.shell_reports.specs.declared.status.Status.{Status}
use Rattle.shell_reports.specs.declared.power.Power.{Power}
use Rattle.shell_reports.specs.Outcome.{Outcome, status_of}
use Rattle.shell_changes.specs.Init.{InitComes}
use Rattle.shell_changes.specs.Remains.{LeavesBy}
use Rattle.shell_run.specs.Run.{IsDue, Ends, copies_by, reads_script, streams_by}
use Rattle.shell_run.specs.Statuses.{IsFromOutside, ending_due}
use Rattle.shell_run.specs.Words.{command_of}

-- the script is told, if the words are those of a command that reads it
abbrev pub IsScriptTold : List (List ℕ) → Option (List ℕ) → List ℕ → Type 0
IsScriptTold words left script = MatchOption (command_of words) ⊤ (λ command. IsTrue (reads_script command) → left ≡ Some script)

-- a law: the status is the one that is due by the table, unless something outside failed or memory ran out
abbrev pub StatusIsDue : (ℕ → List (Option Words) → List (Option (List ℕ)) → Type 0) → Type 0
StatusIsDue leaves = (words : List (List ℕ)) (set : Images) (script : List ℕ) (left : Option (List ℕ)) (made made' : Option Images) (text text' : Option (List ℕ)) (images images' source source' : ℕ) (s : Status)
    → IsScriptTold words left script → Ends (Rose images images' ⊎ Rose source source') (copies_by words) (streams_by words) (IsDue leaves words (Some set) left) made made' text text' s
    → (s ≡ status_of (ending_due words script set)) ⊎ IsFromOutside s

-- ---- what `init` leaves

-- After n steps each of the two index blocks can be read whose steps are made, that of side One first, and the other can't; of one that lacks its last
-- step alone the chooser decides.
pub record HasBlocks (size slots n : ℕ) (left : List ℕ) : Type 0 where
  pub no_first : n + 1 < count_of_steps size None → (block : IndexBlock) → index_reading (bytes_of left) side.One ≢ Ok block
  pub first : count_of_steps size None ≤ n → index_reading (bytes_of left) side.One ≡ Ok (empty_block size slots side.One 2)
  pub no_second : n + 1 < 2 * count_of_steps size None → (block : IndexBlock) → index_reading (bytes_of left) side.Zero ≢ Ok block
  pub second : 2 * count_of_steps size None ≤ n → index_reading (bytes_of left) side.Zero ≡ Ok (empty_block size slots side.Zero 3)

-- an area after so many of the steps of `init`: one that has no index block, or an empty one, by `IsInitCut`; and no block but those of the steps
pub record IsLeftByInit (steps : Option ℕ) (area now : List ℕ) : Type 0 where
  pub values : List ℕ
  pub spelt : bytes_of values ≡ now
  pub shows : IsInitCut (size_for (length area / 8)) (slots_for (length area / 8)) (steps_under steps (init_count (length area / 8))) values
  pub blocks : HasBlocks (size_for (length area / 8)) (slots_for (length area / 8)) (steps_under steps (init_count (length area / 8))) values

-- a set that `init M` saves has an area that is left by so many of its steps, and all else as it was loaded
abbrev pub InitLeavesWhole : {C : Type 0} → (C → ℕ → C → Type 0) → (C → ℕ → Bool → C → Type 0) → C → Type 0
InitLeavesWhole begins picks choose = (m : ℕ) (power : Power) (loaded : ImageSet) (outcome : Outcome) (set : Images) (area : List ℕ)
    → InitComes (LeavesBy begins picks choose) m power loaded outcome → outcome.saved ≡ Some set → area_of loaded m ≡ Some area → IsAreaSize (length area)
    → (now : List ℕ) × IsSameSet set (objects_of (with_area loaded m now)) × IsLeftByInit power.steps area now
