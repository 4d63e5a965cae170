-- What `check --repair` of a whole set writes and prints: this project's rules.
use Rattle.std.specs.Prelude.{ℕ, ◌+◌, List, [], ◌∷◌, ◌++◌, length, map, Option, Some, None, codes}
use Rattle.std.specs.Option.{ForSome, option_map}
use Rattle.nvd_media.specs.Images.{Images}
use Rattle.cut_words.specs.WordBytes.{bytes_of, words_in}
use Rattle.label_index.specs.declared.index.Side.{Side}
use Rattle.label_index.specs.declared.index.Side.TheVariants as side
use Rattle.label_repair.specs.declared.repair.IndexRepair.{IndexRepair}
use Rattle.label_repair.specs.Repair.{repair_in, repaired_words}
use Rattle.image_set.specs.declared.outline.Outline.{Outline}
use Rattle.image_set.specs.Changed.{objects_of}
use Rattle.image_set.specs.Load.{ImageSet}
use Rattle.image_set.specs.Outline.{contents_in, image_set_with}
use Rattle.shell_changes.specs.declared.answer.Answer.{Answer}
use Rattle.shell_changes.specs.Answers.{HasSizes, outcome_with}
use Rattle.shell_reports.specs.declared.status.Ending.TheVariants as ending
use Rattle.shell_reports.specs.Causes.{fault_in}
use Rattle.shell_reports.specs.Outcome.{Outcome, joined, lf}
use Rattle.shell_reports.specs.Saved.{IsSaving}
use Rattle.shell_check.specs.Text.{last_line}
use Rattle.shell_set_check.specs.Text.{faults_in, side_text}
use Rattle.shell_set_check.specs.Whole.{arenas_by, outline_lines}

-- ---- the lines of repairs

abbrev pub side_number : Side → ℕ
side_number side.Zero = 0
side_number side.One = 1

-- repaired labels M index SIDE FAULT: the side that is written, and why its block was refused
abbrev pub repair_line : ℕ → IndexRepair → List ℕ
repair_line m repair = joined (codes "repaired " ∷ side_text m (side_number repair.block.side) repair.fault ∷ lf ∷ [])

abbrev pub repair_part : ℕ → Option IndexRepair → List ℕ
repair_part m None = []
repair_part m (Some repair) = repair_line m repair

-- of a module's label area, if it has one
abbrev pub repair_part_of : ℕ → Option (List ℕ) → List ℕ
repair_part_of m None = []
repair_part_of m (Some area) = repair_part m (repair_in area)

-- of all label areas, from that of a module on
abbrev pub repair_lines : ℕ → List (Option (List ℕ)) → List ℕ
repair_lines m [] = []
repair_lines m (area ∷ areas) = repair_part_of m area ++ repair_lines (m + 1) areas

-- ---- the set

-- the bytes of a label area after it is repaired
abbrev pub repaired_area : List ℕ → List ℕ
repaired_area area = bytes_of (repaired_words (words_in area))

-- a set with all its label areas repaired
abbrev pub repaired_set : ImageSet → ImageSet
repaired_set loaded = record {
  nfit = loaded.nfit;
  nfit_bytes = loaded.nfit_bytes;
  labels = map (option_map repaired_area) loaded.labels;
  contents = loaded.contents;
  bad = loaded.bad;
}

-- ---- what is printed

-- the lines of `check` on a set that is loaded, but the last one
abbrev pub loaded_lines : ImageSet → List ℕ
loaded_lines loaded = outline_lines loaded.nfit [] loaded.labels loaded.bad ++ arenas_by loaded (fault_in loaded)

-- with the last one
abbrev pub with_last_line : List ℕ → List ℕ
with_last_line lines = lines ++ last_line (faults_in lines)

-- what was repaired, and then what `check` prints of the set that is saved
abbrev pub repair_text : ImageSet → List ℕ
repair_text loaded = repair_lines 0 loaded.labels ++ with_last_line (loaded_lines (repaired_set loaded))

-- ---- the command

-- the command may come to this: the repaired set is saved, whatever faults are left
abbrev pub SetRepairComes : ImageSet → Outcome → Type 0
SetRepairComes loaded outcome = IsSaving ending.Done (repair_text loaded) (objects_of (repaired_set loaded)) outcome

-- An answer is what it comes to with the contents that the source has, as far as it reveals them.
pub record RepairsFrom (held : Option Images) (outline : Outline) (answer : Answer) : Type 0 where
  pub comes : ForSome held (λ source. SetRepairComes (image_set_with outline (contents_in source (length outline.sizes))) (outcome_with answer (contents_in source (length outline.sizes))))
  pub sizes : HasSizes outline.sizes answer
