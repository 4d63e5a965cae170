-- What the command `check` comes to: this project's rules over UEFI 2.10, chapter 6.
use Rattle.std.specs.Prelude.{◌≡◌, ℕ, Bool, List, length, Option, Result, Ok, Err, MatchBool, MatchOption}
use Rattle.std.specs.Option.{ForSome}
use Rattle.nvd_media.specs.Images.{Images}
use Rattle.bad_ranges.specs.Bad.{bad_words}
use Rattle.image_set.specs.declared.outline.Outline.{Outline}
use Rattle.image_set.specs.Changed.{objects_of}
use Rattle.image_set.specs.Load.{ImageSet}
use Rattle.image_set.specs.Outline.{contents_in, image_set_with}
use Rattle.namespace_areas.specs.declared.found.Found.{Found}
use Rattle.namespace_map.specs.declared.refused.OpRefused.{OpRefused}
use Rattle.sector_namespaces.specs.View.{rows_of}
use Rattle.shell_changes.specs.declared.answer.Answer.{Answer}
use Rattle.shell_changes.specs.Answers.{HasSizes, outcome_with}
use Rattle.shell_reports.specs.declared.status.Ending.TheVariants as ending
use Rattle.shell_reports.specs.Causes.{fault_in, found_in}
use Rattle.shell_reports.specs.Faults.{refusal_text, refused_outcome}
use Rattle.shell_reports.specs.List.{open_outcome}
use Rattle.shell_reports.specs.Outcome.{Outcome}
use Rattle.shell_reports.specs.Saved.{IsSaving}
use Rattle.shell_sectors.specs.Found.{SavesNamespace, place_of}
use Rattle.shell_sectors.specs.Write.{loaded_words}
use Rattle.arena_repair.specs.Chain.{AreRepaired, reports_of}
use Rattle.shell_check.specs.Text.{check_text}

-- which words of a namespace are bad, by the bad ranges of its modules
abbrev pub bad_in : ImageSet → Found → ℕ → Bool
bad_in loaded found = bad_words (place_of loaded found (rows_of loaded.contents)) loaded.bad

-- what is printed of a namespace
abbrev pub text_for : ImageSet → List ℕ → Bool → Found → List ℕ
text_for loaded uuid repair found = check_text repair (reports_of (bad_in loaded found) (loaded_words loaded found) uuid)

-- on a namespace that was found: its arenas are repaired, or the set is saved as it was loaded
abbrev pub OnFound : List ℕ → Bool → ImageSet → Outcome → Found → Type 0
OnFound uuid repair loaded outcome found =
    MatchBool repair (SavesNamespace found loaded (AreRepaired (bad_in loaded found) uuid (loaded_words loaded found)) ending.Done (text_for loaded uuid repair found) outcome)
    (IsSaving ending.Done (text_for loaded uuid repair found) (objects_of loaded) outcome)

-- on the namespace, or why it isn't found
abbrev pub OnNamed : List ℕ → Bool → ImageSet → Outcome → Result Found OpRefused → Type 0
OnNamed uuid repair loaded outcome (Ok found) = OnFound uuid repair loaded outcome found
OnNamed uuid repair loaded outcome (Err refusal) = outcome ≡ refused_outcome (refusal_text refusal)

-- what the command may come to: the table and the labels are checked, then the namespace is found, and then its arenas are checked
abbrev pub CheckComes : List ℕ → Bool → ImageSet → Outcome → Type 0
CheckComes uuid repair loaded outcome = MatchOption (fault_in loaded) (OnNamed uuid repair loaded outcome (found_in loaded uuid)) (λ fault. outcome ≡ open_outcome fault)

-- An answer is what `check` comes to with the contents that the source has, as far as it reveals them.
pub record ChecksFrom (held : Option Images) (uuid : List ℕ) (repair : Bool) (outline : Outline) (answer : Answer) : Type 0 where
  pub comes : ForSome held (λ source. CheckComes uuid repair (image_set_with outline (contents_in source (length outline.sizes))) (outcome_with answer (contents_in source (length outline.sizes))))
  pub sizes : HasSizes outline.sizes answer
