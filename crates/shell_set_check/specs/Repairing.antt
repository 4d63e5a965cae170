-- An outline whose label areas are repaired, and what is saved of it: this project's rules.
use Rattle.std.specs.Prelude.{◌≡◌, ℕ, List, ◌++◌, length, map, Option, Some}
use Rattle.std.specs.Option.{ForSome, option_map}
use Rattle.nvd_media.specs.Images.{Images}
use Rattle.cut_words.specs.Words.{Words, settled}
use Rattle.label_repair.specs.Repair.{repaired_words}
use Rattle.image_set.specs.declared.changing.OutlineLeft.{OutlineLeft}
use Rattle.image_set.specs.declared.outline.Outline.{Outline}
use Rattle.image_set.specs.Outline.{contents_in, image_set_with}
use Rattle.shell_changes.specs.declared.answer.Answer.{Answer}
use Rattle.shell_changes.specs.declared.answer.Left.TheVariants.{Copied}
use Rattle.shell_reports.specs.declared.status.Ending.TheVariants as ending
use Rattle.shell_set_check.specs.Repair.{loaded_lines, with_last_line}

-- the words of a label area after it is repaired, if the module has one
abbrev pub repaired_in : Option Words → Option Words
repaired_in area = option_map (λ w. settled (repaired_words w.kept)) area

abbrev pub repaired_outline : Outline → Outline
repaired_outline outline = record {
  nfit = outline.nfit;
  nfit_bytes = outline.nfit_bytes;
  labels = map repaired_in outline.labels;
  sizes = outline.sizes;
  bad = outline.bad;
}

-- an outline as it is saved
abbrev pub left_of : Outline → OutlineLeft
left_of outline = record {
  nfit = outline.nfit_bytes;
  labels = map (option_map (λ w. w.kept)) outline.labels;
  sizes = outline.sizes;
  bad = outline.bad;
}

-- An answer prints this text and saves this set.
pub record SavesLeft (text : List ℕ) (left : OutlineLeft) (answer : Answer) : Type 0 where
  pub ends : answer.report.ending ≡ ending.Done
  pub says : answer.report.text.items ≡ text
  pub saves : answer.saved ≡ Some (Copied left)

-- An answer saves an outline as it is, and prints these lines and then those of `check` on it, with the contents that the source
-- has, as far as it reveals them.
pub record ChecksLoaded (held : Option Images) (lines : List ℕ) (outline : Outline) (answer : Answer) : Type 0 where
  pub ends : answer.report.ending ≡ ending.Done
  pub says : ForSome held (λ source. answer.report.text.items ≡ lines ++ with_last_line (loaded_lines (image_set_with outline (contents_in source (length outline.sizes)))))
  pub saves : answer.saved ≡ Some (Copied (left_of outline))
