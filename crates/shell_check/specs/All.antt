-- The findings in the arenas of all sector namespaces of a set: this project's rules over UEFI 2.10, chapter 6.
use Rattle.std.specs.Prelude.{◌≡◌, ℕ, false, List, [], ◌++◌, codes, length, map, sum_by, Option, Result, Ok, Err}
use Rattle.std.specs.Option.{ForSome}
use Rattle.std.specs.List.{flat_map}
use Rattle.nvd_media.specs.Images.{Images}
use Rattle.bad_ranges.specs.Bad.{bad_words}
use Rattle.power_cut.specs.Namespace.{Namespace, words_of}
use Rattle.image_set.specs.declared.outline.Outline.{Outline}
use Rattle.image_set.specs.Load.{ImageSet}
use Rattle.image_set.specs.Outline.{contents_in, image_set_with}
use Rattle.namespace_areas.specs.declared.found.Found.{Found}
use Rattle.namespace_map.specs.declared.refused.OpRefused.{OpRefused}
use Rattle.namespace_map.specs.Namespaces.{entries_of}
use Rattle.namespace_ops.specs.Opening.{sets_of}
use Rattle.arena_check.specs.declared.finding.Report.{Report}
use Rattle.arena_repair.specs.Chain.{reports_of}
use Rattle.shell_reports.specs.Causes.{found_in}
use Rattle.shell_reports.specs.List.{labels_in_set}
use Rattle.shell_reports.specs.Texts.{uuid_text}
use Rattle.shell_sectors.specs.Write.{loaded_words}
use Rattle.shell_check.specs.declared.all.ArenaLines.{ArenaLines}
use Rattle.shell_check.specs.Comes.{bad_in}
use Rattle.shell_check.specs.Text.{findings_in, report_lines}

-- the UUIDs that labels name, in ascending order
abbrev pub uuids_in : ImageSet → List (List ℕ)
uuids_in loaded = map (λ e. e.uuid) (entries_of (sets_of loaded.nfit) (labels_in_set loaded))

-- the reports on the arenas of a namespace, by its words and the bad ranges of each module
abbrev pub reports_over : Namespace → List (Option (List ℕ)) → List ℕ → List Report
reports_over e bad uuid = reports_of (bad_words e bad) (words_of e).kept uuid

-- only complete namespaces with sectors are found; of others there are none
abbrev pub reports_if : ImageSet → List ℕ → Result Found OpRefused → List Report
reports_if loaded uuid (Ok found) = reports_of (bad_in loaded found) (loaded_words loaded found) uuid
reports_if loaded uuid (Err refusal) = []

abbrev pub named_reports : ImageSet → List ℕ → List Report
named_reports loaded uuid = reports_if loaded uuid (found_in loaded uuid)

-- ---- lines

-- fault arena UUID, before the number of an arena
abbrev pub head_of : List ℕ → List ℕ
head_of uuid = codes "fault arena " ++ (uuid_text uuid ++ codes " ")

-- fault arena UUID K FINDING, for each finding
abbrev pub named_lines : ImageSet → List ℕ → List ℕ
named_lines loaded uuid = report_lines (head_of uuid) false 0 (named_reports loaded uuid)

-- those of namespaces, and how many findings these are
abbrev pub lines_for : ImageSet → List (List ℕ) → List ℕ
lines_for loaded uuids = flat_map (named_lines loaded) uuids

abbrev pub count_for : ImageSet → List (List ℕ) → ℕ
count_for loaded uuids = sum_by (λ uuid. findings_in false (named_reports loaded uuid)) uuids

-- those of all
abbrev pub arenas_text : ImageSet → List ℕ
arenas_text loaded = lines_for loaded (uuids_in loaded)

abbrev pub arenas_count : ImageSet → ℕ
arenas_count loaded = count_for loaded (uuids_in loaded)

-- ---- what was read

-- The lines of these reports, and how many findings they have.
pub record AreReported (uuid : List ℕ) (reports : List Report) (lines : ArenaLines) : Type 0 where
  pub text : lines.text.items ≡ report_lines (head_of uuid) false 0 reports
  pub count : lines.count ≡ findings_in false reports

-- The lines of these namespaces.
pub record AreOf (loaded : ImageSet) (uuids : List (List ℕ)) (lines : ArenaLines) : Type 0 where
  pub text : lines.text.items ≡ lines_for loaded uuids
  pub count : lines.count ≡ count_for loaded uuids

-- The lines of all sector namespaces of a set.
pub record AreOfAll (loaded : ImageSet) (lines : ArenaLines) : Type 0 where
  pub text : lines.text.items ≡ arenas_text loaded
  pub count : lines.count ≡ arenas_count loaded

-- it holds of an outline with the contents that the source has, as far as it reveals them
abbrev pub WithContents : Option Images → Outline → (ImageSet → Type 0) → Type 0
WithContents held outline P = ForSome held (λ source. P (image_set_with outline (contents_in source (length outline.sizes))))
