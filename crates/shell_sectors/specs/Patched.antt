-- A set whose contents are copied with new bytes for namespaces: this project's rules.
use Rattle.std.specs.Prelude.{◌≡◌, ℕ, List, map, Option, Some}
use Rattle.std.specs.Option.{option_map}
use Rattle.cut_words.specs.Words.{Words}
use Rattle.nfit_reader.specs.declared.table.Mapping.{Mapping}
use Rattle.image_set.specs.declared.changing.OutlineLeft.{OutlineLeft}
use Rattle.image_set.specs.declared.changing.OutlineRest.{OutlineRest}
use Rattle.namespace_areas.specs.declared.found.Found.{Found}
use Rattle.namespace_areas.specs.Finding.{set_at}
use Rattle.namespace_bytes.specs.declared.new_bytes.NewBytes.{NewBytes}
use Rattle.namespace_bytes.specs.Patching.{ArePatched, AreWhole, BytePatch}
use Rattle.power_cut.specs.Namespace.{ReachEnds}
use Rattle.sector_namespaces.specs.View.{rows_of}
use Rattle.shell_changes.specs.declared.answer.Answer.{Answer}
use Rattle.shell_changes.specs.declared.answer.Left.TheVariants.{Patched}
use Rattle.shell_reports.specs.declared.status.Ending.TheVariants as ending
use Rattle.shell_reports.specs.Cut.{done_text}

-- a namespace that was found gets these
abbrev pub patch_of : List (List Mapping) → Found → NewBytes → BytePatch
patch_of sets found bytes = record { set = set_at sets found.region; offset = found.offset; raw = found.raw; bytes = bytes }

-- An answer prints this text, and saves a set of which these are the words of the label areas, and whose contents are copied and patched.
pub record PrintsPatched (text : List ℕ) (patches : List BytePatch) (rest : OutlineRest) (labels : List (Option Words)) (answer : Answer) : Type 0 where
  pub ends : answer.report.ending ≡ ending.Done
  pub says : answer.report.text.items ≡ text
  pub left : OutlineLeft
  pub saves : answer.saved ≡ Some (Patched left patches)
  pub nfit : left.nfit ≡ rest.nfit_bytes
  pub kept : left.labels ≡ map (option_map (λ w. w.kept)) labels
  pub sizes : left.sizes ≡ rest.sizes
  pub bad : left.bad ≡ rest.bad

-- the same with `ok` as the text
abbrev pub SavesPatched : List BytePatch → OutlineRest → List (Option Words) → Answer → Type 0
SavesPatched patches rest labels answer = PrintsPatched done_text patches rest labels answer

-- the patch puts the bytes there and nowhere else
abbrev pub Patches : List (List Mapping) → Found → BytePatch → Type 0
Patches sets found patch = (contents : List (List ℕ)) → AreWhole contents → ReachEnds (set_at sets found.region) (rows_of contents) → ArePatched patch contents
