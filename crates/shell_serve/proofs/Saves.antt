-- The set that is saved after sessions.
use Rattle.std.proofs.Common.{◌≡◌, ℕ, List, [], ◌∷◌, length, map, get_or, Option, None, Some, refl, sym, ap, ◌∙◌, subst}
use Rattle.std.specs.Prelude.{IfSome, slice_get}
use Rattle.std.specs.Option.{option_map}
use Rattle.std.proofs.Math.ListN.{get_or-map}
use Rattle.std.proofs.lemmas.Simd.{map-map}
use Rattle.cut_words.specs.Words.{Words, settled}
use Rattle.cut_words.specs.WordBytes.{bytes_of, words_in}
use Rattle.nvd_media.specs.declared.object.Object.TheVariants as object
use Rattle.nvd_media.specs.Images.{IsSameSet}
use Rattle.image_set.specs.declared.changing.OutlineRest.{OutlineRest}
use Rattle.image_set.specs.Changed.{objects_of}
use Rattle.image_set.specs.Load.{ImageSet}
use Rattle.image_set.specs.Outline.{objects_with}
use Rattle.image_set.specs.Patches.{patched_contents}
use Rattle.namespace_areas.specs.declared.area.Area.{Area}
use Rattle.namespace_areas.specs.Seen.{AreLeft as AreasLeft, areas_shown}
use Rattle.namespace_bytes.specs.Patching.{BytePatch, all_patched}
use Rattle.sector_namespaces.specs.View.{rows_of}
use Rattle.shell_changes.specs.declared.answer.Answer.{Answer}
use Rattle.shell_changes.specs.declared.answer.Left.{Left}
use Rattle.shell_changes.specs.declared.answer.Left.TheVariants.{Patched}
use Rattle.shell_changes.specs.Answers.{HasSizes, outcome_with}
use Rattle.shell_changes.specs.Areas.{area_in, with_labels}
use Rattle.shell_changes.specs.Saved.{HasSize, contents_with, objects_saved}
use Rattle.shell_changes.proofs.Areas.{rows_shown, sized_all, unread_all}
use Rattle.shell_reports.specs.declared.outcome.Report.{Report}
use Rattle.shell_reports.specs.declared.status.Ending.{Ending}
use Rattle.shell_reports.specs.declared.status.Ending.TheVariants as ending
use Rattle.shell_reports.specs.Outcome.{Outcome}
use Rattle.shell_reports.specs.Saved.{IsSaving}
use Rattle.shell_sectors.specs.Found.{with_contents}
use Rattle.shell_serve.specs.declared.recovered.RecoveredSet.{RecoveredSet}
use Rattle.shell_serve.specs.Recovered.{KeepsLabels}
use Rattle.shell_serve.specs.Saving.{SavesLeft}
use Rattle.shell_serve.specs.Serving.{SavesParts}

-- ---- label areas

-- the set that is saved has the label areas that are left
pub saves_parts : (loaded : ImageSet) (areas : List Area) (keeps : KeepsLabels loaded.labels areas) (labels : List (Option (List ℕ))) (rows : List (List ℕ)) (end : Ending) (said text : List ℕ) (outcome : Outcome) → AreasLeft areas labels → end ≡ ending.Done → said ≡ text
    → IsSaving end said (objects_of (with_labels (with_contents loaded rows) (map (option_map bytes_of) labels))) outcome → SavesParts text loaded (areas_shown labels) labels rows outcome
saves_parts loaded areas keeps labels rows end said text outcome left ends says saves =
    let unread : (m : ℕ) → area_in (get_or loaded.labels m None) ≡ None → get_or (map (option_map bytes_of) labels) m None ≡ get_or loaded.labels m None =
    λ m none.
    unread_all keeps.words areas labels keeps.beside left m (ap (λ (ls : List (Option (List ℕ))). area_in (get_or ls m None)) (sym keeps.are) ∙ none) ∙ ap (λ (ls : List (Option (List ℕ))). get_or ls m None) (sym keeps.are) in
    let sizes : map (option_map length) (map (option_map bytes_of) labels) ≡ map (option_map length) loaded.labels =
    sized_all keeps.words areas labels keeps.beside keeps.sizes left ∙ ap (map (option_map length)) (sym keeps.are) in
    record {
      set = objects_of (with_labels (with_contents loaded rows) (map (option_map bytes_of) labels));
      shown = refl;
      words = record { unread = unread; sizes = sizes; objects = λ object. refl };
      has = record { labels = map (option_map bytes_of) labels; shown = rows_shown labels; unread = unread; sizes = sizes; objects = λ object. refl };
      saves = record { ends = saves.ends ∙ ends; says = saves.says ∙ says; saved = saves.saved; saves = saves.saves; same = saves.same };
    }

-- ---- contents that are copied and patched

module _ (loaded : ImageSet) (contents : List (List ℕ)) (set : RecoveredSet) (nfit : loaded.nfit_bytes ≡ set.rest.nfit_bytes) (bad : loaded.bad ≡ set.rest.bad) (patch : List BytePatch) where
  -- the words of all modules, with the bytes put in
  abbrev pub rows_with : List (List ℕ)
  rows_with = map words_in (patched_contents (all_patched patch) contents)

  pub rows_same : map settled (map words_in (patched_contents (all_patched patch) contents)) ≡ rows_of (patched_contents (all_patched patch) contents)
  rows_same = map-map settled words_in (patched_contents (all_patched patch) contents)

  module _ {leaves : List (Option Words) → List (Option (List ℕ)) → Type 0} (report : Report) (areas : List Area) (answer : Answer) (s : SavesLeft leaves report areas set.rest patch answer) where
    same_objects : IsSameSet (objects_with s.left (contents_with patch contents)) (objects_of (with_labels (with_contents loaded (map words_in (patched_contents (all_patched patch) contents))) (map (option_map bytes_of) s.left.labels)))
    unfolding objects_of
    same_objects object.Mark = refl
    same_objects object.Nfit = ap (λ (bytes : List ℕ). Some bytes) (s.nfit ∙ sym nfit)
    same_objects (object.Labels k) = sym (get_or-map (option_map bytes_of) s.left.labels k None)
    same_objects (object.Contents k) = ap (λ (cs : List (List ℕ)). slice_get cs k) (sym (map-map bytes_of words_in (patched_contents (all_patched patch) contents)))
    same_objects (object.BadRanges k) = ap (λ (bs : List (Option (List ℕ))). get_or bs k None) (s.bad ∙ sym bad)

    pub is_saving : IsSaving report.ending report.text.items (objects_of (with_labels (with_contents loaded (map words_in (patched_contents (all_patched patch) contents))) (map (option_map bytes_of) s.left.labels))) (outcome_with answer contents)
    is_saving = record {
      ends = ap (λ (r : Report). r.ending) s.is;
      says = ap (λ (r : Report). r.text.items) s.is;
      saved = objects_saved contents (Patched s.left patch);
      saves = ap (option_map (objects_saved contents)) s.saves;
      same = same_objects;
    }

-- the contents that are copied have the outline's sizes
pub sizes_left : {leaves : List (Option Words) → List (Option (List ℕ)) → Type 0} (report : Report) (areas : List Area) (rest own : OutlineRest) (patch : List BytePatch) (answer : Answer) → rest ≡ own → SavesLeft leaves report areas rest patch answer → HasSizes own.sizes answer
sizes_left report areas rest own patch answer same s = subst (λ (saved : Option Left). IfSome saved (HasSize own.sizes)) (sym s.saves) (s.sizes ∙ ap (λ (r : OutlineRest). r.sizes) same)
