-- A set that is saved as it was loaded.
use Rattle.std.proofs.Common.{◌≡◌, ℕ, List, [], ◌∷◌, map, get_or, Option, Some, None, refl, sym, ap, ◌∙◌, subst}
use Rattle.std.specs.Prelude.{IfSome}
use Rattle.std.specs.Option.{option_map}
use Rattle.std.proofs.Math.ListN.{get_or-map}
use Rattle.cut_words.specs.Words.{Words}
use Rattle.cut_words.specs.WordBytes.{bytes_of}
use Rattle.nvd_media.specs.declared.object.Object.TheVariants as object
use Rattle.nvd_media.specs.Images.{IsSameSet}
use Rattle.image_set.specs.declared.changing.OutlineRest.{OutlineRest}
use Rattle.image_set.specs.declared.outline.Outline.{Outline}
use Rattle.image_set.specs.Changed.{objects_of}
use Rattle.image_set.specs.Load.{bytes_kept}
use Rattle.image_set.specs.Outline.{image_set_with, objects_with}
use Rattle.namespace_areas.specs.Seen.{words_of as area_words}
use Rattle.namespace_ops.specs.Registered.{Registered}
use Rattle.shell_changes.specs.declared.answer.Answer.{Answer}
use Rattle.shell_changes.specs.declared.answer.Left.{Left}
use Rattle.shell_changes.specs.declared.answer.Left.TheVariants.{Copied}
use Rattle.shell_changes.specs.Answers.{HasSizes, outcome_with}
use Rattle.shell_changes.specs.Saved.{HasSize, objects_saved}
use Rattle.shell_reports.specs.declared.status.Ending.TheVariants as ending
use Rattle.shell_reports.specs.Saved.{IsSaving}
use Rattle.shell_sectors.specs.Opening.{IsOpenOutline}
use Rattle.shell_check.specs.Saving.{PrintsCopied}

labels_back : (labels : List (Option Words)) → map (option_map bytes_of) (map (option_map (λ w. w.kept)) labels) ≡ map (option_map bytes_kept) labels
labels_back [] = refl
labels_back (None ∷ labels) = ap (λ (ls : List (Option (List ℕ))). None ∷ ls) (labels_back labels)
labels_back (Some w ∷ labels) = ap (λ (ls : List (Option (List ℕ))). Some (bytes_of w.kept) ∷ ls) (labels_back labels)

module _ {text : List ℕ} (outline : Outline) (registry : Registered) (rest : OutlineRest) (o : IsOpenOutline outline registry rest) (answer : Answer)
    (s : PrintsCopied text rest (map area_words registry.areas) answer) where
  pub sizes_saved : HasSizes outline.sizes answer
  sizes_saved = subst (λ (saved : Option Left). IfSome saved (HasSize outline.sizes)) (sym s.saves) (s.sizes ∙ ap (λ (r : OutlineRest). r.sizes) o.rest_is)

  module _ (contents : List (List ℕ)) where
    labels_same : map (option_map bytes_of) s.left.labels ≡ map (option_map bytes_kept) outline.labels
    labels_same = ap (map (option_map bytes_of)) (s.kept ∙ ap (map (option_map (λ w. w.kept))) o.labels) ∙ labels_back outline.labels

    same_objects : IsSameSet (objects_with s.left contents) (objects_of (image_set_with outline contents))
    unfolding objects_of image_set_with
    same_objects object.Mark = refl
    same_objects object.Nfit = ap (λ (bytes : List ℕ). Some bytes) (s.nfit ∙ ap (λ (r : OutlineRest). r.nfit_bytes) o.rest_is)
    same_objects (object.Labels k) = sym (get_or-map (option_map bytes_of) s.left.labels k None) ∙ ap (λ (ls : List (Option (List ℕ))). get_or ls k None) labels_same
    same_objects (object.Contents k) = refl
    same_objects (object.BadRanges k) = ap (λ (bs : List (Option (List ℕ))). get_or bs k None) (s.bad ∙ ap (λ (r : OutlineRest). r.bad) o.rest_is)

    pub saves : IsSaving ending.Done text (objects_of (image_set_with outline contents)) (outcome_with answer contents)
    saves = record {
      ends = s.ends;
      says = s.says;
      saved = objects_saved contents (Copied s.left);
      saves = ap (option_map (objects_saved contents)) s.saves;
      same = same_objects;
    }
