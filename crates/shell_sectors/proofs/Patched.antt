-- An outline whose contents are copied with the new bytes of a namespace: what is saved.
use Rattle.std.proofs.Common.{◌≡◌, ℕ, List, [], ◌∷◌, length, map, get_or, Option, Some, None, refl, sym, ap, ◌∙◌, subst}
use Rattle.std.specs.Prelude.{IfSome, slice_get}
use Rattle.std.specs.Option.{option_map}
use Rattle.std.proofs.Math.ListN.{get_or-map}
use Rattle.std.proofs.lemmas.Simd.{map-map}
use Rattle.cut_words.specs.Words.{Words, settled}
use Rattle.cut_words.specs.WordBytes.{bytes_of, words_in}
use Rattle.nvd_media.specs.declared.object.Object.TheVariants as object
use Rattle.nvd_media.specs.Images.{IsSameSet}
use Rattle.power_cut.specs.Namespace.{Namespace, beside_of, over, words_of}
use Rattle.image_set.specs.declared.changing.OutlineRest.{OutlineRest}
use Rattle.image_set.specs.declared.outline.Outline.{Outline}
use Rattle.image_set.specs.Changed.{objects_of}
use Rattle.image_set.specs.Load.{ImageSet, bytes_kept}
use Rattle.image_set.specs.Outline.{image_set_with, objects_with}
use Rattle.image_set.specs.Patches.{patched_contents}
use Rattle.namespace_areas.specs.declared.found.Found.{Found}
use Rattle.namespace_areas.specs.Finding.{LiesInSet, set_at}
use Rattle.namespace_areas.specs.Seen.{words_of as area_words}
use Rattle.namespace_bytes.specs.declared.new_bytes.NewBytes.{NewBytes}
use Rattle.namespace_bytes.specs.Patching.{ArePatched, BytePatch, byte_patched}
use Rattle.namespace_ops.specs.Opening.{sets_of}
use Rattle.namespace_ops.specs.Registered.{Registered}
use Rattle.sector_namespaces.specs.View.{rows_of}
use Rattle.sector_namespaces.proofs.Formats.{same_counts}
use Rattle.shell_changes.specs.declared.answer.Answer.{Answer}
use Rattle.shell_changes.specs.declared.answer.Left.{Left}
use Rattle.shell_changes.specs.declared.answer.Left.TheVariants.{Patched}
use Rattle.shell_changes.specs.Answers.{HasSizes, outcome_with}
use Rattle.shell_changes.specs.Saved.{AreWholeSizes, HasSize, contents_with, objects_saved}
use Rattle.shell_reports.specs.declared.status.Ending.TheVariants as ending
use Rattle.shell_sectors.specs.Found.{SavesNamespace, with_contents}
use Rattle.shell_sectors.specs.Found.{place_of as namespace_at}
use Rattle.shell_sectors.specs.Opening.{HaveSizes, IsOpenOutline}
use Rattle.shell_sectors.specs.Patched.{Patches, PrintsPatched, patch_of}
use Rattle.shell_sectors.proofs.Outlined.{whole_rows}

pub labels_back : (labels : List (Option Words)) → map (option_map bytes_of) (map (option_map (λ w. w.kept)) labels) ≡ map (option_map bytes_kept) labels
labels_back [] = refl
labels_back (None ∷ labels) = ap (λ (ls : List (Option (List ℕ))). None ∷ ls) (labels_back labels)
labels_back (Some w ∷ labels) = ap (λ (ls : List (Option (List ℕ))). Some (bytes_of w.kept) ∷ ls) (labels_back labels)

module _ {text : List ℕ} (outline : Outline) (registry : Registered) (rest : OutlineRest) (o : IsOpenOutline outline registry rest) (found : Found) (lies : LiesInSet registry.sets found) (new : NewBytes) (answer : Answer)
    (s : PrintsPatched text (patch_of registry.sets found new ∷ []) rest (map area_words registry.areas) answer) where
  abbrev patch : BytePatch
  patch = patch_of registry.sets found new

  pub sizes_saved : HasSizes outline.sizes answer
  sizes_saved = subst (λ (saved : Option Left). IfSome saved (HasSize outline.sizes)) (sym s.saves) (s.sizes ∙ ap (λ (r : OutlineRest). r.sizes) o.rest_is)

  module _ (contents : List (List ℕ)) (have : HaveSizes outline.sizes contents) where
    abbrev loaded : ImageSet
    loaded = image_set_with outline contents

    -- the words of all modules, with the bytes put in
    abbrev rows : List (List ℕ)
    rows = map words_in (patched_contents (byte_patched patch) contents)

    labels_same : map (option_map bytes_of) s.left.labels ≡ map (option_map bytes_kept) outline.labels
    labels_same = ap (map (option_map bytes_of)) (s.kept ∙ ap (map (option_map (λ w. w.kept))) o.labels) ∙ labels_back outline.labels

    same_objects : IsSameSet (objects_with s.left (contents_with (patch ∷ []) contents)) (objects_of (with_contents loaded rows))
    unfolding objects_of image_set_with
    same_objects object.Mark = refl
    same_objects object.Nfit = ap (λ (bytes : List ℕ). Some bytes) (s.nfit ∙ ap (λ (r : OutlineRest). r.nfit_bytes) o.rest_is)
    same_objects (object.Labels k) = sym (get_or-map (option_map bytes_of) s.left.labels k None) ∙ ap (λ (ls : List (Option (List ℕ))). get_or ls k None) labels_same
    same_objects (object.Contents k) = ap (λ (cs : List (List ℕ)). slice_get cs k) (sym (map-map bytes_of words_in (patched_contents (byte_patched patch) contents)))
    same_objects (object.BadRanges k) = ap (λ (bs : List (Option (List ℕ))). get_or bs k None) (s.bad ∙ ap (λ (r : OutlineRest). r.bad) o.rest_is)

    module _ (puts : Patches registry.sets found (patch_of registry.sets found new)) where
      pub patched : ArePatched patch contents
      patched = puts contents (whole_rows outline.sizes contents have (subst (λ (r : OutlineRest). AreWholeSizes r.sizes) o.rest_is o.sizes)) (o.reach contents have found.region lies.region)

      now_is : namespace_at loaded found (map settled rows) ≡ over (set_at registry.sets found.region) found.offset found.raw (rows_of (patched_contents (byte_patched patch) contents))
      unfolding image_set_with
      now_is = λ i. over (set_at (sym o.sets i) found.region) found.offset found.raw (map-map settled words_in (patched_contents (byte_patched patch) contents) i)

      was_is : over (set_at registry.sets found.region) found.offset found.raw (rows_of contents) ≡ namespace_at loaded found (rows_of loaded.contents)
      unfolding image_set_with
      was_is = λ i. over (set_at (o.sets i) found.region) found.offset found.raw (rows_of contents)

      beside : beside_of (namespace_at loaded found (map settled rows)) ≡ beside_of (namespace_at loaded found (rows_of loaded.contents))
      beside = ap beside_of now_is ∙ patched.beside ∙ ap beside_of was_is

      -- the namespace has words like these
      pub saves : (Like : List ℕ → Type 0) → Like (words_of (over (set_at registry.sets found.region) found.offset found.raw (rows_of (patched_contents (byte_patched patch) contents)))).kept
          → SavesNamespace found loaded Like ending.Done text (outcome_with answer contents)
      saves Like like = record {
        rows = rows;
        sizes = sym (map-map (λ (w : Words). length w.kept) settled rows)
            ∙ same_counts (set_at (sets_of loaded.nfit) found.region) found.offset found.raw (rows_of loaded.contents) (map settled rows) beside
            ∙ map-map (λ (w : Words). length w.kept) (λ (bytes : List ℕ). settled (words_in bytes)) loaded.contents;
        beside = beside;
        words = subst (λ (n : Namespace). Like (words_of n).kept) (sym now_is) like;
        saves = record {
          ends = s.ends;
          says = s.says;
          saved = objects_saved contents (Patched s.left (patch ∷ []));
          saves = ap (option_map (objects_saved contents)) s.saves;
          same = same_objects;
        };
      }
