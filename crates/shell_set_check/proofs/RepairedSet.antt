-- The lines of a repaired set, and the set as it is saved.
use Rattle.std.proofs.Common.{◌≡◌, ℕ, zero, suc, List, [], ◌∷◌, ◌++◌, length, map, get_or, Option, Some, None, Result, Ok, Err, refl, sym, ap, ◌∙◌, subst}
use Rattle.std.specs.Prelude.{IfSome, OnOk}
use Rattle.std.specs.Option.{option_map}
use Rattle.std.proofs.lemmas.List.{append_assoc}
use Rattle.cut_words.specs.Words.{Words}
use Rattle.cut_words.specs.WordBytes.{bytes_of}
use Rattle.nvd_media.specs.declared.object.Object.TheVariants as object
use Rattle.nvd_media.specs.Images.{Images, IsSameSet}
use Rattle.image_set.specs.declared.fault.LoadFault.{LoadFault}
use Rattle.image_set.specs.declared.outline.Outline.{Outline}
use Rattle.image_set.specs.Changed.{objects_of}
use Rattle.image_set.specs.Load.{ImageSet, bytes_kept}
use Rattle.image_set.specs.Outline.{IsOutlined, contents_in, image_set_with, objects_with}
use Rattle.shell_changes.specs.declared.answer.Answer.{Answer}
use Rattle.shell_changes.specs.declared.answer.Left.{Left}
use Rattle.shell_changes.specs.Saved.{HasSize, objects_saved}
use Rattle.shell_check.specs.All.{WithContents}
use Rattle.shell_set_check.specs.Whole.{arenas_part, outline_lines}
use Rattle.shell_set_check.specs.Repair.{RepairsFrom, loaded_lines, repair_lines, with_last_line}
use Rattle.shell_set_check.specs.Repairing.{ChecksLoaded, SavesLeft, left_of, repaired_outline}
use Rattle.shell_set_check.proofs.Repaired.{repaired_with}

-- ---- its lines

module _ (held : Option Images) (outline given : Outline) (same : given ≡ outline) (faults : List LoadFault) (none : faults ≡ []) (old middle new : List ℕ)
    (begun : middle ≡ old ++ outline_lines outline.nfit faults (map (option_map bytes_kept) outline.labels) outline.bad) where
  pub loaded_said : {U E : Type 0} (r : Result U E) → OnOk r (WithContents held given (λ loaded. new ≡ middle ++ arenas_part (Ok loaded))) → OnOk r (WithContents held outline (λ loaded. new ≡ old ++ loaded_lines loaded))
  unfolding image_set_with
  loaded_said (Ok u) said = λ source told.
      let loaded : ImageSet = image_set_with outline (contents_in source (length outline.sizes)) in
      said source told
      ∙ ap (λ (o : Outline). middle ++ arenas_part (Ok (image_set_with o (contents_in source (length o.sizes))))) same
      ∙ ap (λ (text : List ℕ). text ++ arenas_part (Ok loaded)) (begun ∙ ap (λ (fs : List LoadFault). old ++ outline_lines outline.nfit fs (map (option_map bytes_kept) outline.labels) outline.bad) none)
      ∙ append_assoc old (outline_lines outline.nfit [] (map (option_map bytes_kept) outline.labels) outline.bad) (arenas_part (Ok loaded))
  loaded_said (Err e) said = tt

-- ---- the set as it is saved

-- the bytes of the words of a label area, by its module
area_back : (labels : List (Option Words)) (k : ℕ) → option_map bytes_of (get_or (map (option_map (λ (w : Words). w.kept)) labels) k None) ≡ get_or (map (option_map bytes_kept) labels) k None
area_back [] k = refl
area_back (None ∷ labels) zero = refl
area_back (Some w ∷ labels) zero = refl
area_back (area ∷ labels) (suc k) = area_back labels k

left_same : (outline : Outline) (contents : List (List ℕ)) → IsSameSet (objects_with (left_of outline) contents) (objects_of (image_set_with outline contents))
unfolding objects_of image_set_with
left_same outline contents object.Mark = refl
left_same outline contents object.Nfit = refl
left_same outline contents (object.Labels k) = area_back outline.labels k
left_same outline contents (object.Contents k) = refl
left_same outline contents (object.BadRanges k) = refl

-- ---- the answer

pub checks_loaded : (held : Option Images) (outline : Outline) (repairs lines : List ℕ) (answer : Answer) → WithContents held outline (λ loaded. lines ≡ loaded_lines loaded)
    → SavesLeft (repairs ++ with_last_line lines) (left_of outline) answer → ChecksLoaded held repairs outline answer
checks_loaded held outline repairs lines answer said saves = record {
  ends = saves.ends;
  says = λ source told. saves.says ∙ ap (λ (text : List ℕ). repairs ++ with_last_line text) (said source told);
  saves = saves.saves;
}

pub repairs_from : (held : Option Images) (outline : Outline) → IsOutlined outline → (answer : Answer)
    → ChecksLoaded held (repair_lines 0 (map (option_map bytes_kept) outline.labels)) (repaired_outline outline) answer → RepairsFrom held outline answer
unfolding image_set_with
repairs_from held outline sound answer checks = record {
  comes = λ source told.
      let contents = contents_in source (length outline.sizes) in
      let repairs = repair_lines 0 (map (option_map bytes_kept) outline.labels) in
      record {
        ends = checks.ends;
        says = checks.says source told ∙ ap (λ (set : ImageSet). repairs ++ with_last_line (loaded_lines set)) (repaired_with outline contents sound);
        saved = objects_with (left_of (repaired_outline outline)) contents;
        saves = ap (option_map (objects_saved contents)) checks.saves;
        same = λ k. left_same (repaired_outline outline) contents k ∙ ap (λ (set : ImageSet). objects_of set k) (repaired_with outline contents sound);
      };
  sizes = subst (λ (saved : Option Left). IfSome saved (HasSize outline.sizes)) (sym checks.saves) refl;
}
