-- A set that is saved with contents that are copied.
use Rattle.std.proofs.Common.{◌≡◌, ℕ, ◌%◌, List, [], ◌∷◌, length, map, Option, Some, Result, Ok, Err, refl, sym, ap, ◌∙◌, subst}
use Rattle.std.specs.Prelude.{OnOk, MatchResult}
use Rattle.std.specs.List.{All}
use Rattle.std.proofs.lemmas.List.Elements.{All-head, All-tail}
use Rattle.nvd_words.specs.Bytes.{AreBytes}
use Rattle.cut_words.specs.WordBytes.{bytes_of, words_in}
use Rattle.cut_words.proofs.Put.{bytes_of-words_in}
use Rattle.nvd_media.specs.Images.{Images, Becomes, IsSameSet, IsUnfinished}
use Rattle.image_set.specs.declared.changing.OutlineLeft.{OutlineLeft}
use Rattle.image_set.specs.declared.fault.CopyFault.{CopyFault}
use Rattle.image_set.specs.Outline.{CopiesSet, PatchesSet, objects_with}
use Rattle.namespace_bytes.specs.Patching.{BytePatch, all_patched}
use Rattle.shell_reports.specs.Saved.{Saves}
use Rattle.shell_changes.specs.declared.answer.Left.TheVariants.{Copied, Patched}
use Rattle.shell_changes.specs.Saved.{AreObjects, AreWholeSizes, Stores}

-- bytes of whole words are those of the words that they make
whole_row : (row : List ℕ) → length row % 8 ≡ 0 → AreBytes row → row ≡ bytes_of (words_in row)
whole_row row whole fit = sym (bytes_of-words_in row whole fit)

whole_rows : (contents : List (List ℕ)) → AreWholeSizes (map (λ row. length row) contents) → All AreBytes contents → contents ≡ map (λ row. bytes_of (words_in row)) contents
whole_rows [] whole fit = refl
whole_rows (row ∷ rows) whole fit =
    let P : ℕ → Type 0 = λ bytes. bytes % 8 ≡ 0 in
    ap (λ x. x ∷ rows) (whole_row row (All-head P (length row) (map (λ r. length r) rows) whole) (All-head AreBytes row rows fit))
    ∙ ap (λ rest. bytes_of (words_in row) ∷ rest) (whole_rows rows (All-tail P (length row) (map (λ r. length r) rows) whole) (All-tail AreBytes row rows fit))

module _ {T : Type 0} (held : Option Images) (left : OutlineLeft) (made made' kept kept' : Option Images) where
  -- the set that is saved has the contents of the source
  pub copied_saves : (r : Result T CopyFault) → CopiesSet held left made made' kept kept' r → OnOk r ((objects : Images) × AreObjects held (Copied left) objects × Saves (Some objects) made made' × Stores (Some objects) kept kept')
  copied_saves (Ok x) copies = (objects_with left copies.contents, (λ source at. ap (objects_with left) (copies.read source at)), copies.told, copies.holds)
  copied_saves (Err fault) copies = tt

  -- after a fault it isn't finished
  pub copied_unfinished : (r : Result T CopyFault) (fault : CopyFault) → CopiesSet held left made made' kept kept' r → r ≡ Err fault → Becomes made made' IsUnfinished
  copied_unfinished r fault copies failed =
      subst (λ (x : Result T CopyFault). Becomes made made' (λ set now. MatchResult x (λ _. IsSameSet now (objects_with left copies.contents)) (λ _. IsUnfinished set now))) failed copies.told

  -- the same with contents that are changed
  pub patched_saves : (patches : List BytePatch) → AreWholeSizes left.sizes → (r : Result T CopyFault) → PatchesSet (all_patched patches) held left made made' kept kept' r
      → OnOk r ((objects : Images) × AreObjects held (Patched left patches) objects × Saves (Some objects) made made' × Stores (Some objects) kept kept')
  patched_saves patches whole (Ok x) copies = (
    objects_with left copies.contents,
    (λ source at.
        ap (objects_with left)
        (whole_rows copies.contents (subst AreWholeSizes (sym copies.sized) whole) copies.fit ∙ ap (map (λ row. bytes_of (words_in row))) (copies.read source at))),
    copies.told,
    copies.holds,
  )
  patched_saves patches whole (Err fault) copies = tt

  pub patched_unfinished : (f : ℕ → ℕ → ℕ → ℕ) (r : Result T CopyFault) (fault : CopyFault) → PatchesSet f held left made made' kept kept' r → r ≡ Err fault → Becomes made made' IsUnfinished
  patched_unfinished f r fault copies failed =
      subst (λ (x : Result T CopyFault). Becomes made made' (λ set now. MatchResult x (λ _. IsSameSet now (objects_with left copies.contents)) (λ _. IsUnfinished set now))) failed copies.told
