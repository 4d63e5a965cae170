-- Contents that have the sizes of an outline hold the mappings of its table.
use Rattle.std.proofs.Common.{◌≡◌, ℕ, ◌*◌, ◌%◌, ◌≤◌, List, [], ◌∷◌, Option, None, length, map, sum, get_or, refl, sym, ap, ◌∙◌, subst, arith}
use Rattle.std.specs.List.{All}
use Rattle.std.proofs.lemmas.List.{get_or-map, length-map}
use Rattle.std.proofs.lemmas.List.Elements.{All-head, All-tail}
use Rattle.nfit_reader.specs.declared.table.Nfit.{Nfit}
use Rattle.cut_words.specs.Words.{Words}
use Rattle.cut_words.specs.WordBytes.{words_in}
use Rattle.arena_open.proofs.Bytes.{length_words}
use Rattle.image_set.specs.declared.changing.OutlineRest.{OutlineRest}
use Rattle.image_set.specs.Limits.{most_contents}
use Rattle.image_set.specs.Sizes.{IsContentsSize}
use Rattle.image_set.specs.Sound.{AreMapped, size_of}
use Rattle.namespace_bytes.specs.Patching.{AreWhole}
use Rattle.namespace_ops.specs.Opening.{set_fault_from, sets_of}
use Rattle.namespace_ops.proofs.Regions.{sets_are}
use Rattle.sector_namespaces.specs.Laws.{LoadedSetsAreUsable}
use Rattle.sector_namespaces.specs.View.{rows_of}
use Rattle.shell_changes.specs.Reading.{IsParted}
use Rattle.shell_changes.specs.Rest.{HoldSets}
use Rattle.shell_changes.specs.Saved.{AreWholeSizes}

-- contents' sizes are whole words
pub whole_sizes : (sizes : List ℕ) → All IsContentsSize sizes → AreWholeSizes sizes
whole_sizes sizes sized = λ k d lt. omega (arith, (sized k d lt).multiple)

whole_contents : (sizes : List ℕ) (contents : List (List ℕ)) → map (λ row. length row) contents ≡ sizes → AreWholeSizes sizes → AreWhole contents
whole_contents sizes contents have whole = λ k d lt.
    subst (λ (n : ℕ). n % 8 ≡ 0) (ap (λ (ns : List ℕ). get_or ns k 0) (sym have) ∙ get_or-map (λ row. length row) contents k d 0 lt)
    (whole k 0 (omega (arith, lt, ap length have, length-map contents (λ (row : List ℕ). length row))))

-- words of whole contents have their size
row_sizes : (contents : List (List ℕ)) → AreWhole contents → map size_of (rows_of contents) ≡ map (λ row. length row) contents
row_sizes [] whole = refl
row_sizes (row ∷ contents) whole =
    let here : length row % 8 ≡ 0 = All-head (λ (r : List ℕ). length r % 8 ≡ 0) row contents whole in
    let size : 8 * length (words_in row) ≡ length row = omega (arith, length_words row, here) in
    (λ i. size i ∷ row_sizes contents (All-tail (λ (r : List ℕ). length r % 8 ≡ 0) row contents whole) i)

pub hold_sets : (nfit : Nfit) (labels : List (Option Words)) (rest : OutlineRest) (contents : List (List ℕ)) → IsParted nfit labels rest → LoadedSetsAreUsable → map (λ row. length row) contents ≡ rest.sizes → set_fault_from 0 nfit.regions ≡ None
    → HoldSets (sets_of nfit) contents
hold_sets nfit labels rest contents parted usable have sound =
    let whole : AreWhole contents = whole_contents rest.sizes contents have (whole_sizes rest.sizes parted.sized) in
    let sizes : rest.sizes ≡ map size_of (rows_of contents) = sym (row_sizes contents whole ∙ have) in
    record {
      whole = whole;
      usable = usable nfit.regions (sets_of nfit) (rows_of contents) (subst (λ (ns : List ℕ). All (AreMapped ns) nfit.regions) sizes parted.mapped) (subst (λ (ns : List ℕ). sum ns ≤ most_contents) sizes parted.total)
          (sets_are nfit.regions 0 sound);
    }
