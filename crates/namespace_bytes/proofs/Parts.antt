-- The parts of a SetPatch, one after another.
use Rattle.std.proofs.Common.{◌≡◌, ℕ, zero, suc, ◌+◌, ◌*◌, ◌<◌, ◌≤◌, List, [], ◌∷◌, length, map, take, drop, get_or, refl, sym, ap, ◌∙◌, subst, arith}
use Rattle.std.specs.List.{All}
use Rattle.std.proofs.lemmas.List.{drop_all, drop_more, get_or-map, length-map}
use Rattle.std.proofs.lemmas.List.Elements.{All-more}
use Rattle.nfit_reader.specs.declared.table.Mapping.{Mapping}
use Rattle.image_set.specs.Patches.{IsCovered, patched_row}
use Rattle.power_cut.specs.Namespace.{ReachEnds}
use Rattle.sector_namespaces.specs.View.{rows_of}
use Rattle.namespace_areas.specs.Finding.{set_at}
use Rattle.namespace_bytes.specs.declared.patch.NamespacePatch.{NamespacePatch}
use Rattle.namespace_bytes.specs.Patching.{ArePatched, AreWhole, BytePatch, IsBytePatch, IsFor, IsLaidPart, all_patched, byte_patched, patch_in, patch_on}
use Rattle.namespace_bytes.proofs.Several.{covered_any, row_after, row_none}
use Rattle.namespace_bytes.proofs.WholePatch.{are_patched}

-- an element, whatever stands past the end
pub same_default : {X : Type 0} (xs : List X) (k : ℕ) (d e : X) → k < length xs → get_or xs k d ≡ get_or xs k e
same_default [] k d e lt = absurd (omega (arith, lt))
same_default (x ∷ xs) zero d e lt = refl
same_default (x ∷ xs) (suc k) d e lt = same_default xs k d e (omega (arith, lt))

module _ (sets : List (List Mapping)) (parts : List NamespacePatch) (i : ℕ) (part : NamespacePatch) (lt : i < length parts) (is : part ≡ get_or parts i part) where
  -- what holds of all holds of this one
  pub of_part : (P : NamespacePatch → Type 0) → All P parts → P part
  of_part P all = subst P (sym is) (all i part lt)

  pub more_parts : (P : NamespacePatch → Type 0) → All P (take i parts) → P part → All P (take (i + 1) parts)
  more_parts P all own = All-more P parts i part lt all (subst P is own)

  pub rest_parts : drop i parts ≡ part ∷ drop (i + 1) parts
  rest_parts = drop_more parts i part lt ∙ ap (λ (p : NamespacePatch). p ∷ drop (i + 1) parts) (sym is)

  module _ (set : List Mapping) (region : part.region < length sets) (set_is : set ≡ get_or sets part.region set) where
    pub set_there : set ≡ set_at sets part.region
    set_there = set_is ∙ same_default sets part.region set [] region

    pub patch_is : patch_on set part ≡ patch_in sets part
    patch_is = ap (λ (s : List Mapping). patch_on s part) set_there

    pub now_laid : IsFor part.bytes (length (set_at sets part.region) * part.raw) → IsBytePatch (patch_on set part) → IsLaidPart sets part
    now_laid long laid = record { region = region; laid = subst IsBytePatch patch_is laid; long = long }

    pub laid_on : IsLaidPart sets part → IsBytePatch (patch_on set part)
    laid_on own = subst IsBytePatch (sym patch_is) own.laid

    pub long_on : IsLaidPart sets part → IsFor part.bytes (length set * part.raw)
    long_on own = subst (λ (s : List Mapping). IsFor part.bytes (length s * part.raw)) (sym set_there) own.long

    -- the part's bytes are put into a piece, and then those of the rest
    pub part_put : (m at : ℕ) (piece new : List ℕ) → new ≡ patched_row (byte_patched (patch_on set part)) m at piece
        → patched_row (all_patched (map (patch_in sets) (drop (i + 1) parts))) m at new ≡ patched_row (all_patched (map (patch_in sets) (drop i parts))) m at piece
    part_put m at piece new put =
        ap (patched_row (all_patched (map (patch_in sets) (drop (i + 1) parts))) m at) (put ∙ ap (λ (p : BytePatch). patched_row (byte_patched p) m at piece) patch_is)
        ∙ sym (row_after (patch_in sets part) (map (patch_in sets) (drop (i + 1) parts)) m at piece)
        ∙ ap (λ (rest : List NamespacePatch). patched_row (all_patched (map (patch_in sets) rest)) m at piece) (sym rest_parts)

    -- if it covers some bytes, all parts together do
    pub part_covers : (m at count : ℕ) → IsCovered (byte_patched (patch_on set part)) m at count → IsCovered (all_patched (map (patch_in sets) parts)) m at count
    part_covers m at count covered =
        let at_it : get_or (map (patch_in sets) parts) i (patch_in sets part) ≡ patch_in sets part = get_or-map (patch_in sets) parts i part (patch_in sets part) lt ∙ ap (patch_in sets) (sym is) in
        covered_any (map (patch_in sets) parts) i (patch_in sets part) m at count (omega (arith, lt, length-map parts (patch_in sets)))
        (subst (λ (p : BytePatch). IsCovered (byte_patched p) m at count) (patch_is ∙ sym at_it) covered)

-- no part is left
pub all_parts_put : (sets : List (List Mapping)) (parts : List NamespacePatch) (i m at : ℕ) (piece : List ℕ) → length parts ≤ i
    → piece ≡ patched_row (all_patched (map (patch_in sets) (drop i parts))) m at piece
all_parts_put sets parts i m at piece past =
    sym (row_none m at piece) ∙ ap (λ (rest : List NamespacePatch). patched_row (all_patched (map (patch_in sets) rest)) m at piece) (sym (drop_all i parts past))

-- each part by itself gives its namespace its bytes
pub patched_each : (sets : List (List Mapping)) (parts : List NamespacePatch) → All (IsLaidPart sets) parts → (k : ℕ) (d : BytePatch) → k < length (map (patch_in sets) parts)
    → (contents : List (List ℕ)) → AreWhole contents → ReachEnds (get_or (map (patch_in sets) parts) k d).set (rows_of contents) → ArePatched (get_or (map (patch_in sets) parts) k d) contents
patched_each sets [] laid k d lt contents whole reach = absurd (omega (arith, lt))
patched_each sets (part ∷ parts) laid zero d lt contents whole reach = are_patched (patch_in sets part) (laid zero part (omega arith)).laid contents whole reach
patched_each sets (part ∷ parts) laid (suc k) d lt contents whole reach =
    patched_each sets parts (λ j e less. laid (suc j) e (omega (arith, less))) k d (omega (arith, lt)) contents whole reach
