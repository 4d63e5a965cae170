-- The extents of all entries are those of their labels, by UUID.
use Rattle.std.proofs.Common.{◌≡◌, ℕ, zero, suc, ◌≤◌, List, [], ◌∷◌, ◌++◌, length, map, refl, sym, ap, ◌∙◌, arith}
use Rattle.std.proofs.lemmas.List.{length-drop, map-append}
use Rattle.nfit_reader.specs.declared.table.Mapping.{Mapping}
use Rattle.label_set.specs.declared.placed.Placed.{Placed}
use Rattle.region_space.specs.declared.extent.Extent.{Extent}
use Rattle.namespace_map.specs.Namespaces.{entries_of, extent_of, extents_of, part_of, put_all}
use Rattle.namespace_areas.specs.Groups.{AreGrouped, group_cmp}
use Rattle.namespace_areas.proofs.Order.{rises_drop}
use Rattle.namespace_areas.proofs.Sorted.{group_total}
use Rattle.namespace_areas.proofs.Next.{group, behind, joined, first_of_group, next_entries, group_some}

parts_extents : (labels : List Placed) → map (λ p. p.extent) (map part_of labels) ≡ map extent_of labels
parts_extents [] = refl
parts_extents (p ∷ ps) = ap (λ (es : List Extent). extent_of p ∷ es) (parts_extents ps)

by_fuel : (n : ℕ) (sets : List (List Mapping)) (sorted : List Placed) → length sorted ≤ n → AreGrouped sorted → extents_of (entries_of sets sorted) ≡ map extent_of sorted
unfolding put_all
by_fuel n sets [] le up = refl
by_fuel zero sets (x ∷ xs) le up = absurd (omega arith)
by_fuel (suc n) sets (x ∷ xs) le up =
    let g = group x xs up in
    let b = behind x xs up in
    let short : length b ≤ n = omega (arith, length-drop (length g) (x ∷ xs), group_some x xs up) in
    ap extents_of (next_entries x xs up sets x (first_of_group x xs up))
    ∙ ap (λ (es : List Extent). es ++ extents_of (entries_of sets b)) (parts_extents g)
    ∙ ap (λ (es : List Extent). map extent_of g ++ es) (by_fuel n sets b short (rises_drop group_cmp group_total (length g) (x ∷ xs) up))
    ∙ sym (map-append extent_of g b) ∙ ap (map extent_of) (joined x xs up)

pub all_extents : (sets : List (List Mapping)) (sorted : List Placed) → AreGrouped sorted → extents_of (entries_of sets sorted) ≡ map extent_of sorted
all_extents sets sorted up = by_fuel (length sorted) sets sorted (omega arith) up
