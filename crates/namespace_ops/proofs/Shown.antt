-- Labels by UUID make the namespaces that areas show.
use Rattle.std.proofs.Common.{◌≡◌, ℕ, ◌≤◌, ◌++◌, List, [], ◌∷◌, length, drop, refl, sym, ap, ◌∙◌}
use Rattle.std.specs.Prelude.{map, slice_get}
use Rattle.std.specs.Option.{option_map}
use Rattle.std.proofs.lemmas.List.{drop_all}
use Rattle.nfit_reader.specs.declared.table.Mapping.{Mapping}
use Rattle.label_set.specs.declared.placed.Placed.{Placed}
use Rattle.namespace_areas.specs.declared.area.Area.{Area}
use Rattle.namespace_areas.specs.Areas.{labels_of}
use Rattle.namespace_map.specs.Namespaces.{NamespaceEntry, entries_of, entry_at, entry_with, labels_with, lookup, put_all}
use Rattle.namespace_map.proofs.Entries.{lookup_entries}
use Rattle.namespace_map.specs.Changes.{placed_in_all}
use Rattle.namespace_areas.specs.Groups.{HasGroupsOf}
use Rattle.namespace_areas.proofs.Grouped.{entries_same}
use Rattle.namespace_areas.specs.Refusals.{shown}
use Rattle.namespace_areas.specs.Seen.{AreHeld, areas_seen}
use Rattle.namespace_areas.proofs.Seen.{seen_labels}

own : (areas : List Area) (sorted : List Placed) → AreHeld areas → HasGroupsOf sorted (labels_of areas) → HasGroupsOf sorted (placed_in_all (areas_seen areas))
own areas sorted held same uuid = same uuid ∙ ap (labels_with uuid) (sym (seen_labels areas held))

pub shown_at : (sets : List (List Mapping)) (areas : List Area) (sorted : List Placed) (uuid : List ℕ) → AreHeld areas → HasGroupsOf sorted (labels_of areas) → entry_at sets sorted uuid ≡ lookup uuid (shown sets areas).entries
shown_at sets areas sorted uuid held same =
    ap (λ (xs : List Placed). option_map (entry_with sets xs) (slice_get xs 0)) (own areas sorted held same uuid) ∙ sym (lookup_entries sets (placed_in_all (areas_seen areas)) uuid)

pub shown_all : (sets : List (List Mapping)) (areas : List Area) (sorted : List Placed) → AreHeld areas → HasGroupsOf sorted (labels_of areas) → entries_of sets sorted ≡ (shown sets areas).entries
shown_all sets areas sorted held same = entries_same sets sorted (placed_in_all (areas_seen areas)) (own areas sorted held same)

append_none : {X : Type 0} (xs : List X) → xs ++ [] ≡ xs
append_none [] = refl
append_none (x ∷ xs) = ap (λ ys. x ∷ ys) (append_none xs)

-- none is left
pub listed_all : {X : Type 0} (sets : List (List Mapping)) (sorted : List Placed) (at : ℕ) (f : NamespaceEntry → X) (now all : List X) → length sorted ≤ at → now ++ map f (entries_of sets (drop at sorted)) ≡ all → now ≡ all
unfolding put_all
listed_all sets sorted at f now all past is = sym (append_none now) ∙ ap (λ (xs : List Placed). now ++ map f (entries_of sets xs)) (sym (drop_all at sorted past)) ∙ is
