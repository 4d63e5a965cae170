-- After a crash during changes of one UUID, every other entry is as before.
use Rattle.std.proofs.Common.{◌≡◌, ◌≢◌, ℕ, Bool, List, Option, take, sym, ap, ◌∙◌}
use Rattle.std.specs.List.{AllByRecursion}
use Rattle.nfit_reader.specs.declared.table.Mapping.{Mapping}
use Rattle.namespace_map.specs.Namespaces.{lookup, entry_at}
use Rattle.namespace_map.proofs.Entries.{lookup_entries}
use Rattle.namespace_map.specs.Areas.{Area, Change, after_steps}
use Rattle.namespace_map.specs.Changes.{placed_in_all, namespaces_of}
use Rattle.namespace_map.specs.CommandLaws.{IsOf}
use Rattle.namespace_map.proofs.Areas.{all_of_front}
use Rattle.namespace_map.proofs.Fronts.{cut_is_front, IsFront}
use Rattle.namespace_map.proofs.Labels.{other_entries_stay}

pub cut_leaves_others : (sets : List (List Mapping)) (areas : List (Option Area)) (uuid : List ℕ) (cs : List Change) → AllByRecursion (IsOf uuid) cs → (n : ℕ) (stays : Bool) (u : List ℕ) → u ≢ uuid
    → lookup u (namespaces_of sets (after_steps areas cs n stays)).entries ≡ lookup u (namespaces_of sets areas).entries
cut_leaves_others sets areas uuid cs of n stays u ne = by (cut_is_front cs areas n stays)
  where
    by : IsFront areas cs (after_steps areas cs n stays) → lookup u (namespaces_of sets (after_steps areas cs n stays)).entries ≡ lookup u (namespaces_of sets areas).entries
    by (k, below, is) =
        lookup_entries sets (placed_in_all (after_steps areas cs n stays)) u
        ∙ ap (λ (left : List (Option Area)). entry_at sets (placed_in_all left) u) is
        ∙ other_entries_stay sets (take k cs) u uuid areas ne (all_of_front (IsOf uuid) k cs of)
        ∙ sym (lookup_entries sets (placed_in_all areas) u)
