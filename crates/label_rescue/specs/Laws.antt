-- Laws about namespaces some of whose labels are missing.
use Rattle.std.specs.Prelude.{◌≡◌, ℕ, Bool, false, List, [], ◌∷◌, filter, map, Some, Ok}
use Rattle.std.specs.List.{list_any}
use Rattle.nfit_reader.specs.declared.table.Mapping.{Mapping}
use Rattle.label_set.specs.declared.placed.Placed.{Placed}
use Rattle.label_set.specs.declared.placed.SetStatus.TheVariants.{Complete}
use Rattle.namespace_map.specs.declared.listed.Namespace.{Namespace}
use Rattle.namespace_map.specs.Namespaces.{NamespaceEntry, entries_of, entry_at, entry_with, namespace_of}
use Rattle.namespace_areas.specs.declared.found.Found.{Found}
use Rattle.namespace_areas.specs.Finding.{found_of, set_at}
use Rattle.label_rescue.specs.Rescue.{is_taken_on, missing_of, rescued_of, rescued_one}

-- A law: a complete namespace is found as by `namespace_areas::find`, and no module is missing.
abbrev pub CompleteIsFound : Type 0
CompleteIsFound = (sets : List (List Mapping)) (labels : List Placed) (claims : NamespaceEntry → ℕ) (uuid : List ℕ) (found : Found)
    → found_of sets (entry_at sets labels uuid) ≡ Ok found
    → rescued_of sets (map (λ e. namespace_of e (claims e)) (entries_of sets labels)) uuid ≡ Ok (record { found = found; missing = [] })

-- the namespace that is left of one if labels are lost, but not the first one
abbrev pub left_of : List (List Mapping) → Placed → List Placed → (Placed → Bool) → ℕ → Namespace
left_of sets first rest keep claims = namespace_of (entry_with sets (first ∷ filter keep rest) first) claims

-- A law: if labels of a complete namespace are lost, but not the first one, the place that is found is the same. No change of the namespace was under way,
-- and no label of another UUID reserves some of what a lost one reserved.
abbrev pub LostLabelsLeaveThePlace : Type 0
LostLabelsLeaveThePlace = (sets : List (List Mapping)) (namespaces : List Namespace) (first : Placed) (rest : List Placed) (keep : Placed → Bool) (claims : ℕ) (name : List ℕ) (found : Found)
    → found_of sets (Some (entry_with sets (first ∷ rest) first)) ≡ Ok found
    → (entry_with sets (first ∷ rest) first).status ≡ Complete name false
    → list_any (is_taken_on namespaces (left_of sets first rest keep claims) found) (set_at sets found.region) ≡ false
    → rescued_one sets namespaces (Some (left_of sets first rest keep claims))
    ≡ Ok (record { found = found; missing = missing_of (set_at sets found.region) (left_of sets first rest keep claims).extents })
