-- The label changes of recovery, entry by entry, as labels by UUID give them.
use Rattle.std.specs.Prelude.{ℕ, nat_le, if◌then◌else◌, List, [], ◌∷◌, length, map, filter, Option, Some, None}
use Rattle.std.specs.List.{flat_map}
use Rattle.nfit_reader.specs.declared.table.Mapping.{Mapping}
use Rattle.label_codec.specs.declared.label.Label.{Label}
use Rattle.label_set.specs.declared.placed.Placed.{Placed}
use Rattle.namespace_map.specs.Namespaces.{NamespaceEntry, entry_with, labels_with, entries_of}
use Rattle.namespace_map.specs.Areas.{Area, Change}
use Rattle.namespace_map.specs.Commands.{is_complete, is_pending, is_unfinished}
use Rattle.namespace_map.specs.Changes.{by_position, change_to, with_name, is_unsettled, namespaces_of, gone_changes, settling_changes}
use Rattle.label_codec.specs.Flags.{updated}

-- labels with their modules
abbrev pub pairs_of : List Placed → List (ℕ × Label)
pairs_of labels = map (λ p. (p.«module», p.label)) labels

abbrev pub removals : List Placed → List Change
removals own = map (change_to (λ l. None)) (pairs_of own)

-- each that is unsettled is rewritten under a name
abbrev pub settlings : List (Option Area) → List ℕ → List Placed → List Change
settlings areas name own = map (change_to (λ l. Some (with_name name (updated l)))) (filter (is_unsettled areas) (pairs_of own))

-- the changes of one entry, whose labels are given
abbrev pub gone_of : NamespaceEntry → List Placed → List Change
gone_of e own = if is_unfinished e.status then removals (by_position own) else []

abbrev pub settling_of : List (Option Area) → NamespaceEntry → List Placed → List Change
settling_of areas e own = if is_complete e.status then settlings areas e.name (by_position own) else []

abbrev pub pending_of : List (Option Area) → NamespaceEntry → List Placed → List Change
pending_of areas e own = if is_pending e.status then settlings areas e.name (by_position own) else []

-- those that come before a delete or rename of the namespace of all these labels
abbrev pub first_of : List (List Mapping) → List (Option Area) → List Placed → List Change
first_of sets areas [] = []
first_of sets areas (p ∷ own) = if nat_le 2 (length (p ∷ own)) then pending_of areas (entry_with sets (p ∷ own) p) (p ∷ own) else []

-- of one entry, whose labels are among others
abbrev pub gone_in : List Placed → NamespaceEntry → List Change
gone_in labels e = gone_of e (labels_with e.uuid labels)

abbrev pub settling_in : List (Option Area) → List Placed → NamespaceEntry → List Change
settling_in areas labels e = settling_of areas e (labels_with e.uuid labels)

-- of all entries that labels make, rising
abbrev pub all_gone : List (List Mapping) → List Placed → List Change
all_gone sets labels = flat_map (gone_in labels) (entries_of sets labels)

abbrev pub all_settling : List (List Mapping) → List (Option Area) → List Placed → List Change
all_settling sets areas labels = flat_map (settling_in areas labels) (entries_of sets labels)

-- the two rounds of recovery
abbrev pub gone_round : List (List Mapping) → List (Option Area) → List Change
gone_round sets areas = flat_map (gone_changes areas) (namespaces_of sets areas).entries

abbrev pub settling_round : List (List Mapping) → List (Option Area) → List Change
settling_round sets areas = flat_map (settling_changes areas) (namespaces_of sets areas).entries
