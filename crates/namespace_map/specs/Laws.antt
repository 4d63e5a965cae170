-- The list of entries as a map from UUIDs.
use Rattle.std.specs.Prelude.{◌≡◌, ℕ, true, List, [], ◌∷◌}
use Rattle.std.specs.List.{AllByRecursion}
use Rattle.nfit_reader.specs.declared.table.Mapping.{Mapping}
use Rattle.label_set.specs.declared.placed.Placed.{Placed}
use Rattle.namespace_map.specs.Namespaces.{NamespaceEntry, uuid_lt, entry_at, entries_of, lookup}

-- each entry's UUID is less than those of the later entries
abbrev pub IsRising : List NamespaceEntry → Type 0
IsRising [] = Unit {0}
IsRising (e ∷ es) = AllByRecursion (λ (f : NamespaceEntry). uuid_lt e.uuid f.uuid ≡ true) es × IsRising es

-- a law: looking up a UUID finds the entry of its labels, or nothing if no label has it
abbrev pub EntriesAreFound : Type 0
EntriesAreFound = (sets : List (List Mapping)) (labels : List Placed) (uuid : List ℕ) → lookup uuid (entries_of sets labels) ≡ entry_at sets labels uuid

-- a law: entries ascend by UUID
abbrev pub EntriesRise : Type 0
EntriesRise = (sets : List (List Mapping)) (labels : List Placed) → IsRising (entries_of sets labels)

-- a law: ascending lists with the same lookups are equal
abbrev pub RisingListsAreMaps : Type 0
RisingListsAreMaps = (es fs : List NamespaceEntry) → IsRising es → IsRising fs → ((uuid : List ℕ) → lookup uuid es ≡ lookup uuid fs) → es ≡ fs
