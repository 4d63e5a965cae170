-- What a caller sees of the labels of one UUID.
use Rattle.std.specs.Prelude.{ℕ, List, Option, slice_get}
use Rattle.std.specs.Option.{option_map}
use Rattle.nfit_reader.specs.declared.table.Mapping.{Mapping}
use Rattle.label_set.specs.declared.placed.Placed.{Placed}
use Rattle.namespace_map.specs.declared.listed.Namespace.{Namespace}
use Rattle.namespace_map.specs.Namespaces.{entry_with, namespace_of}

-- the number of a region
abbrev pub number_in : ℕ × List Mapping → ℕ
number_in region = region.0

-- what a caller sees of the labels of one UUID, of which the first is given; none of them is claimed
unfoldable pub namespace_with : List (List Mapping) → List Placed → Placed → Namespace
namespace_with sets own first = namespace_of (entry_with sets own first) 0

-- none if there is no label
abbrev pub namespace_in : List (List Mapping) → List Placed → Option Namespace
namespace_in sets own = option_map (namespace_with sets own) (slice_get own 0)
