-- The regions in which the labels of a module may lie.
use Rattle.std.specs.Prelude.{◌≡◌, ℕ, Bool, List, [], ◌∷◌, map, filter, slice_get, slice_index_or, Option, Some, None, if◌then◌else◌, is_some}
use Rattle.std.specs.List.{enumerate_from}
use Rattle.std.specs.Global.{Vec}
use Rattle.nfit_reader.specs.declared.table.Mapping.{Mapping}
use Rattle.label_set.specs.declared.placed.Placed.{Placed}
use Rattle.label_set.specs.Rules.{mapping_of}
use Rattle.namespace_map.specs.Namespaces.{holds_label}

-- a region has a mapping of a module
abbrev pub is_on : ℕ → ℕ × List Mapping → Bool
is_on number r = is_some (mapping_of r.1 number)

-- the numbers of the regions that have a mapping of a module, rising
abbrev pub regions_on : List (List Mapping) → ℕ → List ℕ
regions_on sets number = map (λ r. r.0) (filter (is_on number) (enumerate_from 0 sets))

-- the first of some regions in whose mapping a label lies, with its set
abbrev pub found_among : List (List Mapping) → Placed → List ℕ → Option (ℕ × List Mapping)
found_among sets p [] = None
found_among sets p (n ∷ ns) = if holds_label p (slice_index_or sets n []) then Some (n, slice_index_or sets n []) else found_among sets p ns

-- each list has the regions of the module of its place
abbrev pub AreOnModules : List (List Mapping) → List (Vec ℕ) → Type 0
AreOnModules sets lists = (number : ℕ) (list : Vec ℕ) → slice_get lists number ≡ Some list → list.items ≡ regions_on sets number
