-- Laws about namespaces that are open at once.
use Rattle.std.specs.Prelude.{◌≡◌, ℕ, List, Option, None, Ok}
use Rattle.nfit_reader.specs.declared.table.Mapping.{Mapping}
use Rattle.namespace_map.specs.Areas.{Area}
use Rattle.namespace_map.specs.Changes.{namespaces_of}
use Rattle.namespace_map.specs.Commands.{claim_refusal}
use Rattle.namespace_map.specs.Namespaces.{lookup}
use Rattle.namespace_areas.specs.declared.found.Found.{Found}
use Rattle.namespace_areas.specs.Finding.{found_of}

-- a law: a namespace that may be claimed is found
abbrev pub ClaimableIsFound : Type 0
ClaimableIsFound = (sets : List (List Mapping)) (areas : List (Option Area)) (uuid : List ℕ) → claim_refusal (namespaces_of sets areas) uuid ≡ None
    → (found : Found) × (found_of sets (lookup uuid (namespaces_of sets areas).entries) ≡ Ok found)
