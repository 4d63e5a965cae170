-- What a search for a namespace refuses isn't a power cut.
use Rattle.std.proofs.Common.{◌≡◌, ◌≢◌, ℕ, Bool, true, false, not, if◌then◌else◌, List, [], ◌∷◌, Option, Some, None, Err}
use Rattle.nfit_reader.specs.declared.table.Mapping.{Mapping}
use Rattle.label_codec.specs.declared.mode.Mode.{Mode}
use Rattle.namespace_map.specs.Namespaces.{NamespaceEntry, Part}
use Rattle.namespace_map.specs.Commands.{is_complete, is_sector}
use Rattle.namespace_map.specs.declared.refused.OpRefused.{OpRefused}
use Rattle.namespace_map.specs.declared.refused.OpRefused.TheVariants.{NotComplete, NotSector, PowerCut}
use Rattle.namespace_areas.specs.Finding.{found_by, found_of}

by_parts : (sets : List (List Mapping)) (mode : Mode) (region : Option ℕ) (parts : List Part) (f : OpRefused) → Err f ≡ found_by sets mode region parts → f ≢ PowerCut
by_parts sets mode (Some region) (part ∷ parts) f is cut = let e = is in cc
by_parts sets mode (Some region) [] f is cut = let e = is in cc
by_parts sets mode None parts f is cut = let e = is in cc

-- by the tests of a namespace, whatever kinds are looked for
pub by_tests : (sets : List (List Mapping)) (complete kind : Bool) (mode : Mode) (region : Option ℕ) (parts : List Part) (f : OpRefused)
    → Err f ≡ (if not complete then Err NotComplete else if not kind then Err NotSector else found_by sets mode region parts) → f ≢ PowerCut
by_tests sets false kind mode region parts f is cut = let e = is in cc
by_tests sets true false mode region parts f is cut = let e = is in cc
by_tests sets true true mode region parts f is cut = by_parts sets mode region parts f is cut

pub unfound_uncut : (sets : List (List Mapping)) (entry : Option NamespaceEntry) (f : OpRefused) → Err f ≡ found_of sets entry → f ≢ PowerCut
unfound_uncut sets None f is cut = let e = is in cc
unfound_uncut sets (Some e) f is cut = by_tests sets (is_complete e.status) (is_sector e.mode) e.mode e.region e.parts f is cut
