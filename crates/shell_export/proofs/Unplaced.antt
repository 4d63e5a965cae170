-- What a search for a namespace, raw or of sectors, refuses isn't a power cut.
use Rattle.std.proofs.Common.{◌≡◌, ◌≢◌, ◌||◌, List, Option, Some, None, Err}
use Rattle.nfit_reader.specs.declared.table.Mapping.{Mapping}
use Rattle.namespace_map.specs.Namespaces.{NamespaceEntry}
use Rattle.namespace_map.specs.Commands.{is_complete, is_sector}
use Rattle.namespace_map.specs.declared.refused.OpRefused.{OpRefused}
use Rattle.namespace_map.specs.declared.refused.OpRefused.TheVariants.{PowerCut}
use Rattle.shell_reports.proofs.Uncut.{by_tests}
use Rattle.shell_export.specs.Export.{is_raw, place_of}

pub unplaced_uncut : (sets : List (List Mapping)) (entry : Option NamespaceEntry) (f : OpRefused) → Err f ≡ place_of sets entry → f ≢ PowerCut
unplaced_uncut sets None f is cut = let e = is in cc
unplaced_uncut sets (Some e) f is cut = by_tests sets (is_complete e.status) (is_sector e.mode || is_raw e.mode) e.mode e.region e.parts f is cut
