use Rattle.std.proofs.Common.{ℕ, List, length, subst}
use Rattle.std.specs.Prelude.{IfOk}
use Rattle.image_set.specs.declared.outline.Outline.{Outline}
use Rattle.namespace_bytes.specs.Patching.{bytes_by_place}
use Rattle.namespace_bytes.specs.Putting.{AreAll}
use Rattle.namespace_bytes.specs.SectorBytes.{HaveMapsOfBytes}
use Rattle.power_cut.specs.Namespace.{over, words_of}
use Rattle.sector_namespaces.specs.View.{rows_of}
use Rattle.shell_import.specs.Beginning.{ImportsFrom, IsSectorImport}
use Rattle.shell_reports.proofs.More.{if_more}
use Rattle.shell_sectors.proofs.Asked.{kept}
use Rattle.shell_sectors.proofs.Written.{three}
use Rattle.shell_import.proofs.SectorsImport.{few_bytes, imports_filled, imports_refused, reached, whole_pages}
use Rattle.shell_import.proofs.sectors.SectorImport.answer.Goals as goal

pub read_arenas_from-requires-clause-pages : goal.read_arenas_from-requires-clause-pages
read_arenas_from-requires-clause-pages g c = whole_pages c.args.uuid.now c.requires.found.1.0 c.requires.found.0 c.args.self c.requires.found.1.1

pub read_arenas_from-requires-clause-few : goal.read_arenas_from-requires-clause-few
read_arenas_from-requires-clause-few g c = few_bytes c.args.uuid.now c.requires.found.1.0 c.requires.found.0 c.args.self c.requires.found.1.1

pub unopened_answer-requires : goal.unopened_answer-requires
unopened_answer-requires g c = c.in-Ok-Err.ensures.running c.in-Ok-Err.refused c.in-Ok-Err.field-0-is

pub read_arenas_from-requires-clause-there : goal.read_arenas_from-requires-clause-there
read_arenas_from-requires-clause-there g c = λ source told. (
  length c.requires.found.0.sizes,
  reached c.args.uuid.now c.requires.found.1.0 c.requires.found.0 c.args.self c.requires.found.1.1 (g.S.ImageSource.held c.args.images.now) source told (c.requires.there source told),
)

pub returns-in-Ok-Ok-clause-imports : goal.returns-in-Ok-Ok-clause-imports
returns-in-Ok-Ok-clause-imports g c =
    let held = g.S.ImageSource.held c.args.images.now in
    kept (λ answer. (outline : Outline) (bytes : List ℕ) → IsSectorImport c.args.uuid.now bytes outline c.args.self → ImportsFrom held c.args.uuid.now bytes outline answer) c.fill_read.result c.in_memory.result c.in_memory.ensures.same
    (if_more _ _ c.fill_read.result
    (λ answer fills outline bytes it.
    imports_filled c.args.uuid.now bytes outline c.args.self it answer c.in-Ok-Ok.arenas held (fills outline c.args.uuid.now bytes it) c.requires.there
    (λ contents shown. subst (λ r. IfOk r (AreAll (words_of (over c.args.self.set c.args.self.found.offset c.args.self.found.raw (rows_of contents))).kept c.args.uuid.now)) c.in-Ok-Ok.field-0-is (c.in-Ok-Ok.ensures.all contents shown))
    (λ contents shown. subst (λ r. IfOk r (HaveMapsOfBytes (bytes_by_place c.args.self.set c.args.self.found.offset c.args.self.found.raw contents))) c.in-Ok-Ok.field-0-is (c.in-Ok-Ok.ensures.bytes contents shown)))
    c.fill_read.ensures)

pub returns-in-Ok-Err-clause-imports : goal.returns-in-Ok-Err-clause-imports
returns-in-Ok-Err-clause-imports g c =
    let held = g.S.ImageSource.held c.args.images.now in
    kept (λ answer. (outline : Outline) (bytes : List ℕ) → IsSectorImport c.args.uuid.now bytes outline c.args.self → ImportsFrom held c.args.uuid.now bytes outline answer) c.unopened_answer.result c.in_memory-in-Ok-Err.result c.in_memory-in-Ok-Err.ensures.same
    (three _ _ _ _ c.unopened_answer.result
    (λ answer says nothing finding outline bytes it.
    imports_refused c.args.uuid.now bytes outline c.args.self it answer held c.in-Ok-Err.refused nothing says c.requires.there
    (λ contents shown. c.in-Ok-Err.ensures.refused contents shown c.in-Ok-Err.refused c.in-Ok-Err.field-0-is finding))
    c.unopened_answer.ensures.text c.unopened_answer.ensures.saved c.unopened_answer.ensures.finding)
