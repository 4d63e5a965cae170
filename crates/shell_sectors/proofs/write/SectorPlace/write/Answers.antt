use Rattle.std.proofs.Common.{List, subst}
use Rattle.std.specs.Prelude.{IfOk}
use Rattle.image_set.specs.declared.outline.Outline.{Outline}
use Rattle.namespace_bytes.specs.Patching.{bytes_by_place}
use Rattle.namespace_bytes.specs.Putting.{AreAll}
use Rattle.namespace_bytes.specs.SectorBytes.{HaveMapsOfBytes}
use Rattle.arena_open.specs.Chain.{Link}
use Rattle.power_cut.specs.Namespace.{over, words_of}
use Rattle.sector_namespaces.specs.View.{rows_of}
use Rattle.shell_reports.proofs.More.{if_more}
use Rattle.shell_sectors.specs.Writing.{IsSectorPlace, WritesFrom, WritesWith}
use Rattle.shell_sectors.proofs.Asked.{found_ends, kept}
use Rattle.shell_sectors.proofs.Written.{few_bytes, three, whole_pages, writes_broken, writes_from}
use Rattle.shell_sectors.proofs.write.SectorPlace.write.Goals as goal

pub read_arenas_from-requires-clause-pages : goal.read_arenas_from-requires-clause-pages
read_arenas_from-requires-clause-pages g c = whole_pages c.args.uuid.now c.requires.found.0 c.args.self c.requires.found.1

pub read_arenas_from-requires-clause-few : goal.read_arenas_from-requires-clause-few
read_arenas_from-requires-clause-few g c = few_bytes c.args.uuid.now c.requires.found.0 c.args.self c.requires.found.1

pub read_arenas_from-requires-clause-there : goal.read_arenas_from-requires-clause-there
read_arenas_from-requires-clause-there g c =
    let it = c.requires.found.1 in
    found_ends c.requires.found.0 it.registry c.args.self.rest it.parts c.args.self.found it.lies c.args.self.set it.set (g.S.ImageSource.held c.args.images.now) c.requires.there

pub returns-in-Ok-Ok-clause-writes : goal.returns-in-Ok-Ok-clause-writes
returns-in-Ok-Ok-clause-writes g c =
    let held = g.S.ImageSource.held c.args.images.now in
    kept (λ answer. (outline : Outline) → IsSectorPlace c.args.uuid.now outline c.args.self → WritesFrom held c.args.uuid.now c.args.sector c.args.value outline answer) c.write_in.result c.in_memory.result c.in_memory.ensures.same
    (if_more _ _ c.write_in.result
    (λ answer writes outline it.
    writes_from c.args.uuid.now outline c.args.self it c.args.sector c.args.value answer c.in-Ok-Ok.arenas held
    (subst (λ (links : List Link). WritesWith c.args.uuid.now c.args.sector c.args.value outline c.args.self links answer) c.as_slice.ensures (writes outline c.args.uuid.now it)) c.requires.there
    (λ contents shown. subst (λ r. IfOk r (AreAll (words_of (over c.args.self.set c.args.self.found.offset c.args.self.found.raw (rows_of contents))).kept c.args.uuid.now)) c.in-Ok-Ok.field-0-is (c.in-Ok-Ok.ensures.all contents shown))
    (λ contents shown. subst (λ r. IfOk r (HaveMapsOfBytes (bytes_by_place c.args.self.set c.args.self.found.offset c.args.self.found.raw contents))) c.in-Ok-Ok.field-0-is (c.in-Ok-Ok.ensures.bytes contents shown)))
    c.write_in.ensures)

pub returns-in-Ok-Err-clause-writes : goal.returns-in-Ok-Err-clause-writes
returns-in-Ok-Err-clause-writes g c =
    let held = g.S.ImageSource.held c.args.images.now in
    kept (λ answer. (outline : Outline) → IsSectorPlace c.args.uuid.now outline c.args.self → WritesFrom held c.args.uuid.now c.args.sector c.args.value outline answer) c.unopened_answer.result c.in_memory-in-Ok-Err.result c.in_memory-in-Ok-Err.ensures.same
    (three _ _ _ _ c.unopened_answer.result
    (λ answer says nothing finding outline it.
    writes_broken c.args.uuid.now outline c.args.self it c.args.sector c.args.value answer held c.in-Ok-Err.refused nothing says c.requires.there
    (λ contents shown. c.in-Ok-Err.ensures.refused contents shown c.in-Ok-Err.refused c.in-Ok-Err.field-0-is finding))
    c.unopened_answer.ensures.text c.unopened_answer.ensures.saved c.unopened_answer.ensures.finding)
