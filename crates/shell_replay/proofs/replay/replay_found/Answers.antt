use Rattle.std.proofs.Common.{List, subst}
use Rattle.std.specs.Prelude.{IfOk}
use Rattle.image_set.specs.declared.outline.Outline.{Outline}
use Rattle.arena_open.specs.Chain.{Link}
use Rattle.namespace_bytes.specs.Patching.{bytes_by_place}
use Rattle.namespace_bytes.specs.Putting.{AreAll}
use Rattle.namespace_bytes.specs.SectorBytes.{HaveMapsOfBytes}
use Rattle.power_cut.specs.Namespace.{over, words_of}
use Rattle.sector_namespaces.specs.View.{rows_of}
use Rattle.shell_changes.specs.Remains.{LeavesBy}
use Rattle.shell_reports.proofs.More.{if_more}
use Rattle.shell_sectors.specs.Writing.{IsSectorPlace}
use Rattle.shell_sectors.proofs.Asked.{found_ends, kept}
use Rattle.shell_sectors.proofs.Written.{few_bytes, three, whole_pages}
use Rattle.shell_replay.specs.Answering.{ReplaysFrom, ReplaysOn}
use Rattle.shell_replay.proofs.Coming.{replays_broken, replays_from}
use Rattle.shell_replay.proofs.replay.replay_found.Goals as goal

pub read_arenas_from-requires-clause-pages : goal.read_arenas_from-requires-clause-pages
read_arenas_from-requires-clause-pages g c = whole_pages c.args.uuid.now c.requires.found.0 c.args.place c.requires.found.1

pub read_arenas_from-requires-clause-few : goal.read_arenas_from-requires-clause-few
read_arenas_from-requires-clause-few g c = few_bytes c.args.uuid.now c.requires.found.0 c.args.place c.requires.found.1

pub read_arenas_from-requires-clause-there : goal.read_arenas_from-requires-clause-there
read_arenas_from-requires-clause-there g c =
    let it = c.requires.found.1 in
    found_ends c.requires.found.0 it.registry c.args.place.rest it.parts c.args.place.found it.lies c.args.place.set it.set (g.S.ImageSource.held c.args.images.now) c.requires.there

pub returns-in-Ok-Ok-clause-comes : goal.returns-in-Ok-Ok-clause-comes
returns-in-Ok-Ok-clause-comes g c =
    let held = g.S.ImageSource.held c.args.images.now in
    let leaves = LeavesBy g.C.Chooser.begins g.C.Chooser.picks c.args.choose.now in
    if_more _ _ c.replay_read.result
    (λ answer comes outline it.
    replays_from leaves c.args.schedule.now c.args.uuid.now outline c.args.place it answer held c.in-Ok-Ok.arenas
    (subst (λ (links : List Link). ReplaysOn leaves held c.args.uuid.now c.args.schedule.now outline c.args.place links answer) c.as_slice-arenas.ensures
    (subst (λ h. ReplaysOn leaves h c.args.uuid.now c.args.schedule.now outline c.args.place c.as_slice-arenas.result.now answer) c.in-Ok-Ok.ensures.same (comes outline it))) c.requires.there
    (λ contents shown. subst (λ r. IfOk r (AreAll (words_of (over c.args.place.set c.args.place.found.offset c.args.place.found.raw (rows_of contents))).kept c.args.uuid.now)) c.in-Ok-Ok.field-0-is (c.in-Ok-Ok.ensures.all contents shown))
    (λ contents shown. subst (λ r. IfOk r (HaveMapsOfBytes (bytes_by_place c.args.place.set c.args.place.found.offset c.args.place.found.raw contents))) c.in-Ok-Ok.field-0-is (c.in-Ok-Ok.ensures.bytes contents shown)))
    c.replay_read.ensures.comes

pub returns-in-Ok-Err-clause-comes : goal.returns-in-Ok-Err-clause-comes
returns-in-Ok-Err-clause-comes g c =
    let held = g.S.ImageSource.held c.args.images.now in
    let leaves = LeavesBy g.C.Chooser.begins g.C.Chooser.picks c.args.choose.now in
    kept (λ answer. (outline : Outline) → IsSectorPlace c.args.uuid.now outline c.args.place → ReplaysFrom leaves held c.args.uuid.now c.args.schedule.now outline answer) c.unopened_answer.result c.in_memory.result c.in_memory.ensures.same
    (three _ _ _ _ c.unopened_answer.result
    (λ answer says nothing finding outline it.
    replays_broken leaves c.args.schedule.now c.args.uuid.now outline c.args.place it answer held c.in-Ok-Err.refused nothing says c.requires.there
    (λ contents shown. c.in-Ok-Err.ensures.refused contents shown c.in-Ok-Err.refused c.in-Ok-Err.field-0-is finding))
    c.unopened_answer.ensures.text c.unopened_answer.ensures.saved c.unopened_answer.ensures.finding)
