use Rattle.std.proofs.Common.{◌≡◌, ◌%◌, ◌^◌, ◌≤◌, map, Ok, sym, subst}
use Rattle.image_set.specs.declared.outline.Outline.{Outline}
use Rattle.arena_open.specs.Chain.{HasMemory, state_at}
use Rattle.namespace_bytes.specs.Putting.{AreAll}
use Rattle.namespace_words.specs.Source.{AreWithin, HasEnds, Reveals, words_by}
use Rattle.namespace_words.proofs.UncutArenas.{read_uncut}
use Rattle.power_cut.specs.Namespace.{Namespace, raw_bytes}
use Rattle.sector_namespaces.specs.View.{opened_view}
use Rattle.shell_changes.specs.Remains.{LeavesBy}
use Rattle.shell_reports.proofs.More.{if_both, if_more}
use Rattle.shell_sectors.specs.Writing.{IsSectorPlace}
use Rattle.shell_sectors.proofs.Asked.{found_ends, kept}
use Rattle.shell_sectors.proofs.Written.{few_bytes, whole_pages}
use Rattle.shell_replay.specs.Answering.{ReplaysOn}
use Rattle.shell_replay.proofs.Coming.{loaded_chain, never_refused, replays_hidden, replays_loaded}
use Rattle.shell_replay.proofs.replay.replay_arenas.Goals as goal

pub load_arenas-requires-clause-within : goal.load_arenas-requires-clause-within
load_arenas-requires-clause-within g c = subst (λ (e : Namespace). AreWithin (raw_bytes e) c.args.arenas.now) (sym c.of-extent.ensures.made) c.requires.within

pub load_arenas-requires-clause-pages : goal.load_arenas-requires-clause-pages
load_arenas-requires-clause-pages g c =
    subst (λ (e : Namespace). raw_bytes e % 4096 ≡ 0) (sym c.of-extent.ensures.made) (whole_pages c.args.uuid.now c.requires.found.0 c.args.place c.requires.found.1)

pub load_arenas-requires-clause-few : goal.load_arenas-requires-clause-few
load_arenas-requires-clause-few g c =
    subst (λ (e : Namespace). raw_bytes e ≤ 2 ^ 55) (sym c.of-extent.ensures.made)
    (few_bytes c.args.uuid.now c.requires.found.0 c.args.place c.requires.found.1)

pub load_arenas-requires-clause-there : goal.load_arenas-requires-clause-there
load_arenas-requires-clause-there g c =
    let it = c.requires.found.1 in
    let held = g.S.ImageSource.held c.args.images.now in
    subst (λ (e : Namespace). HasEnds held e.set) (sym c.of-extent.ensures.made)
    (found_ends c.requires.found.0 it.registry c.args.place.rest it.parts c.args.place.found it.lies c.args.place.set it.set held c.requires.there)

pub unopened_answer-requires : goal.unopened_answer-requires
unopened_answer-requires g c =
    let some = c.in-Ok-Err.ensures.refused in
    read_uncut some.0 c.args.uuid.now c.in-Ok-Err.refused (subst (λ r. HasMemory r → r ≡ opened_view some.0 c.args.uuid.now) c.in-Ok-Err.field-0-is some.2)

pub returns-in-Ok-Ok-clause-comes : goal.returns-in-Ok-Ok-clause-comes
returns-in-Ok-Ok-clause-comes g c =
    let held = g.S.ImageSource.held c.args.images.now in
    let leaves = LeavesBy g.C.Chooser.begins g.C.Chooser.picks c.args.choose.now in
    kept (λ answer. (outline : Outline) → IsSectorPlace c.args.uuid.now outline c.args.place → ReplaysOn leaves held c.args.uuid.now c.args.schedule.now outline c.args.place c.args.arenas.now answer)
    c.replay_chain.result c.in_memory.result c.in_memory.ensures.same
    (if_more _ _ c.replay_chain.result
    (λ answer comes outline it.
    replays_loaded leaves c.args.schedule.now c.args.uuid.now outline c.args.place it answer held c.args.arenas.now c.in-Ok-Ok.chain c.requires.small (comes outline c.args.uuid.now it)
    (λ contents shown all.
    loaded_chain _ c.in-Ok-Ok.chain _ c.in-Ok-Ok.field-0-is
    (subst (λ (e : Namespace). Reveals held e.set contents → AreAll (words_by e contents) c.args.uuid.now c.args.arenas.now → HasMemory c.in-Ok-Ok.field-0 → c.in-Ok-Ok.field-0 ≡ Ok (map (state_at (words_by e contents)) c.args.arenas.now))
    c.of-extent.ensures.made (c.in-Ok-Ok.ensures.told contents) shown all)))
    c.replay_chain.ensures)

pub returns-in-Ok-Err-clause-comes : goal.returns-in-Ok-Err-clause-comes
returns-in-Ok-Err-clause-comes g c =
    let held = g.S.ImageSource.held c.args.images.now in
    let leaves = LeavesBy g.C.Chooser.begins g.C.Chooser.picks c.args.choose.now in
    kept (λ answer. (outline : Outline) → IsSectorPlace c.args.uuid.now outline c.args.place → ReplaysOn leaves held c.args.uuid.now c.args.schedule.now outline c.args.place c.args.arenas.now answer)
    c.unopened_answer.result c.in_memory-in-Ok-Err.result c.in_memory-in-Ok-Err.ensures.same
    (if_both _ _ _ c.unopened_answer.result
    (λ answer nothing finding outline it.
    replays_hidden leaves c.args.schedule.now c.args.uuid.now outline c.args.place it answer held c.args.arenas.now nothing
    (λ contents shown all.
    never_refused _ c.in-Ok-Err.refused _ c.in-Ok-Err.field-0-is finding
    (subst (λ (e : Namespace). Reveals held e.set contents → AreAll (words_by e contents) c.args.uuid.now c.args.arenas.now → HasMemory c.in-Ok-Err.field-0 → c.in-Ok-Err.field-0 ≡ Ok (map (state_at (words_by e contents)) c.args.arenas.now))
    c.of-extent.ensures.made (c.in-Ok-Err.ensures.told contents) shown all)))
    c.unopened_answer.ensures.saved c.unopened_answer.ensures.finding)
