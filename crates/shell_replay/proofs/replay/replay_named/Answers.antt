use Rattle.std.proofs.Common.{sym, subst}
use Rattle.image_set.specs.declared.changing.OutlineRest.{OutlineRest}
use Rattle.image_set.specs.declared.outline.Outline.{Outline}
use Rattle.image_set.specs.Outline.{HasContents}
use Rattle.shell_changes.specs.Remains.{LeavesBy}
use Rattle.shell_reports.proofs.More.{if_both, if_more}
use Rattle.shell_sectors.specs.Opening.{IsOpenOutline}
use Rattle.shell_sectors.proofs.Asked.{kept}
use Rattle.shell_sectors.proofs.Written.{placed}
use Rattle.shell_replay.specs.Answering.{ReplaysFrom}
use Rattle.shell_replay.proofs.Coming.{unfound}
use Rattle.shell_replay.proofs.replay.replay_named.Goals as goal

pub replay_found-requires-clause-there : goal.replay_found-requires-clause-there
replay_found-requires-clause-there g c = λ source told. subst (λ (r : OutlineRest). HasContents r.sizes source) (sym c.place_in-place.ensures.rest) (c.requires.there source told)

pub returns-in-Ok-clause-comes : goal.returns-in-Ok-clause-comes
returns-in-Ok-clause-comes g c =
    let made = c.place_in-place.ensures in
    if_more _ _ c.replay_found.result
    (λ answer comes outline o. comes outline (placed c.args.uuid.now outline c.args.registry c.args.rest c.in-Ok.found c.place_in-place.result o c.in-Ok.ensures.found c.in-Ok.ensures.lies made.set made.found made.areas made.rest))
    c.replay_found.ensures.comes

pub returns-in-Err-clause-comes : goal.returns-in-Err-clause-comes
returns-in-Err-clause-comes g c =
    let held = g.S.ImageSource.held c.args.images.now in
    let leaves = LeavesBy g.C.Chooser.begins g.C.Chooser.picks c.args.choose.now in
    kept (λ answer. (outline : Outline) → IsOpenOutline outline c.args.registry c.args.rest → ReplaysFrom leaves held c.args.uuid.now c.args.schedule.now outline answer) c.unfound_answer.result c.in_memory.result c.in_memory.ensures.same
    (if_both _ _ _ c.unfound_answer.result
    (λ answer says nothing outline o. unfound leaves c.args.schedule.now c.args.uuid.now outline c.args.registry c.args.rest o held c.in-Err.refused answer c.in-Err.ensures.found nothing says)
    c.unfound_answer.ensures.text c.unfound_answer.ensures.saved)
