use Rattle.std.proofs.Common.{sym, subst}
use Rattle.image_set.specs.declared.changing.OutlineRest.{OutlineRest}
use Rattle.image_set.specs.declared.outline.Outline.{Outline}
use Rattle.image_set.specs.Outline.{HasContents}
use Rattle.shell_reports.proofs.More.{if_both, if_more}
use Rattle.shell_sectors.specs.Opening.{IsOpenOutline}
use Rattle.shell_sectors.specs.Writing.{WritesFrom}
use Rattle.shell_sectors.proofs.Asked.{kept}
use Rattle.shell_sectors.proofs.Written.{placed, unfound}
use Rattle.shell_sectors.proofs.write.write_named.Goals as goal

pub write-requires-clause-there : goal.write-requires-clause-there
write-requires-clause-there g c = λ source told. subst (λ (r : OutlineRest). HasContents r.sizes source) (sym c.place_in-place.ensures.rest) (c.requires.there source told)

pub returns-in-Ok-clause-writes : goal.returns-in-Ok-clause-writes
returns-in-Ok-clause-writes g c =
    let made = c.place_in-place.ensures in
    if_more _ _ c.write.result
    (λ answer writes outline o. writes outline (placed c.args.uuid.now outline c.args.registry c.args.rest c.in-Ok.found c.place_in-place.result o c.in-Ok.ensures.found c.in-Ok.ensures.lies made.set made.found made.areas made.rest))
    c.write.ensures.writes

pub returns-in-Err-clause-writes : goal.returns-in-Err-clause-writes
returns-in-Err-clause-writes g c =
    let held = g.S.ImageSource.held c.args.images.now in
    kept (λ answer. (outline : Outline) → IsOpenOutline outline c.args.registry c.args.rest → WritesFrom held c.args.uuid.now c.args.call.0 c.args.call.1 outline answer) c.unfound_answer.result c.in_memory.result c.in_memory.ensures.same
    (if_both _ _ _ c.unfound_answer.result
    (λ answer says nothing outline o. unfound outline c.args.registry c.args.rest o c.args.uuid.now held c.args.call.0 c.args.call.1 c.in-Err.refused answer c.in-Err.ensures.found nothing says)
    c.unfound_answer.ensures.text c.unfound_answer.ensures.saved)
