use Rattle.image_set.specs.declared.outline.Outline.{Outline}
use Rattle.shell_reports.proofs.More.{if_more}
use Rattle.shell_sectors.specs.Writing.{IsSectorPlace}
use Rattle.shell_sectors.proofs.Asked.{kept}
use Rattle.shell_check.specs.Comes.{ChecksFrom}
use Rattle.shell_check.proofs.Coming.{answered_from}
use Rattle.shell_check.proofs.Lanes.{ok_is}
use Rattle.shell_check.proofs.command.place_answer.Goals as goal

pub saved_answer-requires : goal.saved_answer-requires
saved_answer-requires g c = record { found = (c.requires.found.0, (c.args.uuid.now, c.requires.found.1)) }

pub returns-in-Ok-Ok-clause-told : goal.returns-in-Ok-Ok-clause-told
returns-in-Ok-Ok-clause-told g c =
    let held = g.S.ImageSource.held c.args.images.now in
    kept (λ answer. (outline : Outline) → IsSectorPlace c.args.uuid.now outline c.args.place → ChecksFrom held c.args.uuid.now c.args.repair outline answer) c.saved_answer.result c.in_memory.result c.in_memory.ensures.same
    (if_more _ _ c.saved_answer.result
    (λ answer saved outline it.
    answered_from c.args.repair c.args.uuid.now outline c.args.place it c.in-Ok-Ok.checked.text.items c.in-Ok-Ok.checked.runs answer (saved outline c.args.uuid.now it) held c.requires.there
    (λ contents shown e is. ok_is _ c.in-Ok-Ok.field-0 c.in-Ok-Ok.checked c.in-Ok-Ok.field-0-is (c.in-Ok-Ok.ensures.told contents shown e is))
    (λ contents shown e is. ok_is _ c.in-Ok-Ok.field-0 c.in-Ok-Ok.checked c.in-Ok-Ok.field-0-is (c.in-Ok-Ok.ensures.repairs contents shown e is)))
    c.saved_answer.ensures)
