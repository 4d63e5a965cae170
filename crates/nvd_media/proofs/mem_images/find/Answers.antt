use Rattle.std.proofs.Common.{sym, ◌∙◌}
use Rattle.nvd_media.proofs.Found.{lookup_here, lookup_on, lookup_end}
use Rattle.nvd_media.proofs.mem_images.find.Goals as goal

pub returns-then-is : goal.returns-then-is
returns-then-is c =
    rw c.deref.ensures.value
    (sym (lookup_here c.args.objects.now c.loop-stored.stored-index c.stored-item.result c.args.object c.loop-stored-test.true c.stored-item.is (sym c.is.ensures ∙ c.if-is.true))
    ∙ c.loop-stored.invariant)

pub loop-stored-preserved : goal.loop-stored-preserved
loop-stored-preserved c =
    sym (lookup_on c.args.objects.now c.loop-stored.stored-index c.stored-item.result c.args.object c.loop-stored-test.true c.stored-item.is (sym c.is.ensures ∙ c.if-is.false))
    ∙ c.loop-stored.invariant

pub returns : goal.returns
returns c = sym (lookup_end c.args.objects.now c.loop-stored.stored-index c.args.object c.loop-stored-test.false) ∙ c.loop-stored.invariant
