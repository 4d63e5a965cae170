use Rattle.std.proofs.Common.{sym, arith}
use Rattle.region_space.proofs.Fits.{any_at_each, any_none_at}
use Rattle.label_rescue.specs.Rescue.{is_taken_on}
use Rattle.label_rescue.proofs.taken.is_disputed.Goals as goal

pub returns-then-is_taken_at : goal.returns-then-is_taken_at
returns-then-is_taken_at c =
    sym (any_at_each (is_taken_on c.args.namespaces.now c.args.namespace.now c.args.found.now) c.args.set.now c.loop-position.position
    (omega (arith, c.ways-position-end.ensures.ways)) (λ b. sym (c.if-is_taken_at.ensures b)))

pub returns : goal.returns
returns c =
    sym (any_none_at (is_taken_on c.args.namespaces.now c.args.namespace.now c.args.found.now) c.args.set.now
    (λ k b lt. c.loop-position.invariant k b (omega (arith, c.ways-position-end.ensures.ways))))
