use Rattle.std.proofs.Common.{◌≡◌, ℕ, ◌-◌, sym, ap, ◌∙◌, arith}
use Rattle.namespace_areas.proofs.Went.{went_none}
use Rattle.namespace_ops.specs.Claims.{count_of, with_count}
use Rattle.namespace_ops.specs.Counting.{state_in}
use Rattle.namespace_ops.proofs.Answers.{unclaim_answered}
use Rattle.namespace_ops.proofs.counted.CountedNamespaces.unclaim.Goals as goal

pub returns-clause-answered : goal.returns-clause-answered
returns-clause-answered c fuse =
    let old = state_in c.args.self.now in
    let running = sym c.is_off.ensures ∙ c.if-is_off.false in
    let less : c.saturating_sub.result ≡ count_of old.claims c.args.uuid.now - 1 = omega (arith, c.saturating_sub.ensures, c.count-claims.ensures) in
    unclaim_answered old c.set.new.self.counts fuse c.args.uuid.now running (went_none old.areas fuse (c.areas-areas.ensures.held running)) (c.set.ensures.counts ∙ ap (λ (n : ℕ). with_count old.claims c.args.uuid.now n) less)
