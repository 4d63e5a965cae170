use Rattle.std.proofs.Common.{rules, refl, Ok, ℕ, ◌+◌, None, sym, ap, ◌∙◌}
use Rattle.namespace_map.specs.declared.commands.Command.TheVariants as command
use Rattle.namespace_areas.specs.Refusals.{shown}
use Rattle.namespace_ops.specs.Claims.{with_count}
use Rattle.namespace_ops.specs.Counting.{state_in}
use Rattle.namespace_ops.proofs.Answers.{claim_answered}
use Rattle.namespace_ops.proofs.Findings.{carried_memory, claim_finding}
use Rattle.namespace_ops.proofs.counted.CountedNamespaces.claim.Goals as goal

pub returns-in_err-claim-clause-memory : goal.returns-in_err-claim-clause-memory
returns-in_err-claim-clause-memory c =
    let h = c.args.self.now.store in
    let other = carried_memory h.sets h.areas h.areas None None (command.Claim c.args.uuid.now) _ (claim_finding (shown h.sets h.areas) c.args.uuid.now) (c.claim.ensures.carried None) in search (rules, other)

pub returns-clause-answered : goal.returns-clause-answered
returns-clause-answered c fuse =
    let old = state_in c.args.self.now in
    claim_answered old c.set.new.self.counts fuse c.args.uuid.now (sym c.is_off.ensures ∙ c.if-is_off.false) (Ok tt) c.in_ok-claim.ensures.answer refl (c.in_ok-claim.ensures.carried fuse)
    (c.set.ensures.counts ∙ ap (λ (n : ℕ). with_count old.claims c.args.uuid.now (n + 1)) c.count-claims.ensures)
