use Rattle.std.proofs.Common.{sym, subst}
use Rattle.power_cut.specs.Namespace.{Namespace, ReachEnds, over}
use Rattle.power_cut.proofs.Places.{are_apart}
use Rattle.power_cut.proofs.Spread.{is_over, laid_any}
use Rattle.power_cut.proofs.namespace.SetWords.of.Goals as goal

pub invariant_of-result : goal.invariant_of-result
invariant_of-result c = (
  laid_any c.of.result c.args.modules.items c.of.ensures.laid,
  record {
    rows = c.requires.rows;
    reach = subst (λ (n : Namespace). ReachEnds n.set c.args.modules.items) (sym c.of.ensures.made) c.requires.reach;
  },
)

pub returns-clause-apart : goal.returns-clause-apart
returns-clause-apart c = are_apart (over c.of.result.set c.of.result.offset c.of.result.raw c.args.modules.items) (laid_any c.of.result c.args.modules.items c.of.ensures.laid)

pub returns-clause-over : goal.returns-clause-over
returns-clause-over c = is_over (over c.of.result.set c.of.result.offset c.of.result.raw c.args.modules.items) (laid_any c.of.result c.args.modules.items c.of.ensures.laid)
