use Rattle.std.proofs.Common.{◌∙◌, sym, subst}
use Rattle.served_namespaces.specs.Places.{AreDifferent}
use Rattle.served_namespaces.proofs.Firsts.{firsts_differ}
use Rattle.served_namespaces.proofs.finding.first_ones.Goals as goal

pub returns-clause-different : goal.returns-clause-different
returns-clause-different c = subst AreDifferent (sym (c.in_ok-ones.ensures ∙ c.in_ok-set.ensures)) (firsts_differ c.args.uuids.now)
