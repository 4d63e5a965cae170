use Rattle.std.proofs.Common.{◌∙◌, sym}
use Rattle.label_set.proofs.Firsts.{agreed_by, not_agreed_by}
use Rattle.label_set.proofs.agreeing.agreed_name.Goals as goal

pub returns-then-all_named : goal.returns-then-all_named
returns-then-all_named c = agreed_by c.args.labels.now c.in_ok-first.first.now c.in_ok-first.ensures.value (sym c.all_named.ensures ∙ c.if-all_named.true)

pub returns-else-all_named : goal.returns-else-all_named
returns-else-all_named c = not_agreed_by c.args.labels.now c.in_ok-first.first.now c.in_ok-first.ensures.value (sym c.all_named.ensures ∙ c.if-all_named.false)
