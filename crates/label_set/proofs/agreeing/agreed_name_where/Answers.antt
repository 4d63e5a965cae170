use Rattle.std.proofs.Common.{rules, ◌≡◌, None, ◌∙◌, sym}
use Rattle.label_set.specs.Rules.{is_marked}
use Rattle.label_set.proofs.Firsts.{agreed_where, not_agreed_where, none_where}
use Rattle.label_set.proofs.agreeing.agreed_name_where.Goals as goal

pub returns-in_err-first : goal.returns-in_err-first
returns-in_err-first c =
    let none : c.from_residual.result ≡ None = search rules in
    none ∙ none_where (is_marked c.args.updating) c.args.labels.now (search rules)

pub returns-then-all_marked_named : goal.returns-then-all_marked_named
returns-then-all_marked_named c =
    agreed_where (is_marked c.args.updating) c.args.labels.now c.in_ok-first.first.now c.in_ok-first.ensures (sym c.all_marked_named.ensures ∙ c.if-all_marked_named.true)

pub returns-else-all_marked_named : goal.returns-else-all_marked_named
returns-else-all_marked_named c =
    not_agreed_where (is_marked c.args.updating) c.args.labels.now c.in_ok-first.first.now c.in_ok-first.ensures (sym c.all_marked_named.ensures ∙ c.if-all_marked_named.false)
