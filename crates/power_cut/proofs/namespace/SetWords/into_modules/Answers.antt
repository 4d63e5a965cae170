use Rattle.std.proofs.Common.{ap, sym, subst}
use Rattle.power_cut.specs.Namespace.{Namespace, IsLaid, IsOver, words_of}
use Rattle.power_cut.proofs.Spread.{is_over}
use Rattle.power_cut.proofs.namespace.SetWords.into_modules.Goals as goal

pub returns-clause-over : goal.returns-clause-over
returns-clause-over c =
    subst (λ ms. IsOver c.args.self ms (words_of c.args.self)) (sym (ap (λ (n : Namespace). n.modules) c.self.view_is))
    (is_over c.args.self (subst (λ n. IsLaid n) c.self.view_is c.self.invariant.0))
