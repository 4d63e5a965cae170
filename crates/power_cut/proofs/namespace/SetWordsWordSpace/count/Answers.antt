use Rattle.std.proofs.Common.{◌/◌, ap, sym, ◌∙◌}
use Rattle.power_cut.specs.Namespace.{Namespace, count_of}
use Rattle.power_cut.proofs.Spread.{count_is}
use Rattle.power_cut.proofs.namespace.SetWordsWordSpace.count.Goals as goal

pub returns : goal.returns
returns c = ap (λ b. b / 8) c.bytes.ensures.bytes ∙ ap (λ (n : Namespace). count_of n) c.self.view_is ∙ sym (count_is c.args.self.now)
