use Rattle.std.proofs.Common.{◌*◌, ap, ◌∙◌, subst}
use Rattle.power_cut.specs.Namespace.{IsLaid, Namespace, raw_bytes}
use Rattle.power_cut.proofs.extent.SetExtent.bytes.Goals as goal

pub returns-clause-bytes : goal.returns-clause-bytes
returns-clause-bytes c = ap (λ w. w * c.self.inside.raw) (c.from.ensures ∙ c.ways.ensures.ways) ∙ ap (λ (n : Namespace). raw_bytes n) c.self.view_is

pub returns-clause-laid : goal.returns-clause-laid
returns-clause-laid c = subst (λ (n : Namespace). IsLaid n) c.self.view_is c.self.invariant
