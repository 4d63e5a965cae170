use Rattle.std.proofs.Common.{◌*◌, length, ap, ◌∙◌}
use Rattle.power_cut.specs.Namespace.{Namespace}
use Rattle.power_cut.proofs.extent.SetExtent.first.Goals as goal

pub returns : goal.returns
returns c = ap (λ w. w * c.self.inside.offset) (c.from.ensures ∙ c.ways.ensures.ways) ∙ ap (λ (n : Namespace). length n.set * n.offset) c.self.view_is
