use Rattle.std.proofs.Common.{◌*◌, ◌<◌, length, sym, subst}
use Rattle.interleave.specs.Places.{LiesAt}
use Rattle.power_cut.specs.Namespace.{Namespace, byte_at, count_of, over}
use Rattle.power_cut.proofs.Spread.{in_rows}
use Rattle.power_cut.proofs.namespace.SetWords.locate.Goals as goal

pub locate-requires : goal.locate-requires
locate-requires c = subst (λ (n : Namespace). c.args.i < count_of n) (sym c.self.view_is) c.requires

pub returns-clause-there : goal.returns-clause-there
returns-clause-there c = subst (λ (n : Namespace). LiesAt n.set (byte_at n c.args.i) c.locate.result.0 (8 * c.locate.result.1)) c.self.view_is c.locate.ensures

pub returns-clause-module : goal.returns-clause-module
returns-clause-module c =
    let n : Namespace = over c.self.inside.extent.set c.self.inside.extent.offset c.self.inside.extent.raw c.self.inside.modules.items in
    subst (λ (m : Namespace). c.locate.result.0 < length m.modules) c.self.view_is (in_rows n (byte_at n c.args.i) c.locate.result.0 (8 * c.locate.result.1) c.self.invariant.1 c.locate.ensures)
