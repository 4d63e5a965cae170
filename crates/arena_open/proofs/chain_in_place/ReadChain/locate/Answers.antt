use Rattle.arena_open.proofs.ChainInPlace.{located}
use Rattle.arena_open.proofs.chain_in_place.ReadChain.locate.Goals as goal

pub returns : goal.returns
returns g c =
    located (g.W.WordSpace.words c.self.inside.space).kept c.self.inside.arenas c.as_slice.result.now c.args.self.now c.args.sector c.locate_in.result c.as_slice.ensures c.self.view_is
    c.locate_in.ensures
