use Rattle.std.proofs.Common.{List, sym, ap, subst, ◌∙◌}
use Rattle.std.specs.Prelude.{sum_by}
use Rattle.arena_open.specs.Chain.{Link}
use Rattle.arena_open.specs.ChainCells.{sectors_of}
use Rattle.arena_open.specs.InPlace.{IsFew, external_in}
use Rattle.arena_open.proofs.ChainInPlace.{few_links, sum_links}
use Rattle.arena_open.proofs.chain_in_place.ReadChain.sectors.Goals as goal

pub sectors_in-requires : goal.sectors_in-requires
sectors_in-requires g c =
    subst (λ (ls : List Link). IsFew ls) (sym c.as_slice.ensures) (few_links (g.W.WordSpace.words c.self.inside.space) c.self.inside.arenas c.self.invariant)

pub returns : goal.returns
returns g c =
    c.sectors_in.ensures ∙ ap (sum_by external_in) c.as_slice.ensures ∙ sym (sum_links (g.W.WordSpace.words c.self.inside.space).kept c.self.inside.arenas)
    ∙ ap sectors_of c.self.view_is
