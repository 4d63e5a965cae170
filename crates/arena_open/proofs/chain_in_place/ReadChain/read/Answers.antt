use Rattle.std.proofs.Common.{◌∙◌, ℕ, ◌/◌, List, ap, sym, subst}
use Rattle.arena_open.specs.declared.cell.Cell.{Cell}
use Rattle.arena_open.specs.declared.cell.Cell.TheVariants as cell
use Rattle.arena_open.specs.Cells.{GivesCell}
use Rattle.arena_open.specs.Chain.{Link}
use Rattle.arena_open.specs.ChainCells.{LiesIn}
use Rattle.arena_open.specs.InPlace.{LiesInLink}
use Rattle.arena_open.proofs.ChainInPlace.{cell_is, lies_in, link_is, size_is}
use Rattle.arena_open.proofs.chain_in_place.ReadChain.read.Goals as goal

pub cell_in_place-requires-clause-room : goal.cell_in_place-requires-clause-room
cell_in_place-requires-clause-room g c =
    let words = (g.W.WordSpace.words c.self.inside.space).kept in
    let l : LiesInLink c.self.inside.arenas c.args.sector c.in-Some.k c.in-Some.own =
    subst (λ (ls : List Link). LiesInLink ls c.args.sector c.in-Some.k c.in-Some.own) c.as_slice.ensures c.in-Some.ensures in
    let lies : LiesIn c.args.self.now c.args.sector c.in-Some.k c.in-Some.own = subst (λ ss. LiesIn ss c.args.sector c.in-Some.k c.in-Some.own) c.self.view_is
    (lies_in (g.W.WordSpace.words c.self.inside.space).kept c.self.inside.arenas c.args.sector c.in-Some.k c.in-Some.own l) in
    let is = link_is c.self.inside.arenas c.as_slice-in-Some.result.now c.in-Some.k c.arena.inside.at c.arena.inside.opened c.index-as_slice-k.result c.as_slice-in-Some.ensures c.index-as_slice-k.is c.arena.view_is in
    c.requires.room ∙ ap (λ (n : ℕ). n / 8) (size_is (g.W.WordSpace.words c.self.inside.space).kept c.self.inside.arenas c.args.self.now c.in-Some.k c.arena.inside.at c.arena.inside.opened c.self.view_is l.there is
    c.args.sector c.in-Some.own lies)

pub returns : goal.returns
returns g c =
    let l : LiesInLink c.self.inside.arenas c.args.sector c.in-Some.k c.in-Some.own =
    subst (λ (ls : List Link). LiesInLink ls c.args.sector c.in-Some.k c.in-Some.own) c.as_slice.ensures c.in-Some.ensures in
    let lies : LiesIn c.args.self.now c.args.sector c.in-Some.k c.in-Some.own = subst (λ ss. LiesIn ss c.args.sector c.in-Some.k c.in-Some.own) c.self.view_is
    (lies_in (g.W.WordSpace.words c.self.inside.space).kept c.self.inside.arenas c.args.sector c.in-Some.k c.in-Some.own l) in
    let is = link_is c.self.inside.arenas c.as_slice-in-Some.result.now c.in-Some.k c.arena.inside.at c.arena.inside.opened c.index-as_slice-k.result c.as_slice-in-Some.ensures c.index-as_slice-k.is c.arena.view_is in
    let same = cell_is (g.W.WordSpace.words c.self.inside.space).kept c.self.inside.arenas c.args.self.now c.in-Some.k c.arena.inside.at c.arena.inside.opened c.self.view_is l.there is
    c.args.sector c.in-Some.own lies cell.Bad in
    subst (λ (x : Cell). GivesCell x c.cell_in_place.result c.args.into.now c.cell_in_place.new.into) (sym same) c.cell_in_place.ensures
