use Rattle.std.proofs.Common.{◌≡◌, ℕ, ◌/◌, ◌∙◌, List, get_or, ap, sym, subst}
use Rattle.arena_open.specs.declared.state.ArenaState.{ArenaState}
use Rattle.arena_open.specs.declared.cell.Cell.{Cell}
use Rattle.arena_open.specs.declared.cell.Cell.TheVariants as cell
use Rattle.arena_open.specs.Reading.{cell_at}
use Rattle.arena_open.specs.Cells.{GivesCell}
use Rattle.arena_open.proofs.ChainSectors.{cell_there, size_there}
use Rattle.arena_open.proofs.chain.Chain.read.Goals as goal

pub cell_of-requires-clause-room : goal.cell_of-requires-clause-room
cell_of-requires-clause-room c =
    let is : c.index-arenas-k.result ≡ get_or c.args.self.now c.in-Some.k c.index-arenas-k.result =
    c.index-arenas-k.is ∙ ap (λ (states : List ArenaState). get_or states c.in-Some.k c.index-arenas-k.result) c.arenas.ensures.value in
    c.requires.room ∙ ap (λ (n : ℕ). n / 8) (size_there c.args.self.now c.args.sector c.in-Some.k c.in-Some.own 0 c.index-arenas-k.result c.in-Some.ensures
    ∙ ap (λ (state : ArenaState). state.info.layout.sector) (sym is))

pub returns : goal.returns
returns c =
    let is : c.index-arenas-k.result ≡ get_or c.args.self.now c.in-Some.k c.index-arenas-k.result =
    c.index-arenas-k.is ∙ ap (λ (states : List ArenaState). get_or states c.in-Some.k c.index-arenas-k.result) c.arenas.ensures.value in
    let same = cell_there c.args.self.now c.args.sector c.in-Some.k c.in-Some.own cell.Bad c.index-arenas-k.result c.in-Some.ensures
    ∙ ap (λ (state : ArenaState). cell_at state.info.layout state.words c.in-Some.own) (sym is) in
    subst (λ (x : Cell). GivesCell x c.cell_of.result c.args.into.now c.cell_of.new.into) (sym same) c.cell_of.ensures
