use Rattle.std.proofs.Common.{◌≡◌, ◌<◌, ◌∙◌, ℕ, List, sym, subst, ap}
use Rattle.map_table.specs.declared.kinds.MapEntry.{MapEntry}
use Rattle.map_table.specs.Entry.{entry_of}
use Rattle.arena_open.specs.Reading.{entry_at, free_of}
use Rattle.arena_open.specs.Moves.{groups_of_lanes}
use Rattle.arena_open.proofs.Sectors.{sector_block}
use Rattle.arena_open.proofs.cell.cell_of.Goals as goal

pub read_cell-requires-clause-block : goal.read_cell-requires-clause-block
read_cell-requires-clause-block c =
    let is : c.sector_entry.result.block ≡ (entry_of (entry_at c.args.state.now.info.layout c.args.state.now.words c.args.sector) c.args.sector).block =
    ap (λ (e : MapEntry). e.block) c.sector_entry.ensures
    ∙ ap (λ (ws : List ℕ). (entry_of (entry_at c.args.state.now.info.layout ws c.args.sector) c.args.sector).block) c.as_slice-words.ensures in
    subst (λ (b : ℕ). b < c.args.state.now.info.layout.internal) (sym is)
    (sector_block c.args.state.now.info.layout c.args.state.now.words (free_of (groups_of_lanes c.args.state.now.lanes)) c.args.sector c.requires.state.once c.requires.sector)
