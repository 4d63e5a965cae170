use Rattle.std.proofs.Common.{◌∙◌, List, Some, ap, sym, get_or}
use Rattle.arena_open.specs.declared.state.ArenaState.{ArenaState}
use Rattle.arena_open.proofs.ChainSectors.{sized, size_past}
use Rattle.arena_open.proofs.chain.Chain.sector_size.Goals as goal

pub returns-in-Some : goal.returns-in-Some
returns-in-Some c =
    ap (λ (states : List ArenaState). Some (get_or states c.in-Some.k c.index-arenas-k.result).info.layout.sector) c.arenas.ensures.value
    ∙ sym (sized c.args.self.now c.args.sector c.in-Some.k c.in-Some.field-0-1 c.index-arenas-k.result c.in-Some.ensures)

pub returns-in-None : goal.returns-in-None
returns-in-None c = sym (size_past c.args.self.now c.args.sector c.in-None.ensures)
