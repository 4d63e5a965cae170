use Rattle.std.proofs.Common.{◌≡◌, ◌∙◌, ◌<◌, ◌≤◌, List, length, ap, sym, arith}
use Rattle.std.proofs.lemmas.List.{length-map}
use Rattle.arena_open.specs.declared.state.ArenaState.{ArenaState}
use Rattle.arena_open.specs.Chain.{state_at}
use Rattle.arena_open.proofs.ChainInPlace.{few_moves, link_is}
use Rattle.arena_open.proofs.chain_in_place.ReadChain.moves.Goals as goal

pub overflow_cast-result : goal.overflow_cast-result
overflow_cast-result g c =
    let count : length c.args.self.now ≡ length c.self.inside.arenas =
    sym (ap (λ (ss : List ArenaState). length ss) c.self.view_is) ∙ length-map c.self.inside.arenas (state_at (g.W.WordSpace.words c.self.inside.space).kept) in
    let lt : c.args.k < length c.self.inside.arenas = omega (arith, c.requires, count) in
    let is = link_is c.self.inside.arenas c.as_slice.result.now c.args.k c.arena.inside.at c.arena.inside.opened c.index-as_slice-k.result c.as_slice.ensures c.index-as_slice-k.is c.arena.view_is in
    let few : length c.arena.inside.opened.moves ≤ 256 =
    few_moves (g.W.WordSpace.words c.self.inside.space) c.self.inside.arenas c.args.k c.arena.inside.at c.arena.inside.opened c.self.invariant lt is in
    omega (arith, few, c.len.ensures)
