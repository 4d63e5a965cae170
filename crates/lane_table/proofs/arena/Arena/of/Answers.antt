use Rattle.std.proofs.Common.{sym, subst}
use Rattle.lane_core.specs.declared.shape.Shape.{Shape}
use Rattle.lane_table.specs.Begun.{IsOpenArena}
use Rattle.lane_table.proofs.Opens.{made_if, opened_arena}
use Rattle.lane_table.proofs.arena.Arena.of.Goals as goal

pub arena_of-requires : goal.arena_of-requires
arena_of-requires c = let state = c.args.state in subst (λ (x : Shape). IsOpenArena x state.words state.lanes) (sym c.of-shape.ensures.value) (opened_arena state c.requires.state)

pub returns-clause-arena : goal.returns-clause-arena
returns-clause-arena c = made_if (λ r. r.0) c.args.state _ _ c.of-shape.ensures.value c.arena_of.ensures.shape
