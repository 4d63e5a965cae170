use Rattle.std.proofs.Common.{refl}
use Rattle.lane_sessions.proofs.Arena.{arena_left, of_arena, of_passes, order, some_lane}
use Rattle.lane_sessions.proofs.closing.close_arena.Goals as goal

pub join-ends-requires : goal.join-ends-requires
join-ends-requires c = record {
  some = some_lane c.args.arena c.args.ends.items c.args.passes.items c.requires.0 c.requires.1;
  ends = c.requires.1.table;
  passes = of_passes c.args.arena c.args.ends.items c.args.passes.items c.requires.0 c.requires.1;
}

pub close-requires : goal.close-requires
close-requires c = record {
  ends = of_arena c.args.arena c.args.ends.items c.join-ends.result.items c.args.passes.items c.requires.0 c.requires.1 c.join-ends.ensures;
  every = order c.args.arena c.args.ends.items c.join-ends.result.items c.args.passes.items c.requires.0 c.requires.1 c.join-ends.ensures;
}

pub returns-in-Ok : goal.returns-in-Ok
returns-in-Ok c = λ state known opened made h.
    arena_left c.args.arena c.args.ends.items c.join-ends.result.items c.args.passes.items known h c.join-ends.ensures state c.in-Ok.closed _ opened made c.in-Ok.ensures.closed refl refl
