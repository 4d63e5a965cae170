use Rattle.std.proofs.Common.{◌≡◌, drop}
use Rattle.arena_open.specs.Reading.{moved}
use Rattle.arena_open.proofs.moves.make_moves.Given as goal

-- the moves still to be applied, on the map so far, yield the same map as all moves on the first one
abbrev pub invariant-loop-half : goal.invariant-loop-half
invariant-loop-half l = moved l.entries (drop l.half-index l.moves) ≡ moved l.initial.entries l.moves
