use Rattle.std.proofs.Common.{◌≡◌, take}
use Rattle.arena_open.specs.Reading.{moves_of}
use Rattle.arena_open.proofs.moves.pending_moves.Given as goal

abbrev pub invariant-loop-group : goal.invariant-loop-group
invariant-loop-group l = l.moves ≡ moves_of l.entries (take l.group-index l.groups)
