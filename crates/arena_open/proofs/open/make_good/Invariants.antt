use Rattle.std.proofs.Common.{◌≡◌, true, take}
use Rattle.cut_words.specs.Fuses.{Makes}
use Rattle.arena_open.specs.Writes.{write_steps}
use Rattle.arena_open.specs.Moves.{move_writes, shifted}
use Rattle.arena_open.proofs.Turns.{so_far}
use Rattle.arena_open.proofs.open.make_good.Given as goal

-- the moves so far are completed, in the space and in the copy
abbrev pub invariant-loop-half : goal.invariant-loop-half
invariant-loop-half g l = record {
  made : Makes (g.W.WordSpace.words l.initial.space) (g.W.WordSpace.words l.space) l.initial.fuse l.fuse
      (write_steps (take l.half-index (shifted l.at (move_writes l.layout l.initial.words l.moves)))) true;
  copy : l.words ≡ so_far l.layout l.at l.initial.words l.moves l.half-index;
  same : g.W.WordSpace.beside l.space ≡ g.W.WordSpace.beside l.initial.space;
}
