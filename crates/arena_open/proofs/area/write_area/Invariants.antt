use Rattle.std.proofs.Common.{◌≡◌, true, take}
use Rattle.cut_words.specs.Fuses.{Makes}
use Rattle.arena_open.specs.Writes.{run_at, write_steps}
use Rattle.arena_open.proofs.area.write_area.Given as goal

-- the words so far are written
abbrev pub invariant-loop-i : goal.invariant-loop-i
invariant-loop-i g l = record {
  made : Makes (g.W.WordSpace.words l.initial.space) (g.W.WordSpace.words l.space) l.initial.fuse l.fuse (write_steps (take l.i (run_at l.base (g.A.AreaWords.values l.area)))) true;
  same : g.W.WordSpace.beside l.space ≡ g.W.WordSpace.beside l.initial.space;
}
