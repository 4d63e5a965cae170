use Rattle.std.proofs.Common.{◌≡◌}
use Rattle.cut_words.specs.Words.{settled}
use lib.Seq.{paste}
use Rattle.sector_namespaces.proofs.changing.put_words.Given as goal

abbrev pub invariant-loop-i : goal.invariant-loop-i
invariant-loop-i g l = record {
  put : g.W.WordSpace.words l.space ≡ settled (paste (g.W.WordSpace.words l.initial.space).kept l.first l.words l.i);
  beside : g.W.WordSpace.beside l.space ≡ g.W.WordSpace.beside l.initial.space;
}
