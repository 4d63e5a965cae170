use Rattle.std.proofs.Common.{◌≡◌, ◌++◌}
use Rattle.power_cut.specs.Left.{Each, InTurn}
use Rattle.cut_words.specs.Words.{IsLeft}
use Rattle.shell_serve.specs.Chosen.{LeavesArenas}
use Rattle.shell_serve.proofs.cutting.cut_all.Given as goal

abbrev pub invariant-loop-own : goal.invariant-loop-own
invariant-loop-own g l = record {
  rest : l.yielded ++ l.own-iterator.rest.items ≡ l.fn.arenas.items;
  asked : InTurn (LeavesArenas g.C.Chooser.picks) l.yielded l.left.items l.fn.choose l.choose;
  each : Each (λ own parts. Each IsLeft own.items parts) l.yielded l.left.items;
}
