use Rattle.std.proofs.Common.{◌≡◌, ◌++◌}
use Rattle.power_cut.specs.Left.{Each, InTurn, LeavesWords}
use Rattle.cut_words.specs.Words.{IsLeft}
use Rattle.shell_serve.proofs.cutting.cut_arenas.Given as goal

abbrev pub invariant-loop-arena : goal.invariant-loop-arena
invariant-loop-arena g l = record {
  rest : l.yielded ++ l.arena-iterator.rest.items ≡ l.fn.arenas.items;
  asked : InTurn (LeavesWords g.C.Chooser.picks) l.yielded l.left l.fn.choose l.choose;
  each : Each IsLeft l.yielded l.left;
}
