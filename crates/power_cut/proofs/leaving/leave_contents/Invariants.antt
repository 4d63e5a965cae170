use Rattle.std.proofs.Common.{◌≡◌, ◌++◌}
use Rattle.cut_words.specs.Words.{IsLeft}
use Rattle.power_cut.specs.Left.{Each, InTurn, LeavesWords}
use Rattle.power_cut.proofs.leaving.leave_contents.Given as goal

abbrev pub invariant-loop-words : goal.invariant-loop-words
invariant-loop-words g l = record {
  rest : l.yielded ++ l.words-iterator.rest.items ≡ l.fn.contents;
  asked : InTurn (LeavesWords g.C.Chooser.picks) l.yielded l.left l.fn.choose l.choose;
  each : Each IsLeft l.yielded l.left;
}
