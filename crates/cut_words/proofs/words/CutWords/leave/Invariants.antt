use Rattle.cut_words.proofs.Left.{Asked}
use Rattle.cut_words.proofs.words.CutWords.leave.Given as goal

abbrev pub invariant-loop-i : goal.invariant-loop-i
invariant-loop-i g l = Asked g.C.Chooser.picks l.fn.self l.kept.items l.i l.fn.choose l.choose
