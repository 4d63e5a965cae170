use Rattle.lane_core.proofs.Leaves.{Leaving}
use Rattle.lane_core.proofs.row.Row.leave.Given as goal

abbrev pub invariant-loop-i : goal.invariant-loop-i
invariant-loop-i g l = Leaving g.C.Chooser.picks l.fn.self l.words.items l.i l.fn.choose l.choose
