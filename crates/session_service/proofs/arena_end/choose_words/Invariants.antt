use Rattle.cut_words.proofs.Left.{Asked}
use Rattle.session_service.specs.Ends.{two_valued}
use Rattle.session_service.proofs.arena_end.choose_words.Given as goal

abbrev pub invariant-loop-i : goal.invariant-loop-i
invariant-loop-i g l = Asked g.C.Chooser.picks (two_valued l.fn.kept.items l.fn.seen) l.left.items l.i l.fn.choose l.choose
