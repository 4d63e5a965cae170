use Rattle.std.proofs.Common.{◌≡◌, ◌++◌}
use Rattle.power_cut.specs.Left.{Each, InTurn, IsLeftOf, LeavesOption}
use Rattle.power_cut.proofs.leaving.leave_areas.Given as goal

abbrev pub invariant-loop-area : goal.invariant-loop-area
invariant-loop-area g l = record {
  rest : l.yielded ++ l.area-iterator.rest.items ≡ l.fn.areas;
  asked : InTurn (LeavesOption g.C.Chooser.picks) l.yielded l.left l.fn.choose l.choose;
  each : Each IsLeftOf l.yielded l.left;
}
