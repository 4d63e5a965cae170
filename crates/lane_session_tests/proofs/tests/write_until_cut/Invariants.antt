use Rattle.std.proofs.Common.{◌≡◌, ◌-◌}
use Rattle.lane_session_tests.specs.More.{MayCallMore}
use Rattle.lane_session_tests.proofs.tests.write_until_cut.Given as goal

abbrev pub invariant-loop-n : goal.invariant-loop-n
invariant-loop-n g l = record {
  number : l.session.number ≡ l.initial.session.number;
  may : MayCallMore l.sectors (20 - l.n) l.session;
}
