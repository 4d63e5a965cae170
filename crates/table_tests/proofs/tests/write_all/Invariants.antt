use Rattle.std.proofs.Common.{◌≡◌}
use Rattle.lane_table.specs.Kits.{IsOf}
use Rattle.table_tests.proofs.tests.write_all.Given as goal

abbrev pub invariant-loop-value : goal.invariant-loop-value
invariant-loop-value l = IsOf l.arena l.client.lane.kit × (l.client.lane.kit.number ≡ l.initial.client.lane.kit.number)
