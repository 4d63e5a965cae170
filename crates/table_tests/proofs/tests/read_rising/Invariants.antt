use Rattle.std.proofs.Common.{◌≡◌, length}
use Rattle.lane_table.specs.Kits.{IsOf}
use Rattle.table_tests.proofs.tests.read_rising.Given as goal

abbrev pub invariant-loop : goal.invariant-loop
invariant-loop l = IsOf l.arena l.client.lane.kit × (l.client.lane.kit.number ≡ l.initial.client.lane.kit.number) × (length l.into ≡ 64)
