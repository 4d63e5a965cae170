use Rattle.std.proofs.Common.{◌≡◌, ◌<◌, true}
use Rattle.lane_table.specs.Kits.{IsOf, held_in, spare_in}
use Rattle.lane_table.specs.Law.{may_enter}
use Rattle.table_tests.proofs.client.stage.Given as goal

abbrev pub invariant-loop : goal.invariant-loop
invariant-loop l =
    IsOf l.arena l.lane.kit × (l.lane.kit.number ≡ l.initial.lane.kit.number) × (0 < spare_in l.lane.kit)
    × (may_enter (held_in l.lane.kit) (record { session = l.session; call = l.next }) ≡ true)
