use Rattle.std.proofs.Common.{◌≡◌, ℕ, ◌-◌, [], length}
use mathlib.Core.Option.{some}
use lib.ListN.{get_elem?}
use Rattle.lane_table.specs.declared.lanes.Lane.{Lane}
use Rattle.lane_table.specs.Begun.{IsFresh}
use Rattle.lane_table.specs.Law.{keeper, opened_from, first_loose}
use Rattle.lane_table.proofs.dealing.deal.Given as goal

abbrev pub invariant-loop-number : goal.invariant-loop-number
invariant-loop-number l = record {
  table : l.dealer.table_id ≡ l.initial.dealer.table_id;
  dealer : l.dealer.me ≡ (keeper (opened_from l.shared.key l.number (l.shared.key.shape.lanes - l.number)) (first_loose l.number), []);
  count : length l.lanes.items ≡ l.number;
  each : (k : ℕ) (d : Lane) → get_elem? l.lanes.items k ≡ some d → IsFresh l.shared.table_id l.shared.key k d;
}
