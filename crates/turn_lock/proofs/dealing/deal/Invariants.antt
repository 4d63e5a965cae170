use Rattle.std.proofs.Common.{◌≡◌, [], length}
use Rattle.turn_lock.specs.declared.table.Role.TheVariants.{Dealer}
use Rattle.turn_lock.specs.Passes.{AreFresh}
use Rattle.turn_lock.proofs.dealing.deal.Given as goal

abbrev pub invariant-loop-number : goal.invariant-loop-number
invariant-loop-number g l = record {
  table : l.dealer.table_id ≡ l.initial.dealer.table_id;
  dealer : l.dealer.me ≡ (Dealer l.number l.shared.key.value.value, []);
  count : length l.passes.items ≡ l.number;
  fresh : AreFresh {g = g.T.Parted} l.shared.table_id l.shared.key.value.value l.passes.items;
}
