use Rattle.std.proofs.Common.{◌≡◌, [], ◌++◌}
use Rattle.turn_lock.specs.declared.table.Role.TheVariants.{Keeper}
use Rattle.turn_lock.specs.Passes.{entries_of}
use Rattle.turn_lock.proofs.gathering.gather.Given as goal

abbrev pub invariant-loop-pass : goal.invariant-loop-pass
invariant-loop-pass g l = record {
  table : l.keeper.table_id ≡ l.shared.table_id;
  known : l.keeper.me ≡ (Keeper (entries_of {g = g.T.Parted} l.yielded), []);
  rest : l.yielded ++ l.pass-iterator.rest.items ≡ l.fn.passes.items;
}
