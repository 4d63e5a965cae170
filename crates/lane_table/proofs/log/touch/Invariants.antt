use Rattle.std.proofs.Common.{◌≡◌, ◌+◌}
use Rattle.std.specs.Prelude.{take, vec_capacity, vec_len}
use Rattle.lane_table.proofs.log.touch.Given as goal

abbrev pub invariant-loop : goal.invariant-loop
invariant-loop l = record {
  first : take l.count l.calls.items ≡ l.initial.calls.items;
  count : vec_len l.calls ≡ l.count + l.counter;
  room : vec_capacity l.calls ≡ vec_capacity l.initial.calls;
}
