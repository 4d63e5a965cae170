use Rattle.std.proofs.Common.{◌≡◌, [], ◌++◌, map}
use Rattle.std.specs.Prelude.{vec_capacity}
use Rattle.lane_table.specs.Kits.{kit_in, owned_in, all_loose}
use Rattle.lane_table.specs.Law.{keeper}
use Rattle.lane_table.proofs.gathering.gather.Given as goal

abbrev pub invariant-loop-end : goal.invariant-loop-end
invariant-loop-end l = record {
  table : l.host.table_id ≡ l.shared.table_id;
  known : l.host.me ≡ (keeper (map (λ e. owned_in (kit_in e)) l.yielded) (all_loose l.yielded), []);
  logs : l.logs.items ≡ map (λ e. (kit_in e).log.calls) l.yielded;
  room : vec_capacity l.logs ≡ vec_capacity l.initial.logs;
  rest : l.yielded ++ l.end-iterator.rest.items ≡ l.fn.ends.items;
}
