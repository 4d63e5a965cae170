use Rattle.std.proofs.Common.{◌≡◌, ◌+◌}
use Rattle.std.specs.Prelude.{map, sum}
use Rattle.std.specs.List.{range_with_len}
use Rattle.namespace_ops.specs.Room.{room_of}
use Rattle.namespace_ops.proofs.journal_room.added.Given as goal

abbrev pub invariant-loop-session : goal.invariant-loop-session
invariant-loop-session l = (l.sessions.items ≡ map (λ q. room_of l.room q + room_of l.calls q) (range_with_len 0 l.session)) × (l.total ≡ sum l.sessions.items)
