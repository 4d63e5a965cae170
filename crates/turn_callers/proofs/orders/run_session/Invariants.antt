use Rattle.std.proofs.Common.{◌≡◌, ◌-◌, length, map, take, vec_capacity}
use Rattle.turn_lock.specs.Passes.{lock_id}
use Rattle.turn_callers.specs.Orders.{made_at}
use Rattle.turn_callers.specs.Seats.{Seats}
use Rattle.turn_callers.proofs.orders.run_session.Given as goal

abbrev pub invariant-loop-order : goal.invariant-loop-order
invariant-loop-order g l = record {
  seats : Seats (map lock_id l.turns) l.fn.session.number (λ j. made_at l.fn.session.number j (take l.order-index l.orders) l.replies.items) (length l.orders - l.order-index) l.passes.items;
  count : length l.replies.items ≡ l.order-index;
  capacity : vec_capacity l.replies ≡ vec_capacity l.initial.replies;
}
