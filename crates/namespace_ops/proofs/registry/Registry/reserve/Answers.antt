use Rattle.std.proofs.Common.{ℕ, ◌+◌, ◌≤◌, length, subst}
use Rattle.std.specs.Prelude.{sum}
use Rattle.namespace_ops.specs.Counting.{state_in}
use Rattle.namespace_ops.specs.Registered.{Registered, registered}
use Rattle.namespace_ops.proofs.Kept.{kept_by_give}
use Rattle.namespace_ops.proofs.registry.Registry.reserve.Goals as goal

pub invariant_of-self-2 : goal.invariant_of-self-2
invariant_of-self-2 c =
    let r : Registered = registered (state_in c.self.inside.namespaces) c.self.inside.journal.entries c.self.inside.journal.room c.self.inside.opening.value.items in
    let fits : length c.reserve.new.self.counts + sum c.in_ok-room.room ≤ c.reserve.new.self.room =
    subst (λ (n : ℕ). length c.reserve.new.self.counts + n ≤ c.reserve.new.self.room) c.total.ensures c.in_ok-reserve.ensures.room in
    kept_by_give c.give.result r c.reserve.new.self.counts c.give.new.self.entries c.give.new.self.room c.in_ok-room.room c.self.inside.namespaces.claims.room c.reserve.new.self.room c.self.invariant
    c.in_ok-reserve.ensures.counts c.give.ensures.entries c.in_ok-reserve.ensures.grows fits c.in_ok-room.ensures.few c.give.ensures.room c.give.ensures.same
