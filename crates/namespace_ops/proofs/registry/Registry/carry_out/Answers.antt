use Rattle.std.proofs.Common.{◌≤◌, sym, subst}
use Rattle.namespace_ops.specs.Counted.{IsReady}
use Rattle.namespace_ops.specs.Counting.{state_in}
use Rattle.namespace_ops.specs.Registered.{Registered, registered}
use Rattle.namespace_ops.specs.Room.{room_of}
use Rattle.namespace_ops.proofs.Kept.{few_claims, kept_by_call}
use Rattle.namespace_ops.proofs.registry.Registry.carry_out.Goals as goal

pub invariant_of-self : goal.invariant_of-self
invariant_of-self g c =
    let r : Registered = registered (state_in c.self.inside.namespaces) c.self.inside.journal.entries c.self.inside.journal.room c.self.inside.opening.value.items in
    let some : 1 ≤ room_of r.room c.args.tag.session = subst (λ (x : Registered). 1 ≤ room_of x.room c.args.tag.session) (sym c.self.view_is) c.requires.room in
    kept_by_call r (state_in c.carry_out-reply.new.self) c.args.fuse.now c.carry_out-reply.new.fuse c.args.tag c.args.command.now c.carry_out-reply.result c.enter.new.self.entries c.enter.new.self.room
    c.self.inside.namespaces.claims.room c.carry_out-reply.new.self.claims.room c.self.invariant some c.carry_out-reply.ensures.answered c.enter.ensures.entries c.enter.ensures.room c.carry_out-reply.ensures.room

pub carry_out-reply-requires-clause-few : goal.carry_out-reply-requires-clause-few
carry_out-reply-requires-clause-few g c uuid =
    let r : Registered = registered (state_in c.self.inside.namespaces) c.self.inside.journal.entries c.self.inside.journal.room c.self.inside.opening.value.items in
    let some : 1 ≤ room_of r.room c.args.tag.session = subst (λ (x : Registered). 1 ≤ room_of x.room c.args.tag.session) (sym c.self.view_is) c.requires.room in
    few_claims r c.self.inside.namespaces.claims.room c.args.tag.session uuid c.self.invariant some

pub carry_out-reply-requires-clause-ready : goal.carry_out-reply-requires-clause-ready
carry_out-reply-requires-clause-ready g c = subst (λ (x : Registered). IsReady g.F.Formatter.ready x.sets c.args.command.now c.args.formatter.now) (sym c.self.view_is) c.requires.ready
