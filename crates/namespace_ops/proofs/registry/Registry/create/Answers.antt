use Rattle.std.proofs.Common.{◌≤◌, ap, sym, subst}
use Rattle.namespace_map.specs.declared.commands.Command.TheVariants as command
use Rattle.namespace_ops.specs.Claims.{Counts}
use Rattle.namespace_ops.specs.Counted.{IsReady}
use Rattle.namespace_ops.specs.Counting.{state_in}
use Rattle.namespace_ops.specs.Registered.{Registered, registered}
use Rattle.namespace_ops.specs.Room.{room_of}
use Rattle.namespace_ops.proofs.Kept.{kept_by_call}
use Rattle.namespace_ops.proofs.registry.Registry.create.Goals as goal

pub invariant_of-self : goal.invariant_of-self
invariant_of-self g c =
    let r : Registered = registered (state_in c.self.inside.namespaces) c.self.inside.journal.entries c.self.inside.journal.room c.self.inside.opening.value.items in
    let some : 1 ≤ room_of r.room c.args.tag.session = subst (λ (x : Registered). 1 ≤ room_of x.room c.args.tag.session) (sym c.self.view_is) c.requires.room in
    kept_by_call r (state_in c.create-reply.new.self) c.args.fuse.now c.create-reply.new.fuse c.args.tag (command.Create c.args.spec.now) c.create-reply.result c.enter.new.self.entries c.enter.new.self.room c.self.inside.namespaces.claims.room c.create-reply.new.self.claims.room
    c.self.invariant some c.create-reply.ensures.answered c.enter.ensures.entries c.enter.ensures.room (ap (λ (k : Counts). k.room) c.create-reply.ensures.claims)

pub create-reply-requires-clause-ready : goal.create-reply-requires-clause-ready
create-reply-requires-clause-ready g c = subst (λ (x : Registered). IsReady g.F.Formatter.ready x.sets (command.Create c.args.spec.now) c.args.formatter.now) (sym c.self.view_is) c.requires.ready
