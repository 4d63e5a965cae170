use Rattle.std.proofs.Common.{◌≤◌, None, sym, subst}
use Rattle.namespace_map.specs.declared.commands.Command.TheVariants as command
use Rattle.namespace_ops.specs.Counted.{Answered}
use Rattle.namespace_ops.specs.Counting.{state_in}
use Rattle.namespace_ops.specs.Registered.{Registered, registered, state_of}
use Rattle.namespace_ops.specs.Room.{room_of}
use Rattle.namespace_ops.proofs.Kept.{few_claims, kept_by_call}
use Rattle.namespace_ops.proofs.registry.Registry.claim.Goals as goal

pub invariant_of-self : goal.invariant_of-self
invariant_of-self c =
    let r : Registered = registered (state_in c.self.inside.namespaces) c.self.inside.journal.entries c.self.inside.journal.room c.self.inside.opening.value.items in
    let some : 1 ≤ room_of r.room c.args.tag.session = subst (λ (x : Registered). 1 ≤ room_of x.room c.args.tag.session) (sym c.self.view_is) c.requires.room in
    kept_by_call r (state_in c.claim-reply.new.self) None None c.args.tag (command.Claim c.args.uuid.now) c.claim-reply.result c.enter.new.self.entries c.enter.new.self.room c.self.inside.namespaces.claims.room c.claim-reply.new.self.claims.room
    c.self.invariant some (c.claim-reply.ensures.answered None) c.enter.ensures.entries c.enter.ensures.room (c.claim-reply.ensures.room)

pub returns-clause-answered : goal.returns-clause-answered
returns-clause-answered c fuse = subst (λ (x : Registered). Answered (state_of x) (state_in c.claim-reply.new.self) fuse fuse (command.Claim c.args.uuid.now) c.claim-reply.result) c.self.view_is (c.claim-reply.ensures.answered fuse)

pub claim-reply-requires-clause-few : goal.claim-reply-requires-clause-few
claim-reply-requires-clause-few c =
    let r : Registered = registered (state_in c.self.inside.namespaces) c.self.inside.journal.entries c.self.inside.journal.room c.self.inside.opening.value.items in
    let some : 1 ≤ room_of r.room c.args.tag.session = subst (λ (x : Registered). 1 ≤ room_of x.room c.args.tag.session) (sym c.self.view_is) c.requires.room in
    few_claims r c.self.inside.namespaces.claims.room c.args.tag.session c.args.uuid.now c.self.invariant some
