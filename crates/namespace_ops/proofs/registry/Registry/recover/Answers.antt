use Rattle.std.proofs.Common.{◌≡◌, ◌∙◌, false, [], ap}
use Rattle.namespace_ops.specs.Counting.{state_in}
use Rattle.namespace_ops.specs.Registered.{Registered, registered}
use Rattle.namespace_ops.proofs.Kept.{kept_cut, kept_recovered}
use Rattle.namespace_ops.proofs.registry.Registry.recover.Goals as goal

pub invariant_of-self : goal.invariant_of-self
invariant_of-self c =
    let r : Registered = registered (state_in c.self.inside.namespaces) c.self.inside.journal.entries c.self.inside.journal.room c.self.inside.opening.value.items in
    let running : r.stopped ≡ false = ap (λ (x : Registered). x.stopped) c.self.view_is ∙ c.requires.running in
    let empty : r.journal ≡ [] = ap (λ (x : Registered). x.journal) c.self.view_is ∙ c.requires.first in
    kept_recovered r c.recover.new.self.sets c.recover.new.self.areas c.snapshot.result.value.items c.recover.new.self.stopped c.self.inside.namespaces.claims.room c.self.invariant running empty
    c.in-Ok.ensures.stopped c.snapshot.ensures

pub invariant_of-self-in-Err : goal.invariant_of-self-in-Err
invariant_of-self-in-Err c =
    let r : Registered = registered (state_in c.self.inside.namespaces) c.self.inside.journal.entries c.self.inside.journal.room c.self.inside.opening.value.items in
    let running : r.stopped ≡ false = ap (λ (x : Registered). x.stopped) c.self.view_is ∙ c.requires.running in
    let empty : r.journal ≡ [] = ap (λ (x : Registered). x.journal) c.self.view_is ∙ c.requires.first in
    kept_cut r c.recover.new.self.sets c.recover.new.self.areas c.recover.new.self.stopped c.args.fuse.now c.recover.new.fuse c.self.inside.namespaces.claims.room c.self.invariant running empty
    c.in-Err.ensures.went c.in-Err.ensures.stopped c.in-Err.ensures.sets
