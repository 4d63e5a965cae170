use Rattle.namespace_ops.specs.Registered.{Registered}
use Rattle.namespace_ops.proofs.Kept.{kept_first}
use Rattle.namespace_ops.proofs.registry.Registry.first.Goals as goal

pub invariant_of-result : goal.invariant_of-result
invariant_of-result c =
    let r : Registered = record { sets = c.args.store.sets; areas = c.args.store.areas; stopped = c.args.store.stopped; claims = c.new.result.counts; journal = c.new-2.result.entries; room = c.new-2.result.room; opening = c.snapshot-opening.result.value.items } in
    kept_first r c.new.result.room c.requires.running c.new.ensures c.new-2.ensures.entries c.new-2.ensures.room c.snapshot-opening.ensures
