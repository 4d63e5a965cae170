use Rattle.std.proofs.Common.{arith}
use Rattle.namespace_map.specs.Changes.{new_label}
use Rattle.namespace_ops.proofs.NewOnes.{one_more}
use Rattle.namespace_ops.proofs.creating.NewLabels.all.Goals as goal

pub loop-position-preserved : goal.loop-position-preserved
loop-position-preserved c =
    let new = c.args.self.now in
    one_more (new_label new.uuid new.name new.make c.args.set.now new.offset new.raw) c.args.set.now c.loop-position.position c.loop-position.own.items c.push.new.self.items c.at.result _
    (omega arith) c.in_ok-push.ensures.items c.at.ensures c.loop-position.invariant
