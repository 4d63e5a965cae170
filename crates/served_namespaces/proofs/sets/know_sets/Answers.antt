use Rattle.std.proofs.Common.{[], below_more}
use Rattle.std.proofs.lemmas.List.{get_or_read}
use Rattle.served_namespaces.specs.Places.{PlacesBytes}
use Rattle.served_namespaces.proofs.sets.know_sets.Goals as goal
use Rattle.std.proofs.Common.{subst}

pub loop-set-preserved : goal.loop-set-preserved
loop-set-preserved c =
    below_more _ _ c.loop-set.invariant
    (subst PlacesBytes (get_or_read c.args.sets.now c.loop-set.set-index c.set-item.result c.loop-set-test.true c.set-item.is []) c.know_set.ensures)
