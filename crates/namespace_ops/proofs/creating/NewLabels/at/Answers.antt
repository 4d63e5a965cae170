use Rattle.std.proofs.Common.{◌+◌, ◌<◌, ◌^◌, rules}
use Rattle.namespace_ops.proofs.NewOnes.{start_fits}
use Rattle.namespace_ops.proofs.creating.NewLabels.at.Goals as goal

pub overflow_add-result : goal.overflow_add-result
overflow_add-result c =
    let fits : c.start.result + c.args.self.now.offset < 2 ^ 64 = start_fits c.args.set.now c.args.position c.start.result c.args.self.now.offset c.requires.inside c.start.ensures c.requires.fits in
    search rules
