use Rattle.namespace_ops.proofs.Spent.{passed}
use Rattle.namespace_ops.proofs.law.cuts_pass_the_fuse.Goals as goal

pub returns : goal.returns
returns c = passed
