use Rattle.namespace_ops.proofs.Spent.{spent}
use Rattle.namespace_ops.proofs.law.journals_spend_their_steps.Goals as goal

pub returns : goal.returns
returns c = spent
