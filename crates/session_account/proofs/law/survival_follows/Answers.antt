use Rattle.session_account.proofs.Surviving.{survival_follows}
use Rattle.session_account.proofs.law.survival_follows.Goals as goal

pub returns : goal.returns
returns c = survival_follows
