use Rattle.session_account.proofs.Claimable.{claimable_before}
use Rattle.session_account.proofs.law.claimable_before.Goals as goal

pub returns : goal.returns
returns c = claimable_before
