use Rattle.session_account.proofs.Recovering.{journals_recover}
use Rattle.session_account.proofs.law.journals_recover.Goals as goal

pub returns : goal.returns
returns c = journals_recover
