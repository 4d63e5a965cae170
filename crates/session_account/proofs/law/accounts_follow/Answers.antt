use Rattle.session_account.proofs.Following.{accounts_follow}
use Rattle.session_account.proofs.law.accounts_follow.Goals as goal

pub returns : goal.returns
returns c = accounts_follow
