use Rattle.session_account.proofs.Opening.{open_follows}
use Rattle.session_account.proofs.law.open_follows.Goals as goal

pub returns : goal.returns
returns c = open_follows
