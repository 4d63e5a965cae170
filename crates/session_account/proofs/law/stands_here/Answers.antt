use Rattle.session_account.proofs.Calling.{stands_here}
use Rattle.session_account.proofs.law.stands_here.Goals as goal

pub returns : goal.returns
returns c = stands_here
