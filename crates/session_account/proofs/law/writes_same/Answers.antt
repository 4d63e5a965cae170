use Rattle.session_account.proofs.Calling.{writes_same}
use Rattle.session_account.proofs.law.writes_same.Goals as goal

pub returns : goal.returns
returns c = writes_same
