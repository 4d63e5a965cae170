use Rattle.session_account.proofs.Calling.{call_ends}
use Rattle.session_account.proofs.law.call_ends.Goals as goal

pub returns : goal.returns
returns c = call_ends
