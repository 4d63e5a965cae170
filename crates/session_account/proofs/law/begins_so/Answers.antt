use Rattle.session_account.proofs.Going.{begins_so}
use Rattle.session_account.proofs.law.begins_so.Goals as goal

pub returns : goal.returns
returns c = begins_so
