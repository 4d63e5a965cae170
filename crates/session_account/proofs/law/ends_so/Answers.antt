use Rattle.session_account.proofs.Going.{ends_so}
use Rattle.session_account.proofs.law.ends_so.Goals as goal

pub returns : goal.returns
returns c = ends_so
