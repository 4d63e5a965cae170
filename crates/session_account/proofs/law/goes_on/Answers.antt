use Rattle.session_account.proofs.Going.{goes_on}
use Rattle.session_account.proofs.law.goes_on.Goals as goal

pub returns : goal.returns
returns c = goes_on
