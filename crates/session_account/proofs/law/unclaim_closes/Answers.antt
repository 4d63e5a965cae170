use Rattle.session_account.proofs.Claims.{unclaim_closes}
use Rattle.session_account.proofs.law.unclaim_closes.Goals as goal

pub returns : goal.returns
returns c = unclaim_closes
