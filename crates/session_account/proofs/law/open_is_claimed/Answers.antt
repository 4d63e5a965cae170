use Rattle.session_account.proofs.Claims.{open_is_claimed}
use Rattle.session_account.proofs.law.open_is_claimed.Goals as goal

pub returns : goal.returns
returns c = open_is_claimed
