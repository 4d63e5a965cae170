use Rattle.session_account.proofs.Claims.{claim_opens}
use Rattle.session_account.proofs.law.claim_opens.Goals as goal

pub returns : goal.returns
returns c = claim_opens
