use Rattle.session_account.proofs.Growing.{made_grows}
use Rattle.session_account.proofs.law.made_grows.Goals as goal

pub returns : goal.returns
returns c = made_grows
