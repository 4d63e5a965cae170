use Rattle.session_account.proofs.Registering.{on_grows}
use Rattle.session_account.proofs.law.on_grows.Goals as goal

pub returns : goal.returns
returns c = on_grows
