use Rattle.session_account.proofs.Calling.{call_stops}
use Rattle.session_account.proofs.law.call_stops.Goals as goal

pub returns : goal.returns
returns c = call_stops
