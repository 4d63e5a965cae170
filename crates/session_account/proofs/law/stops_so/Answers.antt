use Rattle.session_account.proofs.Going.{stops_so}
use Rattle.session_account.proofs.law.stops_so.Goals as goal

pub returns : goal.returns
returns c = stops_so
