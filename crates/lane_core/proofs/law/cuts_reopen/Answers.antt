use Rattle.lane_core.proofs.Laws.{cuts_reopen}
use Rattle.lane_core.proofs.law.cuts_reopen.Goals as goal

pub returns : goal.returns
returns c = cuts_reopen
