use Rattle.lane_core.proofs.Laws.{cuts_survive}
use Rattle.lane_core.proofs.law.every_cut_survives.Goals as goal

pub returns : goal.returns
returns c = cuts_survive
