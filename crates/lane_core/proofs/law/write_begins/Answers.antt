use Rattle.lane_core.proofs.Laws.{write_begins}
use Rattle.lane_core.proofs.law.write_begins.Goals as goal

pub returns : goal.returns
returns c = write_begins
