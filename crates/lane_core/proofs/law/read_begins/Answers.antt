use Rattle.lane_core.proofs.Laws.{read_begins}
use Rattle.lane_core.proofs.law.read_begins.Goals as goal

pub returns : goal.returns
returns c = read_begins
