use Rattle.lane_core.proofs.Flying.{open_reads_may_go}
use Rattle.lane_core.proofs.law.open_reads_may_go.Goals as goal

pub returns : goal.returns
returns c = open_reads_may_go
