use Rattle.lane_core.proofs.Scheduling.{schedules_stand}
use Rattle.lane_core.proofs.law.schedules_stand.Goals as goal

pub returns : goal.returns
returns c = schedules_stand
