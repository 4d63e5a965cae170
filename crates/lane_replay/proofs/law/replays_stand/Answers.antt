use Rattle.lane_replay.proofs.Asked.{replays_stand}
use Rattle.lane_replay.proofs.law.replays_stand.Goals as goal

pub returns : goal.returns
returns c = replays_stand
