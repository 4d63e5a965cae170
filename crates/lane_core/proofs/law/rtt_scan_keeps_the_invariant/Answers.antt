use Rattle.lane_core.proofs.Laws.{rtt_scan}
use Rattle.lane_core.proofs.law.rtt_scan_keeps_the_invariant.Goals as goal

pub returns : goal.returns
returns c = rtt_scan
