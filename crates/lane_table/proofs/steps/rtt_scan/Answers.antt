use Rattle.lane_table.proofs.WriteLines.{scans}
use Rattle.lane_table.proofs.steps.rtt_scan.Goals as goal

pub load-requires : goal.load-requires
load-requires c = (c.requires.seat.0, c.requires.at.0, scans c.args.table.now.key _ _ _ c.args.seat.now.me c.requires.seat.1 c.args.j c.requires.seat.2 c.requires.at.1)

pub returns-clause-tracked : goal.returns-clause-tracked
returns-clause-tracked c = (c.load.ensures.2 c.args.j c.requires.seat.2).0

pub returns-clause-scanned : goal.returns-clause-scanned
returns-clause-scanned c = (c.load.ensures.2 c.args.j c.requires.seat.2).1
