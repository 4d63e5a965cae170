use Rattle.lane_table.proofs.ReadLines.{checks_map}
use Rattle.lane_table.proofs.steps.map_check.Goals as goal

pub load-requires : goal.load-requires
load-requires c = (c.requires.seat.0, c.requires.at.0, checks_map c.args.table.now.key _ _ _ c.args.seat.now.me c.requires.seat.1 c.requires.seat.2 c.requires.pass c.requires.at.1)
