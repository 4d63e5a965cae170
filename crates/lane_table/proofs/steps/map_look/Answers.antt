use Rattle.lane_table.proofs.ReadLines.{looks_map}
use Rattle.lane_table.proofs.steps.map_look.Goals as goal

pub load-requires : goal.load-requires
load-requires c = (c.requires.seat.0, c.requires.at.0, looks_map c.args.table.now.key _ _ _ c.args.seat.now.me c.requires.seat.1 c.requires.seat.2 c.requires.pass c.requires.at.1)
