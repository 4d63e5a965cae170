use Rattle.lane_table.proofs.ReadLines.{loads_data}
use Rattle.lane_table.proofs.steps.data_load.Goals as goal

pub load-requires : goal.load-requires
load-requires c = (c.requires.seat.0, c.requires.at.0, loads_data c.args.table.now.key _ _ _ c.args.seat.now.me c.requires.seat.1 c.args.k c.requires.seat.2 c.requires.k c.requires.block c.requires.at.1)

pub returns-clause-loaded : goal.returns-clause-loaded
returns-clause-loaded c = c.load.ensures.2 c.args.k c.requires.seat.2
