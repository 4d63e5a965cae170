use Rattle.lane_table.proofs.ReadLines.{clears_read}
use Rattle.lane_table.proofs.steps.rtt_clear.Goals as goal

pub store-requires : goal.store-requires
store-requires c = (c.requires.seat.0, c.requires.at.0, clears_read c.args.table.now.key _ _ _ c.args.seat.now.me c.requires.seat.1 c.requires.seat.2 c.requires.pass c.requires.at.1)
