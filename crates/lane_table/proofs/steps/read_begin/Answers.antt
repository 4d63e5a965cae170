use Rattle.std.proofs.Common.{refl}
use Rattle.lane_table.proofs.ReadLines.{begins_read}
use Rattle.lane_table.proofs.steps.read_begin.Goals as goal

pub compare_exchange_with-requires : goal.compare_exchange_with-requires
compare_exchange_with-requires c = (c.requires.seat.0, c.requires.at.0, begins_read c.args.table.now.key _ _ _ c.args.seat.now.me c.requires.seat.1 c.args.call c.requires.seat.2 c.requires.sector c.requires.at.1)

pub returns-clause-called : goal.returns-clause-called
returns-clause-called c = c.compare_exchange_with.ensures.2 c.args.call refl
