use Rattle.lane_table.proofs.WriteLines.{stores_data}
use Rattle.lane_table.proofs.steps.data_store.Goals as goal

pub store-requires : goal.store-requires
store-requires c = (c.requires.seat.0, c.requires.at.0, stores_data c.args.table.now.key _ _ _ c.args.seat.now.me c.requires.seat.1 c.args.k _ c.requires.seat.2 c.requires.k c.requires.at.1)
