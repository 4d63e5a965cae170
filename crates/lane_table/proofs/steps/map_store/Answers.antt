use Rattle.lane_table.proofs.WriteLines.{stores_map}
use Rattle.lane_table.proofs.steps.map_store.Goals as goal

pub store-requires : goal.store-requires
store-requires c = (c.requires.seat.0, c.requires.at.0, stores_map c.args.table.now.key _ _ _ c.args.seat.now.me c.requires.seat.1 _ c.requires.seat.2 c.requires.pass c.requires.at.1 c.requires.value)
