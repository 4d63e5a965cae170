use Rattle.std.proofs.Common.{suc, ap, ◌∙◌, add-one}
use Rattle.lane_table.proofs.ReadLines.{sets_reader}
use Rattle.lane_table.proofs.steps.rtt_set.Goals as goal

pub store-requires : goal.store-requires
store-requires c = (c.requires.seat.0, c.requires.at.0, sets_reader c.args.table.now.key _ _ _ c.args.seat.now.me c.requires.seat.1 _ c.requires.seat.2 c.requires.at.1 (add-one _ ∙ ap suc (c.from.ensures ∙ c.requires.block)))
