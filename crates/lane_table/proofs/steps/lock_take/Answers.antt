use Rattle.std.proofs.Common.{suc, sym, ap, ◌∙◌, refl, add-one}
use Rattle.lane_table.proofs.WriteLines.{takes_lock}
use Rattle.lane_table.proofs.steps.lock_take.Goals as goal

pub compare_exchange_with-requires : goal.compare_exchange_with-requires
compare_exchange_with-requires c = (c.requires.seat.0, c.requires.lock.at.0, takes_lock c.args.table.now.key _ _ _ c.args.seat.now.me c.requires.seat.1 _ c.args.call c.requires.seat.2 c.requires.lock.sector c.requires.lock.at.1 (add-one _ ∙ ap suc (c.from.ensures ∙ sym c.requires.number)))

pub returns-clause-taken : goal.returns-clause-taken
returns-clause-taken c = (c.compare_exchange_with.ensures.2 c.args.call refl).0

pub returns-clause-busy : goal.returns-clause-busy
returns-clause-busy c = (c.compare_exchange_with.ensures.2 c.args.call refl).1
