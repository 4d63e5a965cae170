use Rattle.arena_rescue.proofs.Laws.{one_entry_loses_two}
use Rattle.arena_rescue.proofs.law.one_entry_loses_two.Goals as goal

pub returns : goal.returns
returns c = one_entry_loses_two
