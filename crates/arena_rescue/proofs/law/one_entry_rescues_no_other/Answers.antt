use Rattle.arena_rescue.proofs.Laws.{one_entry_rescues_no_other}
use Rattle.arena_rescue.proofs.law.one_entry_rescues_no_other.Goals as goal

pub returns : goal.returns
returns c = one_entry_rescues_no_other
