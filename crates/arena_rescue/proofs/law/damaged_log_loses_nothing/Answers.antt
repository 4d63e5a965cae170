use Rattle.arena_rescue.proofs.Laws.{damaged_log_loses_nothing}
use Rattle.arena_rescue.proofs.law.damaged_log_loses_nothing.Goals as goal

pub returns : goal.returns
returns c = damaged_log_loses_nothing
