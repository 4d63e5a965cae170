use Rattle.std.proofs.Common.{refl}
use Rattle.lane_sessions.specs.Making.{first_sets, new_caller}
use Rattle.bio_queue.proofs.Beginning.{may_begin}
use Rattle.bio_queue.proofs.laws.new_session_may_make.Goals as goal

pub returns-clause-may : goal.returns-clause-may
returns-clause-may c s state states limits q session some no_cut few new = may_begin s state states limits q session some no_cut few new

pub returns-clause-on : goal.returns-clause-on
returns-clause-on c s states limits q session new = (new_caller (first_sets s) limits.calls, new.pool, refl)
