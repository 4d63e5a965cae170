use Rattle.lane_core.proofs.Readies.{stages_word, lock_in}
use Rattle.lane_core.proofs.steps.step_lane.Goals as goal

pub step_staging-requires : goal.step_staging-requires
step_staging-requires c = record { word = stages_word c.args.shape.now c.args.row.now c.args.lane c.args.mine.now _ c.requires.ready c.in-Staging.k c.in-Staging.is }

pub lock_take-requires-clause-word : goal.lock_take-requires-clause-word
lock_take-requires-clause-word c = lock_in c.args.shape.now c.args.row.now c.args.lane c.args.mine.now _ c.requires.ready c.args.mine.now.next_sector

pub lock_free-requires-clause-word : goal.lock_free-requires-clause-word
lock_free-requires-clause-word c = lock_in c.args.shape.now c.args.row.now c.args.lane c.args.mine.now _ c.requires.ready c.args.mine.now.sector
