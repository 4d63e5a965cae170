use Rattle.lane_core.proofs.Reopened.{reopens_ended}
use Rattle.lane_core.proofs.machine.Core.into_words.Goals as goal

pub returns-clause-reopens : goal.returns-clause-reopens
returns-clause-reopens c = reopens_ended c.args.self c.into_words.result c.into_words.ensures.seen c.into_words.ensures.kept
