use Rattle.lane_core.proofs.Fresh.{fresh_result}
use Rattle.lane_core.proofs.Reopened.{fresh_arena, fresh_serves, fresh_sound}
use Rattle.lane_core.proofs.machine.Core.of.Goals as goal

pub returns-clause-core : goal.returns-clause-core
returns-clause-core c = fresh_result c.args.state c.fresh.result c.requires.state c.fresh.ensures

pub returns-clause-arena : goal.returns-clause-arena
returns-clause-arena c = fresh_arena c.args.state c.fresh.result c.requires.state c.fresh.ensures

pub returns-clause-sound : goal.returns-clause-sound
returns-clause-sound c = fresh_sound c.args.state c.fresh.result c.requires.state c.fresh.ensures

pub returns-clause-serves : goal.returns-clause-serves
returns-clause-serves c = fresh_serves c.args.state c.fresh.result c.fresh.ensures
