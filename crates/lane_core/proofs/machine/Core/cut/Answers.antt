use Rattle.lane_core.proofs.Survivals.{row_enough, cut_survives}
use Rattle.lane_core.proofs.Reopened.{reopens_from}
use Rattle.lane_core.proofs.machine.Core.cut.Goals as goal

pub leave-requires : goal.leave-requires
leave-requires g c = record { size = row_enough c.args.self c.requires.core }

pub returns-clause-survives : goal.returns-clause-survives
returns-clause-survives g c = cut_survives g.C.Chooser.picks c.args.self c.leave.result.items c.args.choose.now c.leave.new.choose c.requires.core c.leave.ensures.asked

pub returns-clause-reopens : goal.returns-clause-reopens
returns-clause-reopens g c = λ state h. reopens_from g.C.Chooser.picks state c.args.self c.leave.result.items c.args.choose.now c.leave.new.choose h c.leave.ensures.asked
