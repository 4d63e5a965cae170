use Rattle.flog.proofs.Halves.{becomes}
use Rattle.flog.proofs.group.next_half.Goals as goal

pub returns-clause-becomes_current : goal.returns-clause-becomes_current
returns-clause-becomes_current c = λ words external internal len ok next. becomes words external internal _ _ len ok next
