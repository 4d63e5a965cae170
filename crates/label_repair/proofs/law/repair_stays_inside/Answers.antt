use Rattle.label_repair.proofs.Repaired.{repair_stays_inside}
use Rattle.label_repair.proofs.law.repair_stays_inside.Goals as goal

pub returns : goal.returns
returns c = repair_stays_inside
