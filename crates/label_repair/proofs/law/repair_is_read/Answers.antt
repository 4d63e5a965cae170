use Rattle.label_repair.proofs.Repaired.{repair_is_read}
use Rattle.label_repair.proofs.law.repair_is_read.Goals as goal

pub returns : goal.returns
returns c = repair_is_read
