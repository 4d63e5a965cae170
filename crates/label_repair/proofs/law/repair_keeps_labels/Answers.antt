use Rattle.label_repair.proofs.Repaired.{repair_keeps_labels}
use Rattle.label_repair.proofs.law.repair_keeps_labels.Goals as goal

pub returns : goal.returns
returns c = repair_keeps_labels
