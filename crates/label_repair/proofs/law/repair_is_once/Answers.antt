use Rattle.label_repair.proofs.Repaired.{repair_is_once}
use Rattle.label_repair.proofs.law.repair_is_once.Goals as goal

pub returns : goal.returns
returns c = repair_is_once
