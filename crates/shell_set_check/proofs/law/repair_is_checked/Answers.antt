use Rattle.shell_set_check.proofs.Loads.{repair_ends_as_check, repaired_loads, set_repair_is_once}
use Rattle.shell_set_check.proofs.law.repair_is_checked.Goals as goal

pub returns-clause-loads : goal.returns-clause-loads
returns-clause-loads c = repaired_loads

pub returns-clause-prints : goal.returns-clause-prints
returns-clause-prints c = repair_ends_as_check

pub returns-clause-once : goal.returns-clause-once
returns-clause-once c = set_repair_is_once
