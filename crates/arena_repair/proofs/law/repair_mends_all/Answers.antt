use Rattle.arena_repair.proofs.Chains.{repair_mends_all}
use Rattle.arena_repair.proofs.law.repair_mends_all.Goals as goal

pub returns : goal.returns
returns c = repair_mends_all
