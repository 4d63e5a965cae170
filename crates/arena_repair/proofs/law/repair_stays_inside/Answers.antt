use Rattle.arena_repair.proofs.Inside.{repair_stays_inside}
use Rattle.arena_repair.proofs.law.repair_stays_inside.Goals as goal

pub returns : goal.returns
returns c = repair_stays_inside
