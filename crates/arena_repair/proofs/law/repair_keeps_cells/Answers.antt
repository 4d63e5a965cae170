use Rattle.arena_repair.proofs.Cells.{repair_keeps_cells}
use Rattle.arena_repair.proofs.law.repair_keeps_cells.Goals as goal

pub returns : goal.returns
returns c = repair_keeps_cells
