use Rattle.arena_repair.proofs.MapChanges.{with_map_changes}
use Rattle.arena_repair.proofs.PageChanges.{backup_copies, first_copies}
use Rattle.arena_repair.proofs.Mends.{mends}
use Rattle.arena_repair.proofs.law.repair_mends.Goals as goal

pub returns : goal.returns
returns c = mends with_map_changes backup_copies first_copies
