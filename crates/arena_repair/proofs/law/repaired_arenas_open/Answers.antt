use Rattle.arena_repair.proofs.MapChanges.{with_map_changes}
use Rattle.arena_repair.proofs.PageChanges.{backup_copies, first_copies}
use Rattle.arena_repair.proofs.Mends.{opens_again}
use Rattle.arena_repair.proofs.law.repaired_arenas_open.Goals as goal

pub returns : goal.returns
returns c = opens_again with_map_changes backup_copies first_copies
