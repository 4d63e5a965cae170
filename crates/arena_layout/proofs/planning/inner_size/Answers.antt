use Rattle.std.proofs.Common.{arith}
use Rattle.arena_layout.proofs.Sectors.{blocks}
use Rattle.arena_layout.proofs.planning.inner_size.Goals as goal

pub overflow_mul-result : goal.overflow_mul-result
overflow_mul-result c = omega (arith, (blocks c.args.sector c.requires).sector_high)
