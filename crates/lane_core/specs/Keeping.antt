-- What a call keeps of a core.
use Rattle.std.specs.Prelude.{◌≡◌}
use Rattle.lane_core.specs.declared.machine.Core.{Core}
use Rattle.lane_core.specs.Machines.{IsSomeCore, KeepsCore}
use Rattle.lane_core.specs.Reopening.{KeepsArena}

-- it is still a core, of the same arena and with the same cells at its opening
pub record Keeps (old new : Core) : Type 0 where
  pub sound : IsSomeCore new
  pub core : KeepsCore old new
  pub arena : KeepsArena old new
  pub shape : new.shape ≡ old.shape
