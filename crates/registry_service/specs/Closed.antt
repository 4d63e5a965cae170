-- The passes with which the registry's lock is closed.
use Rattle.std.specs.Prelude.{List, All}
use Rattle.turn_lock.specs.declared.pass.TurnPass.{TurnPass}
use Rattle.turn_lock.specs.declared.turn.Turn.{Turn}
use Rattle.turn_lock.specs.Passes.{callers_of, HasEach, IsOutside, lock_id}
use Rattle.registry_service.specs.contracts.served.ServedRegistryParted.TheImpl.{ghosts}
use Rattle.registry_service.specs.declared.served.OrdersPart.{OrdersPart}
use Rattle.registry_service.specs.Served.{Served}

-- They are all passes of the lock, and each is outside.
pub record AreAllPasses (turn : Turn Served OrdersPart) (ps : List (TurnPass Served OrdersPart ghosts)) : Type 0 where
  pub passes : All (λ p. IsOutside (lock_id turn) p) ps
  pub every : HasEach (callers_of turn) ps
