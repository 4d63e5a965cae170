-- Runners as they are made.
use Rattle.std.specs.Prelude.{◌≡◌, ℕ, ◌<◌, List, [], length, false, None, slice_index_or}
use Rattle.turn_lock.specs.declared.pass.TurnPass.{TurnPass}
use Rattle.lane_calls.specs.declared.session.Session.{Session}
use Rattle.registry_service.specs.contracts.served.ServedRegistryParted.TheImpl.{ghosts}
use Rattle.registry_service.specs.declared.served.OrdersPart.{OrdersPart}
use Rattle.registry_service.specs.Served.{Served}
use Rattle.session_service.specs.declared.runner.Runner.{Runner}

-- the runner of a session and of its pass of the registry, which has made no call
pub record IsSeatedAt (session : Session) (orders : TurnPass Served OrdersPart ghosts) (r : Runner) : Type 0 where
  pub session_is : r.session ≡ session
  pub orders_is : r.orders ≡ orders
  pub held : r.held ≡ None
  pub text : r.text.items ≡ []
  pub memory : r.refused ≡ false

-- each runner has the session and the pass of its place
abbrev pub AreSeated : List Session → List (TurnPass Served OrdersPart ghosts) → List Runner → Type 0
AreSeated sessions orders rs =
    (q : ℕ) (s : Session) (p : TurnPass Served OrdersPart ghosts) (d : Runner) → q < length rs → IsSeatedAt (slice_index_or sessions q s) (slice_index_or orders q p) (slice_index_or rs q d)
