-- What a service is made of.
use Rattle.std.specs.Prelude.{◌≡◌, ℕ, ◌+◌, ◌^◌, ◌<◌, false, List, [], ◌∷◌, ◌++◌, All, length, map}
use Rattle.turn_lock.specs.Passes.{callers_of, first_of}
use Rattle.arena_open.specs.declared.state.ArenaState.{ArenaState}
use Rattle.arena_open.specs.Moves.{IsOpenState}
use Rattle.namespace_ops.specs.Registered.{Registered}
use Rattle.session_script.specs.declared.script.Script.{Script}
use Rattle.session_script.specs.declared.script.SessionLines.{SessionLines}
use Rattle.registry_service.specs.Served.{fresh}
use Rattle.lane_sessions.specs.declared.making.SessionLimits.{SessionLimits}
use Rattle.lane_sessions.specs.Ending.{lists_of}
use Rattle.lane_sessions.specs.Making.{first_sets}
use Rattle.lane_sessions.specs.Sets.{AreMadeOf, AreSets}
use Rattle.session_service.specs.declared.namespaces.ServedNamespace.{ServedNamespace}
use Rattle.session_service.specs.declared.service.Service.{Service}
use Rattle.session_service.specs.Namespaces.{servings_of}
use Rattle.session_service.specs.Services.{IsLaid, all_of, arenas_of}

-- the arenas of all namespaces, one after another
abbrev pub states_in : List ServedNamespace → List ArenaState
states_in [] = []
states_in (n ∷ served) = n.arenas.items ++ states_in served

-- the entries that sessions may need room for: one for each call, and one for the end
abbrev pub rooms_of : List SessionLines → List ℕ
rooms_of sessions = map (λ s. length s.calls + 1) sessions

-- the steps that a session may make, and the calls on sectors that it may need lanes for: as many as it has lines
abbrev pub limits_of : List SessionLines → List SessionLimits
limits_of sessions = map (λ s. record { cut = s.cut; calls = length s.calls }) sessions

-- A registry may be served: it is open, its journal is empty, no room is reserved in it, and its areas are those with which it was opened.
pub record IsUnused (registry : Registered) : Type 0 where
  pub running : registry.stopped ≡ false
  pub first : registry.journal ≡ []
  pub roomless : registry.room ≡ []
  pub opening : registry.opening ≡ registry.areas

-- A service of a registry, of namespaces that were opened, and of the sessions of a script. It stays so whatever the sessions do.
pub record IsMade (registry : Registered) (served : List ServedNamespace) (script : Script) (service : Service) : Type 0 where
  pub few : length script.sessions < 2 ^ 32
  pub all : all_of service ≡ servings_of served
  pub arenas : arenas_of service ≡ states_in served
  pub laid : IsLaid service
  pub opened : All IsOpenState (arenas_of service)
  pub made : AreMadeOf (arenas_of service) service.sectors.arenas.items
  pub sets : AreSets (length script.sessions) service.sectors.arenas.items (first_sets service.sectors) (lists_of service.aside.items)
  pub callers : callers_of service.sectors.pool.turn ≡ length script.sessions
  pub orders : callers_of service.registry.turn ≡ length script.sessions
  pub orders_first : first_of service.registry.turn ≡ fresh registry script.labelcut (rooms_of script.sessions)
  pub journal : registry.journal ≡ []
  pub areas : registry.opening ≡ registry.areas
