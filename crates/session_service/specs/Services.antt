-- The sectors that sessions share, and the registry behind its lock.
use Rattle.std.specs.Prelude.{◌≡◌, ℕ, ◌%◌, List, [], All, length, map, slice_index_or}
use Rattle.atomic_table.specs.Seated.{TableId}
use Rattle.turn_lock.specs.Passes.{lock_id}
use Rattle.arena_open.specs.declared.state.ArenaState.{ArenaState}
use Rattle.session_account.specs.Serving.{Serving}
use Rattle.session_service.specs.declared.service.Service.{Service}
use Rattle.session_service.specs.Namespaces.{AreLaid, arenas_in, servings_at, shape_by}

-- ---- arenas, by their numbers

-- what stands for an arena that isn't there
abbrev pub no_arena : ArenaState
no_arena = record {
  info = record {
    uuid = [];
    parent = [];
    flags = 0;
    major = 0;
    minor = 0;
    next = 0;
    layout = record { size = 0; sector = 0; inner = 0; external = 0; internal = 0; lanes = 0; data_off = 0; map_off = 0; flog_off = 0; info_off = 0 };
  };
  words = [];
  lanes = [];
  made = 0;
}

abbrev pub arena_at : List ArenaState → ℕ → ArenaState
arena_at arenas j = slice_index_or arenas j no_arena

-- the arenas of a service, as they were opened
abbrev pub arenas_of : Service → List ArenaState
arenas_of s = s.opened.value.items

-- ---- locks

abbrev pub orders_of : Service → TableId
orders_of s = lock_id s.registry.turn

abbrev pub pool_of : Service → TableId
pool_of s = lock_id s.sectors.pool.turn

-- ---- namespaces

-- the namespaces that are served
abbrev pub all_of : Service → List Serving
all_of s = servings_at s.places.items

-- their arenas are those of the sectors, and a sector has whole words
pub record IsLaid (s : Service) : Type 0 where
  pub laid : AreLaid s.places.items
  pub shapes : map shape_by (arenas_of s) ≡ arenas_in (all_of s)
  pub whole : All (λ a. a.info.layout.sector % 8 ≡ 0) (arenas_of s)
  pub count : length s.sectors.arenas.items ≡ length (arenas_of s)
