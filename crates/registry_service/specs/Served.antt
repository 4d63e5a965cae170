-- A registry behind a lock, with its fuse and the namespace that each session has open, and a session's part of it.
use Rattle.std.specs.Prelude.{◌≡◌, ℕ, ◌≤◌, Bool, true, false, not, List, ◌∷◌, ◌++◌, filter, length, map, replicate, slice_index_or, Option, None}
use Rattle.std.specs.List.{AllByRecursion}
use Rattle.nfit_reader.specs.declared.table.Mapping.{Mapping}
use Rattle.namespace_areas.specs.declared.area.Area.{Area}
use Rattle.namespace_areas.specs.Seen.{AreHeld}
use Rattle.namespace_areas.specs.Steps.{Rows, rows_of}
use Rattle.namespace_areas.specs.Went.{size_of, unready}
use Rattle.namespace_ops.specs.Entries.{JournalEntry}
use Rattle.namespace_ops.specs.Registered.{Registered, kept_of, opening_of, state_of}
use Rattle.namespace_ops.specs.Replay.{Kept, is_memory}
use Rattle.namespace_ops.specs.Room.{room_of, with_room}
use Rattle.session_account.specs.Claims.{AreOpen}
use Rattle.session_account.specs.Journal.{IsOff}
use Rattle.session_account.specs.Orders.{own_entries}
use Rattle.session_account.specs.Registering.{IsOn, WentOff}
use Rattle.registry_service.specs.declared.served.Began.{Began}
use Rattle.registry_service.specs.declared.served.OrdersPart.{OrdersPart}

-- ---- what stands behind the lock

pub record Served : Type 0 where
  pub registry : Registered
  -- the steps on labels that power still lasts for, and those that it lasted for at first
  pub left : Option ℕ
  pub first : Option ℕ
  -- the UUID of the namespace that each session has open, by session
  pub opens : List (Option (List ℕ))

-- the entries of calls that were answered: a call for which memory ran out changed nothing and has no answer
abbrev pub answered : List JournalEntry → List JournalEntry
answered journal = filter (λ e. not (is_memory e.reply)) journal

-- Power was cut in the command of an entry. It lasted for all entries before, and all later ones reply that it was cut. `rows` are the
-- words of the label areas from which the journal replays.
pub record WasCut (sets : List (List Mapping)) (from : Kept) (rows : Rows) (first : Option ℕ) (journal : List JournalEntry) (areas : List Area) : Type 0 where
  pub before : List JournalEntry
  pub entry : JournalEntry
  pub later : List JournalEntry
  pub began : Kept
  pub words : Rows
  pub left : Option ℕ
  pub split : journal ≡ before ++ entry ∷ later
  pub on : IsOn sets from rows first before began words left
  pub off : WentOff sets began words left entry areas
  pub same : AllByRecursion IsOff later

-- After commands, the label areas that a registry began with: one that isn't ready is as it was, each has its size, and unless
-- power was cut none stands in the middle of a change.
pub record AreKept (opening areas : List Area) (stopped : Bool) : Type 0 where
  pub beside : map unready areas ≡ map unready opening
  pub sizes : map size_of areas ≡ map size_of opening
  pub held : AreHeld opening → stopped ≡ false → AreHeld areas

-- what the lock keeps
pub record IsServing (s : Served) : Type 0 where
  -- until power is cut, the answered calls replay on the opening and on its words, and the fuse is what their steps left of it
  pub on : s.registry.stopped ≡ false → IsOn s.registry.sets (opening_of s.registry) (rows_of s.registry.opening) s.first (answered s.registry.journal) (kept_of (state_of s.registry)) (rows_of s.registry.areas) s.left
  -- from then on, the areas are what the cut left
  pub off : s.registry.stopped ≡ true → WasCut s.registry.sets (opening_of s.registry) (rows_of s.registry.opening) s.first (answered s.registry.journal) s.registry.areas
  -- each UUID is claimed as often as sessions have it open
  pub claims : AreOpen s.registry.claims s.opens
  -- each session with room has a place among them
  pub places : length s.registry.room ≤ length s.opens
  pub areas : AreKept s.registry.opening s.registry.areas s.registry.stopped

-- ---- when the lock is made

-- no session has made a call; session q has room for so many
abbrev pub fresh : Registered → Option ℕ → List ℕ → Served
fresh r fuse calls = record { registry = record r { room = with_room r.room calls }; left = fuse; first = fuse; opens = replicate (length calls) None }

-- ---- a session's part

-- what never changes
abbrev pub began_of : Served → Began
began_of s = record { sets = s.registry.sets; areas = s.registry.opening; labelcut = s.first }

abbrev pub part_of_session : Began → List JournalEntry → ℕ → Option (List ℕ) → OrdersPart
part_of_session began entries room held = record { began = began; entries = entries; room = room; held = held }

abbrev pub part_at : Served → ℕ → OrdersPart
part_at s q = part_of_session (began_of s) (own_entries q (answered s.registry.journal)) (room_of s.registry.room q) (slice_index_or s.opens q None)
