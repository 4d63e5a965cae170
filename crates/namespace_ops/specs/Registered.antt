-- What a registry of namespaces has, and what its journal says of it.
use Rattle.std.specs.Prelude.{◌≡◌, ◌⊎◌, ℕ, ◌+◌, ◌-◌, ◌<◌, ◌≤◌, ◌^◌, Bool, true, false, List, [], ◌∷◌, ◌++◌, length, sum, Option, None, Err}
use Rattle.std.specs.List.{AllByRecursion}
use Rattle.nfit_reader.specs.declared.table.Mapping.{Mapping}
use Rattle.nvd_words.specs.declared.tag.Tag.{Tag}
use Rattle.namespace_map.specs.declared.commands.Command.{Command}
use Rattle.namespace_map.specs.declared.refused.OpRefused.TheVariants.{PowerCut}
use Rattle.namespace_map.specs.Areas.{Area as SeenArea, Change, IsLeftBy, steps_of_all}
use Rattle.namespace_map.specs.Changes.{changes_of, recovery_changes}
use Rattle.namespace_map.specs.Commands.{refusal_of}
use Rattle.namespace_areas.specs.declared.area.Area.{Area}
use Rattle.namespace_areas.specs.Seen.{AreLeft, areas_seen, areas_shown}
use Rattle.namespace_ops.specs.Entries.{JournalEntry, Reply}
use Rattle.namespace_ops.specs.Counted.{State, steps_before}
use Rattle.namespace_ops.specs.Replay.{Gives, Kept, namespaces_with}
use Rattle.namespace_ops.specs.Room.{taken}

pub record Registered : Type 0 where
  -- the interleave sets by region number; they never change
  pub sets : List (List Mapping)
  -- the label areas by module number
  pub areas : List Area
  -- power was cut in a command or in recovery
  pub stopped : Bool
  -- how often UUIDs are claimed
  pub claims : List (List ℕ × ℕ)
  -- the calls with a tag, in order
  pub journal : List JournalEntry
  -- for how many more each session has room
  pub room : List ℕ
  -- the label areas from which the journal replays
  pub opening : List Area

-- what commands act on
abbrev pub state_of : Registered → State
state_of r = record { sets = r.sets; areas = r.areas; stopped = r.stopped; claims = r.claims }

-- a state, with a journal, its room, and what it replays from
abbrev pub registered : State → List JournalEntry → List ℕ → List Area → Registered
registered s journal room opening = record { sets = s.sets; areas = s.areas; stopped = s.stopped; claims = s.claims; journal = journal; room = room; opening = opening }

-- a registry that is opened on sets and areas: no namespace is claimed, and the journal is empty and without room
abbrev pub opened_on : List (List Mapping) → List Area → Registered
opened_on sets areas = record { sets = sets; areas = areas; stopped = false; claims = []; journal = []; room = []; opening = areas }

-- what recovery leaves as it was: the interleave sets, the claims, the journal and its room
pub record RecoveryKeeps (old new : Registered) : Type 0 where
  pub sets : new.sets ≡ old.sets
  pub claims : new.claims ≡ old.claims
  pub journal : new.journal ≡ old.journal
  pub room : new.room ≡ old.room

-- ---- one call more

-- the journal has this entry more, and the tag's session room for one less; what the journal replays from is the same
pub record Entered (old new : Registered) (tag : Tag) (command : Command) (reply : Reply) : Type 0 where
  pub entry : new.journal ≡ old.journal ++ record { tag = tag; command = command; reply = reply } ∷ []
  pub room : new.room ≡ taken old.room tag.session
  pub opening : new.opening ≡ old.opening

-- ---- what the journal says

-- the areas that a registry began with; none was claimed
abbrev pub opening_of : Registered → Kept
opening_of r = record { areas = areas_seen r.opening; claims = [] }

-- what it has of that now
abbrev pub kept_of : State → Kept
kept_of s = record { areas = areas_seen s.areas; claims = s.claims }

-- Power was cut after n steps. The first `before` of them touch no label area. Those behind are steps of label changes, and the areas
-- after a crash show these changes cut at that step.
pub record IsCutAfter (began : List (Option SeenArea)) (before : ℕ) (changes : List Change) (areas : List Area) (n : ℕ) : Type 0 where
  pub short : n < before + steps_of_all began changes
  pub within : n < before → (rows : List (Option (List ℕ))) → AreLeft areas rows → areas_shown rows ≡ began
  pub behind : before ≤ n → (rows : List (Option (List ℕ))) → AreLeft areas rows → IsLeftBy began changes (n - before) (areas_shown rows)

abbrev pub IsCutIn : List (Option SeenArea) → ℕ → List Change → List Area → Type 0
IsCutIn began before changes areas = (n : ℕ) × IsCutAfter began before changes areas n

-- Power was cut in the command of an entry, the first whose reply says so. The entries before it gave the areas and claims that it began with.
pub record WasCutIn (r : Registered) (before later : List JournalEntry) (entry : JournalEntry) (began : Kept) : Type 0 where
  pub journal : r.journal ≡ before ++ entry ∷ later
  pub gives : Gives r.sets (opening_of r) before began
  pub reply : entry.reply ≡ Err PowerCut
  pub allowed : refusal_of (namespaces_with r.sets began) entry.command ≡ None
  pub areas : IsCutIn began.areas (steps_before entry.command) (changes_of (namespaces_with r.sets began) began.areas entry.command) r.areas
  pub claims : r.claims ≡ began.claims
  -- all later ones answer the same
  pub same : AllByRecursion (λ e. e.reply ≡ Err PowerCut) later

abbrev pub WasCut : Registered → Type 0
WasCut r = (before later : List JournalEntry) × (entry : JournalEntry) × (began : Kept) × WasCutIn r before later entry began

-- Power was cut in recovery, before any call; all calls since answer the same.
pub record WasCutFirst (r : Registered) : Type 0 where
  pub areas : IsCutIn (areas_seen r.opening) 0 (recovery_changes r.sets (areas_seen r.opening)) r.areas
  pub claims : r.claims ≡ []
  pub same : AllByRecursion (λ e. e.reply ≡ Err PowerCut) r.journal

-- Until power is cut the journal gives, replayed on the opening, what the registry has now.
pub record IsJournaled (r : Registered) : Type 0 where
  pub on : r.stopped ≡ false → Gives r.sets (opening_of r) r.journal (kept_of (state_of r))
  pub off : r.stopped ≡ true → WasCut r ⊎ WasCutFirst r

-- what a registry keeps, with room for so many counts of claims
pub record IsKept (r : Registered) (counts : ℕ) : Type 0 where
  pub journaled : IsJournaled r
  -- each call may add a count
  pub countable : length r.claims + sum r.room ≤ counts
  pub few : length r.journal + sum r.room < 2 ^ 32
  -- and no UUID is claimed more often than there were calls
  pub claimed : AllByRecursion (λ c. c.1 ≤ length r.journal) r.claims
