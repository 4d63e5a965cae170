-- What a command comes to on namespaces of which is counted how often each is claimed.
use Rattle.std.specs.Prelude.{◌≡◌, ◌≢◌, ℕ, min, Bool, true, false, List, Option, Some, None, Err, is_ok, OnOk}
use Rattle.cut_words.specs.Fuses.{burnt, lasts}
use Rattle.nfit_reader.specs.declared.table.Mapping.{Mapping}
use Rattle.sector_namespaces.specs.Creation.{arena_steps, has_sectors}
use Rattle.namespace_map.specs.Namespaces.{Namespaces}
use Rattle.namespace_map.specs.declared.commands.CreateSpec.{CreateSpec}
use Rattle.namespace_map.specs.declared.commands.Command.{Command}
use Rattle.namespace_map.specs.declared.commands.Command.TheVariants.{Create}
use Rattle.namespace_map.specs.declared.refused.OpRefused.{OpRefused}
use Rattle.namespace_map.specs.declared.refused.OpRefused.TheVariants.{OutOfMemory, PowerCut}
use Rattle.namespace_map.specs.Commands.{refusal_of, done, set_of}
use Rattle.namespace_map.specs.Changes.{changes_of}
use Rattle.namespace_areas.specs.declared.area.Area.{Area}
use Rattle.namespace_areas.specs.Seen.{AreHeld, areas_seen}
use Rattle.namespace_areas.specs.Went.{Went}
use Rattle.namespace_areas.specs.Refusals.{offset_for, shown}
use Rattle.namespace_ops.specs.Carried.{is_cut}
use Rattle.namespace_ops.specs.Entries.{Reply}

-- namespaces with counts of claims
abbrev pub with_claims : Namespaces → List (List ℕ × ℕ) → Namespaces
with_claims ns claims = record ns { claims = claims }

-- what commands act on
pub record State : Type 0 where
  -- the interleave sets by region number, and the label areas by module number
  pub sets : List (List Mapping)
  pub areas : List Area
  -- power was cut in a command or in recovery
  pub stopped : Bool
  -- how often UUIDs are claimed
  pub claims : List (List ℕ × ℕ)

-- its namespaces
abbrev pub namespaces_in : State → Namespaces
namespaces_in s = with_claims (shown s.sets s.areas) s.claims

-- power is on, and memory was found
abbrev pub GoesOn : State → Reply → Type 0
GoesOn s reply = (s.stopped ≡ false) × (reply ≢ Err OutOfMemory)

-- a command that may need memory
abbrev pub takes_memory : Command → Bool
takes_memory (Create spec) = true
takes_memory other = false

-- a create of a namespace with sectors, whose arena is formatted first
abbrev pub makes_sectors : Command → Bool
makes_sectors (Create spec) = has_sectors spec.make
makes_sectors other = false

-- the steps that a command makes before its label changes: those of the format of an arena
abbrev pub steps_before : Command → ℕ
steps_before (Create spec) = arena_steps spec
steps_before other = 0

-- of so many steps those that a fuse lasts for
abbrev pub steps_made : Option ℕ → ℕ → ℕ
steps_made None count = count
steps_made (Some n) count = min n count

-- what formats arenas is ready, if a command makes sectors
abbrev pub IsReady : {F : Type 0} → (F → List (List Mapping) → Type 0) → List (List Mapping) → Command → F → Type 0
IsReady ready sets command formatter = makes_sectors command ≡ true → ready formatter sets

-- What a command comes to: its reply, and what became of the namespaces and of a fuse.
pub record Answered (old new : State) (fuse left : Option ℕ) (command : Command) (reply : Reply) : Type 0 where
  -- If power was cut before, that is the reply, and nothing changes.
  pub off : old.stopped ≡ true → (reply ≡ Err PowerCut) × (new ≡ old) × (left ≡ fuse)
  -- After out of memory nothing has changed.
  pub memory : reply ≡ Err OutOfMemory → (new ≡ old) × (left ≡ fuse)
  -- Else, if the command is refused on the namespaces, that is the reply, and nothing changes;
  pub refused : GoesOn old reply → (f : OpRefused) → refusal_of (namespaces_in old) command ≡ Some f → (reply ≡ Err f) × (new ≡ old) × (left ≡ fuse)
  -- if it isn't, and the fuse doesn't last for the format of its arena, the reply is PowerCut, and no label area was touched;
  pub within : GoesOn old reply → refusal_of (namespaces_in old) command ≡ None → lasts fuse (steps_before command) ≡ false
      → (reply ≡ Err PowerCut) × (new.areas ≡ old.areas) × AreHeld old.areas × (left ≡ burnt fuse (steps_before command))
  -- if it does, the label changes are made as far as the rest of the fuse lasts: Ok exactly if it lasts for all of them,
  pub went : GoesOn old reply → refusal_of (namespaces_in old) command ≡ None → lasts fuse (steps_before command) ≡ true
      → Went old.areas new.areas (burnt fuse (steps_before command)) left (changes_of (namespaces_in old) (areas_seen old.areas) command) (is_ok reply)
  -- and PowerCut else.
  pub cut : GoesOn old reply → refusal_of (namespaces_in old) command ≡ None → (f : OpRefused) → reply ≡ Err f → f ≡ PowerCut
  -- After Ok the namespaces, with their claims, are what the command makes of them;
  pub done : OnOk reply (namespaces_in new ≡ done (namespaces_in old) command)
  -- else the claims are as they were.
  pub claims : is_ok reply ≡ false → new.claims ≡ old.claims
  pub sets : new.sets ≡ old.sets
  pub stopped : old.stopped ≡ false → new.stopped ≡ is_cut reply

-- What became of what formats arenas by a command. If it begins no arena nothing has changed; else one is formatted in the namespace's
-- place, as far as the fuse lasts.
pub record Formats {F : Type 0} (formats : F → F → List Mapping → ℕ → CreateSpec → Option ℕ → Type 0) (old : State) (was now : F) (fuse : Option ℕ) (command : Command) (reply : Reply) : Type 0 where
  pub off : old.stopped ≡ true → now ≡ was
  pub memory : reply ≡ Err OutOfMemory → now ≡ was
  pub refused : GoesOn old reply → (f : OpRefused) → refusal_of (namespaces_in old) command ≡ Some f → now ≡ was
  pub plain : makes_sectors command ≡ false → now ≡ was
  pub formatted : GoesOn old reply → refusal_of (namespaces_in old) command ≡ None → (spec : CreateSpec) → command ≡ Create spec → has_sectors spec.make ≡ true
      → formats was now (set_of (shown old.sets old.areas) spec.region) (offset_for (shown old.sets old.areas) spec) spec fuse
