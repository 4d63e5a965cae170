-- Laws about what can be read of a damaged arena.
use Rattle.std.specs.Prelude.{◌≡◌, ◌≢◌, ◌⊎◌, ℕ, ◌/◌, ◌<◌, Bool, true, false, List, [], ◌∷◌, length, map, filter, slice_index, slice_set, None}
use Rattle.std.specs.List.{range_with_len}
use Rattle.arena_layout.specs.declared.layout.Layout.{Layout}
use Rattle.arena_layout.specs.Layout.{IsLayout}
use Rattle.flog.specs.declared.group.Group.{Group}
use Rattle.map_table.specs.Entry.{entry_of}
use Rattle.map_table.specs.Blocks.{NamesEachOnce, blocks_of}
use Rattle.arena_open.specs.Reading.{free_of, moves_of}
use Rattle.arena_check.specs.Check.{recovered_map}
use Rattle.arena_rescue.specs.declared.loss.Loss.TheVariants as lost
use Rattle.arena_rescue.specs.Rescue.{block_in, is_known, is_marked, loss_at, losses_of, rescued_map}

-- ---- sound arenas

-- each block of an arena is named once, by the map and the lanes
abbrev pub AreOnce : Layout → List ℕ → List Group → Type 0
AreOnce l entries groups = NamesEachOnce l.internal (blocks_of entries (free_of groups))

-- the entry of a sector says that the sector is bad
abbrev pub marks : List ℕ → ℕ → Bool
marks entries sector = is_marked (entry_of (slice_index entries sector) sector).kind

-- Only what the map marks as bad is lost; each other sector is read with its own entry.
pub record LosesMarkedAlone (l : Layout) (bad : ℕ → Bool) (entries : List ℕ) (groups : List Group) : Type 0 where
  pub losses : losses_of l bad entries groups ≡ map lost.Marked (filter (marks entries) (range_with_len 0 (length entries)))
  pub others : (sector : ℕ) → sector < length entries → marks entries sector ≡ false → slice_index (rescued_map l bad entries groups) sector ≡ slice_index entries sector

-- A law: of an arena whose blocks are each named once, and none of whose words is bad, nothing is lost but what the map marks as bad.
abbrev pub SoundMapsLoseNothing : Type 0
SoundMapsLoseNothing = (l : Layout) (bad : ℕ → Bool) (entries : List ℕ) (groups : List Group) → IsLayout l → length entries ≡ l.external
    → ((i : ℕ) → i < l.size / 8 → bad i ≡ false) → AreOnce l entries groups → LosesMarkedAlone l bad entries groups

-- ---- one damaged entry

-- a sector whose map word is bad has this block
pub record IsUnknown (l : Layout) (bad : ℕ → Bool) (entries : List ℕ) (block : ℕ) : Type 0 where
  pub sector : ℕ
  pub inside : sector < length entries
  pub unknown : is_known l bad sector ≡ false
  pub named : block_in entries sector ≡ block

-- What is read of a sector that isn't lost, once sector k has another entry: a sector other than k has the entry of before, and k names the block of
-- before, or that of a sector whose map word is bad.
pub record ReadsOwn (l : Layout) (bad : ℕ → Bool) (entries : List ℕ) (groups : List Group) (k word sector : ℕ) : Type 0 where
  pub entry : sector ≢ k → slice_index (rescued_map l bad (slice_set entries k word) groups) sector ≡ slice_index entries sector
  pub block : (block_in (rescued_map l bad (slice_set entries k word) groups) sector ≡ block_in entries sector)
      ⊎ IsUnknown l bad entries (block_in (rescued_map l bad (slice_set entries k word) groups) sector)

-- A law: if each block was named once, and then one entry is damaged, each sector that isn't lost has its own block, unless another map word is bad.
abbrev pub OneEntryRescuesNoOther : Type 0
OneEntryRescuesNoOther = (l : Layout) (bad : ℕ → Bool) (entries : List ℕ) (groups : List Group) (k word : ℕ) → AreOnce l entries groups → k < length entries
    → (sector : ℕ) → sector < length entries → loss_at l bad (slice_set entries k word) groups sector ≡ None → ReadsOwn l bad entries groups k word sector

-- A law: if each block was named once, and then one entry is damaged, no other sector is lost than before, but that whose block this entry names.
abbrev pub OneEntryLosesTwo : Type 0
OneEntryLosesTwo = (l : Layout) (bad : ℕ → Bool) (entries : List ℕ) (groups : List Group) (k word : ℕ) → AreOnce l entries groups → k < length entries
    → (sector : ℕ) → sector < length entries → sector ≢ k → block_in entries sector ≢ (entry_of word k).block
    → loss_at l bad (slice_set entries k word) groups sector ≡ loss_at l bad entries groups sector

-- ---- lanes that don't count

-- the groups that are kept, by a list that says so of each; those behind its end are left out
abbrev pub kept_of : List Bool → List Group → List Group
kept_of [] groups = []
kept_of (keep ∷ keeps) [] = []
kept_of (true ∷ keeps) (group ∷ groups) = group ∷ kept_of keeps groups
kept_of (false ∷ keeps) (group ∷ groups) = kept_of keeps groups

-- the same is lost and read by these lanes as by those, and by these no move is pending either
pub record LosesTheSame (l : Layout) (bad : ℕ → Bool) (entries : List ℕ) (kept groups : List Group) : Type 0 where
  pub moves : moves_of entries kept ≡ []
  pub losses : losses_of l bad (recovered_map entries kept) kept ≡ losses_of l bad (recovered_map entries groups) groups
  pub readable : rescued_map l bad (recovered_map entries kept) kept ≡ rescued_map l bad (recovered_map entries groups) groups

-- A law: if each block is named once and no move is pending, nothing more is lost without some of the lanes.
abbrev pub DamagedLogLosesNothing : Type 0
DamagedLogLosesNothing = (l : Layout) (bad : ℕ → Bool) (entries : List ℕ) (groups : List Group) (keeps : List Bool) → AreOnce l entries groups
    → moves_of entries groups ≡ [] → LosesTheSame l bad entries (kept_of keeps groups) groups
