-- What can still be read of an arena whose map or log is damaged. The meaning of entries and halves is that of UEFI 2.10, sections 6.2 and 6.3. Which
-- sectors are lost is this project's rule: those of which it isn't sure which block has their bytes, and those whose bytes can't be read.
-- Words are those of the arena, from its first one on, and `bad` says which of them are bad. `entries` are those of all sectors with the pending moves
-- made (`recovered_map`). `groups` are the current halves of the lanes that count.
use Rattle.std.specs.Prelude.{ℕ, ◌/◌, nat_lt, nat_le, length, Bool, true, false, not, if◌then◌else◌, List, ◌++◌, map, filter, slice_index, Option, Some, None}
use Rattle.std.specs.List.{range_with_len, filter_map}
use Rattle.arena_layout.specs.declared.layout.Layout.{Layout}
use Rattle.flog.specs.declared.group.Group.{Group}
use Rattle.map_table.specs.declared.kinds.Kind.{Kind}
use Rattle.map_table.specs.declared.kinds.Kind.TheVariants as kind
use Rattle.map_table.specs.declared.kinds.MapEntry.{MapEntry}
use Rattle.map_table.specs.Entry.{entry_of, zero_of}
use Rattle.map_table.specs.Blocks.{count_of}
use Rattle.arena_open.specs.Places.{map_word, word_of}
use Rattle.arena_open.specs.Reading.{free_of}
use Rattle.arena_check.specs.Check.{is_bad_data}
use Rattle.arena_rescue.specs.declared.loss.Loss.{Loss}
use Rattle.arena_rescue.specs.declared.loss.Loss.TheVariants as lost

-- ---- the blocks that are named

-- the map word of a sector isn't bad
abbrev pub is_known : Layout → (ℕ → Bool) → ℕ → Bool
is_known l bad sector = not (bad (word_of l (map_word (sector / 2))))

-- the block of a sector
abbrev pub block_in : List ℕ → ℕ → ℕ
block_in entries sector = (entry_of (slice_index entries sector) sector).block

-- the blocks of the known ones among the first n sectors
abbrev pub known_blocks : Layout → (ℕ → Bool) → List ℕ → ℕ → List ℕ
known_blocks l bad entries n = map (block_in entries) (filter (is_known l bad) (range_with_len 0 n))

-- the blocks that the known entries name, by sector, and then the lanes' free blocks
abbrev pub named_blocks : Layout → (ℕ → Bool) → List ℕ → List Group → List ℕ
named_blocks l bad entries groups = known_blocks l bad entries (length entries) ++ free_of groups

-- a block is named more than once
abbrev pub is_twice : List ℕ → ℕ → Bool
is_twice named block = nat_lt 1 (count_of block named)

-- ---- sectors that are lost

-- an entry of this kind says that its sector is bad
abbrev pub is_marked : Kind → Bool
is_marked kind.Initial = false
is_marked kind.Zero = false
is_marked kind.Bad = true
is_marked kind.Normal = false

-- why a sector can't be read, by its decoded entry and by which blocks are named twice: the first reason that holds
unfoldable pub loss_by : Layout → (ℕ → Bool) → (ℕ → Bool) → ℕ → MapEntry → Option Loss
loss_by l bad twice sector entry =
    if not (is_known l bad sector) then Some (lost.BadMap sector)
    else if nat_le l.internal entry.block then Some (lost.Range sector entry.block)
    else if twice entry.block then Some (lost.Twice sector entry.block)
    else if is_marked entry.kind then Some (lost.Marked sector)
    else if is_bad_data l bad entry then Some (lost.BadData sector)
    else None

-- by the blocks that are named, and the sector's entry
abbrev pub loss_of : Layout → (ℕ → Bool) → List ℕ → ℕ → ℕ → Option Loss
loss_of l bad named sector word = loss_by l bad (is_twice named) sector (entry_of word sector)

-- why a sector of a map is lost, if it is
abbrev pub loss_at : Layout → (ℕ → Bool) → List ℕ → List Group → ℕ → Option Loss
loss_at l bad entries groups sector = loss_of l bad (named_blocks l bad entries groups) sector (slice_index entries sector)

-- the lost sectors, rising
abbrev pub losses_of : Layout → (ℕ → Bool) → List ℕ → List Group → List Loss
losses_of l bad entries groups = filter_map (loss_at l bad entries groups) (range_with_len 0 (length entries))

-- ---- the map with which all sectors are read

-- a lost sector gets the entry of a sector of zeros, which names block 0
abbrev pub rescued_entry : Option Loss → ℕ → ℕ
rescued_entry None word = word
rescued_entry (Some loss) word = zero_of 0

abbrev pub rescued_map : Layout → (ℕ → Bool) → List ℕ → List Group → List ℕ
rescued_map l bad entries groups =
    map (λ sector. rescued_entry (loss_at l bad entries groups sector) (slice_index entries sector)) (range_with_len 0 (length entries))
