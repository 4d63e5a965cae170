-- The bytes of a namespace of sectors after an import, each by itself: UEFI 2.10, section 6.2 (BTT data structures), with this project's rules.
-- They come to the same as `put_links` of Putting.antt.
use Rattle.std.specs.Prelude.{ℕ, ◌+◌, ◌-◌, ◌*◌, ◌/◌, ◌%◌, ◌<◌, ◌≤◌, ◌==◌, nat_lt, if◌then◌else◌, List, [], ◌∷◌, take, drop, slice_index, Option, Some, None}
use Rattle.std.specs.Int.{w32, to_le_bytes}
use Rattle.std.specs.List.{All}
use Rattle.arena_layout.specs.declared.layout.Layout.{Layout}
use Rattle.map_table.specs.Entry.{entry_of, normal_of}
use Rattle.arena_open.specs.declared.opened.Opened.{Opened}
use Rattle.arena_open.specs.Chain.{Link}
use Rattle.namespace_bytes.specs.Putting.{block_at, link_bytes}

-- the sector of a block, among those with these entries, of which the first has number `own`
abbrev pub owner_from : ℕ → List ℕ → ℕ → Option ℕ
owner_from own [] block = None
owner_from own (entry ∷ entries) block = if (entry_of entry own).block == block then Some own else owner_from (own + 1) entries block

-- the sector of a block of an arena; a free block has none
abbrev pub owner_of : Opened → ℕ → Option ℕ
owner_of o block = owner_from 0 o.entries block

-- byte k of a block: that of its sector; free blocks and the bytes behind a sector stay
abbrev pub block_byte : Layout → List ℕ → Option ℕ → ℕ → ℕ → ℕ
block_byte l bytes None k old = old
block_byte l bytes (Some own) k old = if nat_lt k l.sector then slice_index bytes (own * l.sector + k) else old

-- byte i of the data area
abbrev pub data_byte : Opened → List ℕ → ℕ → ℕ → ℕ
data_byte o bytes i old = block_byte o.info.layout bytes (owner_of o (i / o.info.layout.inner)) (i % o.info.layout.inner) old

-- byte i of the map: each sector has the normal entry of its block
abbrev pub map_byte : Opened → ℕ → ℕ → ℕ
map_byte o i old = if nat_lt (i / 4) o.info.layout.external then slice_index (to_le_bytes w32 (normal_of (block_at o.entries (i / 4)))) (i % 4) else old

-- byte i of an arena, whose sectors get these bytes; info blocks and the log stay
abbrev pub arena_byte : Opened → List ℕ → ℕ → ℕ → ℕ
arena_byte o bytes i old =
    if nat_lt i o.info.layout.data_off then old
    else if nat_lt i o.info.layout.map_off then data_byte o bytes (i - o.info.layout.data_off) old
    else if nat_lt i o.info.layout.flog_off then map_byte o (i - o.info.layout.map_off) old
    else old

-- byte i of a namespace with these arenas, whose sectors get these bytes, one after another; what is beside the arenas stays
abbrev pub sector_byte : List Link → List ℕ → ℕ → ℕ → ℕ
sector_byte [] bytes i old = old
sector_byte (link ∷ links) bytes i old =
    if nat_lt i (8 * link.at + link.opened.info.layout.size)
    then if nat_lt i (8 * link.at) then old else arena_byte link.opened (take (link_bytes link) bytes) (i - 8 * link.at) old
    else sector_byte links (drop (link_bytes link) bytes) i old

-- ---- a namespace's bytes, by place

-- the numbers in the map words of an arena are bytes
abbrev pub HasMapOfBytes : List ℕ → Link → Type 0
HasMapOfBytes row link =
    (i : ℕ) → link.opened.info.layout.map_off ≤ i → i < link.opened.info.layout.map_off + 8 * ((link.opened.info.layout.external + 1) / 2) → slice_index row (8 * link.at + i) < 256

-- those of all arenas
abbrev pub HaveMapsOfBytes : List ℕ → List Link → Type 0
HaveMapsOfBytes row links = All (HasMapOfBytes row) links
