-- Decoding the words of an arena: UEFI 2.10, section 6.3 (BTT theory of operation, opening an arena). The words are those from
-- the arena's first one to the namespace's end.
use Rattle.std.specs.Prelude.{ℕ, ◌*◌, ◌/◌, ◌==◌, length, Bool, not, ◌&&◌, List, [], ◌∷◌, take, map, filter, replicate, slice_index, slice_set, Result, Ok, Err}
use Rattle.std.specs.List.{range_with_len}
use Rattle.cut_words.specs.WordBytes.{bytes_of}
use Rattle.arena_layout.specs.declared.layout.Layout.{Layout}
use Rattle.arena_layout.specs.declared.info.Info.{Info}
use Rattle.arena_layout.specs.declared.info.InfoFault.{InfoFault}
use Rattle.arena_layout.specs.Info.{info_reading}
use Rattle.flog.specs.declared.half.Half.{Half}
use Rattle.flog.specs.declared.group.Group.{Group}
use Rattle.flog.specs.declared.group.FlogFault.{FlogFault}
use Rattle.flog.specs.Group.{group_reading}
use Rattle.map_table.specs.declared.check.BlockFault.{BlockFault}
use Rattle.map_table.specs.declared.kinds.Kind.{Kind}
use Rattle.map_table.specs.declared.kinds.Kind.TheVariants as kind
use Rattle.map_table.specs.declared.kinds.MapEntry.{MapEntry}
use Rattle.map_table.specs.Entry.{entry_of, normal_of, entry_in}
use Rattle.map_table.specs.Blocks.{blocks_of, block_check}
use Rattle.arena_open.specs.declared.opened.Opened.{Opened}
use Rattle.arena_open.specs.declared.refused.OpenRefused.{OpenRefused}
use Rattle.arena_open.specs.declared.refused.OpenRefused.TheVariants as refused
use Rattle.arena_open.specs.declared.cell.Cell.{Cell}
use Rattle.arena_open.specs.declared.cell.Cell.TheVariants as cell
use Rattle.arena_open.specs.Places.{map_word, value_at, block_words, group_words}

-- ---- the parts

-- the bytes of the info block
abbrev pub info_bytes : List ℕ → List ℕ
info_bytes words = bytes_of (take 512 words)

-- the entry of a sector
abbrev pub entry_at : Layout → List ℕ → ℕ → ℕ
entry_at l words sector = entry_in (value_at l words (map_word (sector / 2))) sector

-- the entries of all sectors
abbrev pub map_in : Layout → List ℕ → List ℕ
map_in l words = map (entry_at l words) (range_with_len 0 l.external)

-- a lane's group in front of the other lanes'
abbrev pub with_group : ℕ → Result Group FlogFault → Result (List Group) OpenRefused → Result (List Group) OpenRefused
with_group lane (Err fault) others = Err (refused.Flog lane fault)
with_group lane (Ok group) (Err fault) = Err fault
with_group lane (Ok group) (Ok groups) = Ok (group ∷ groups)

-- the current halves of these lanes, or the first group that violates the format
abbrev pub groups_of : Layout → List ℕ → List ℕ → Result (List Group) OpenRefused
groups_of l words [] = Ok []
groups_of l words (lane ∷ lanes) = with_group lane (group_reading (group_words l words lane) l.external l.internal) (groups_of l words lanes)

abbrev pub groups_in : Layout → List ℕ → Result (List Group) OpenRefused
groups_in l words = groups_of l words (range_with_len 0 l.lanes)

-- ---- pending moves

-- a half makes a move that the map doesn't show yet: its sector still has the old block, whatever the entry's kind
abbrev pub is_pending : List ℕ → Half → Bool
is_pending entries half = not (half.old == half.new) && ((entry_of (slice_index entries half.lba) half.lba).block == half.old)

-- the pending moves in the order of lanes, all by the same map
abbrev pub moves_of : List ℕ → List Group → List Half
moves_of entries groups = filter (is_pending entries) (map (λ group. group.half) groups)

-- a map with moves applied one after another; of two moves of one sector the later one counts
abbrev pub moved : List ℕ → List Half → List ℕ
moved entries [] = entries
moved entries (half ∷ halves) = moved (slice_set entries half.lba (normal_of half.new)) halves

-- the lanes' free blocks
abbrev pub free_of : List Group → List ℕ
free_of groups = map (λ group. group.half.old) groups

-- ---- the whole

-- the blocks of the map and the free ones are each named once
abbrev pub on_blocks : Opened → Result (Unit {0}) BlockFault → Result Opened OpenRefused
on_blocks opened (Err fault) = Err (refused.Block fault)
on_blocks opened (Ok named) = Ok opened

abbrev pub opened_with : Info → List Group → List ℕ → List Half → Opened
opened_with info groups entries moves = record { info = info; groups = groups; entries = entries; moves = moves }

-- with the map as read
abbrev pub on_map : Info → List Group → List ℕ → Result Opened OpenRefused
on_map info groups entries =
    let moves = moves_of entries groups in
    on_blocks (opened_with info groups (moved entries moves) moves) (block_check info.layout.internal (blocks_of (moved entries moves) (free_of groups)))

abbrev pub on_groups : List ℕ → Info → Result (List Group) OpenRefused → Result Opened OpenRefused
on_groups words info (Err fault) = Err fault
on_groups words info (Ok groups) = on_map info groups (map_in info.layout words)

abbrev pub on_info : List ℕ → Result Info InfoFault → Result Opened OpenRefused
on_info words (Err fault) = Err (refused.Info fault)
on_info words (Ok info) = on_groups words info (groups_in info.layout words)

-- the decoded arena, or the first check that fails
unfoldable pub opening : List ℕ → List ℕ → Result Opened OpenRefused
opening words parent = on_info words (info_reading (info_bytes words) parent (8 * length words))

-- ---- cells

-- the cell of a sector's entry: zeros, bad, or the first words of its block
abbrev pub cell_by : Layout → List ℕ → Kind → ℕ → Cell
cell_by l words kind.Zero block = cell.Bytes (replicate (l.sector / 8) 0)
cell_by l words kind.Bad block = cell.Bad
cell_by l words kind.Initial block = cell.Bytes (block_words l words block (l.sector / 8))
cell_by l words kind.Normal block = cell.Bytes (block_words l words block (l.sector / 8))

abbrev pub cell_with : Layout → List ℕ → MapEntry → Cell
cell_with l words entry = cell_by l words entry.kind entry.block

-- the cell of a sector
abbrev pub cell_at : Layout → List ℕ → ℕ → Cell
cell_at l words sector = cell_with l words (entry_of (entry_at l words sector) sector)
