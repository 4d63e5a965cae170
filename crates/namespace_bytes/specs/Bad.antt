-- The first bad sector of a namespace: UEFI 2.10, section 6.2 (BTT Map Entry), by the order of this project.
use Rattle.std.specs.Prelude.{ℕ, ◌+◌, Bool, true, false, List, [], ◌∷◌, find, slice_index, slice_index_or, Option, Some, None}
use Rattle.std.specs.List.{range_with_len}
use Rattle.map_table.specs.declared.kinds.Kind.{Kind}
use Rattle.map_table.specs.declared.kinds.Kind.TheVariants as kind
use Rattle.map_table.specs.Entry.{entry_of}
use Rattle.arena_open.specs.declared.cell.Cell.{Cell}
use Rattle.arena_open.specs.declared.cell.Cell.TheVariants as cell
use Rattle.arena_open.specs.declared.opened.Opened.{Opened}
use Rattle.arena_open.specs.declared.state.ArenaState.{ArenaState}
use Rattle.arena_open.specs.Chain.{Link}
use Rattle.arena_open.specs.ChainCells.{contents_of, sectors_of}

-- ---- by the cells

abbrev pub is_bad : Cell → Bool
is_bad (cell.Bytes words) = false
is_bad cell.Bad = true

-- the first sector whose cell is bad
abbrev pub first_bad : List ArenaState → Option ℕ
first_bad states = find (λ sector. is_bad (slice_index_or (contents_of states) sector cell.Bad)) (range_with_len 0 (sectors_of states))

-- ---- by the map entries alone

abbrev pub says_bad : Kind → Bool
says_bad kind.Bad = true
says_bad kind.Initial = false
says_bad kind.Zero = false
says_bad kind.Normal = false

-- the first sector of an arena whose entry says so
abbrev pub bad_in : Opened → Option ℕ
bad_in o = find (λ own. says_bad (entry_of (slice_index o.entries own) own).kind) (range_with_len 0 o.info.layout.external)

abbrev pub or_behind : ℕ → Option ℕ → Option ℕ → Option ℕ
or_behind before (Some own) other = Some (before + own)
or_behind before None other = other

-- the first one of arenas, behind so many sectors
abbrev pub bad_from : ℕ → List Link → Option ℕ
bad_from before [] = None
bad_from before (link ∷ links) = or_behind before (bad_in link.opened) (bad_from (before + link.opened.info.layout.external) links)
