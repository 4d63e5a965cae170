-- Laws about repairs.
use Rattle.std.specs.Prelude.{◌≡◌, ℕ, ◌/◌, ◌<◌, nat_le, Bool, true, false, if◌then◌else◌, List, [], ◌∷◌, length, drop, slice_index, Some, Result, Ok, Err}
use Rattle.std.specs.List.{list_all}
use Rattle.arena_layout.specs.declared.layout.Layout.{Layout}
use Rattle.arena_layout.specs.declared.info.Info.{Info}
use Rattle.flog.specs.declared.group.Group.{Group}
use Rattle.map_table.specs.declared.kinds.MapEntry.{MapEntry}
use Rattle.map_table.specs.Entry.{entry_of}
use Rattle.map_table.specs.Blocks.{blocks_of}
use Rattle.arena_open.specs.declared.cell.Cell.{Cell}
use Rattle.arena_open.specs.declared.cell.Cell.TheVariants as cell
use Rattle.arena_open.specs.declared.opened.Opened.{Opened}
use Rattle.arena_open.specs.declared.refused.OpenRefused.{OpenRefused}
use Rattle.arena_open.specs.Reading.{cell_at, cell_with, entry_at, free_of, groups_in, map_in, opening}
use Rattle.arena_check.specs.declared.finding.Finding.{Finding}
use Rattle.arena_check.specs.Check.{block_findings, has_bytes, in_arena, info_used, is_bad_data, next_of, recovered_map, report_of, source_of}
use Rattle.arena_check.specs.Laws.{is_harmless}
use Rattle.arena_repair.specs.Repair.{mended, open_of, repaired_words}

-- ---- findings

-- A law: a check after a repair has the findings of the check before it, in their order, without those that are repaired; and none is new.
abbrev pub RepairMends : Type 0
RepairMends = (at : ℕ) (bad : ℕ → Bool) (words parent : List ℕ) → report_of at bad (repaired_words at bad words parent) parent ≡ mended (report_of at bad words parent)

-- A law: an arena opens after a repair if no harmful finding stays open.
abbrev pub RepairedArenasOpen : Type 0
RepairedArenasOpen = (at : ℕ) (bad : ℕ → Bool) (words parent : List ℕ) (size : ℕ) → (report_of at bad words parent).size ≡ Some size
    → list_all is_harmless (open_of (report_of at bad words parent)) ≡ true → (opened : Opened) × (opening (repaired_words at bad words parent) parent ≡ Ok opened)

-- ---- places

-- A law: a repair changes no word behind the arena, and the arena that follows it stays the same one.
pub record StaysInside (at : ℕ) (bad : ℕ → Bool) (words parent : List ℕ) : Type 0 where
  pub long : length (repaired_words at bad words parent) ≡ length words
  pub used : info_used (source_of (repaired_words at bad words parent) parent) ≡ info_used (source_of words parent)
  pub next : next_of (source_of (repaired_words at bad words parent) parent) ≡ next_of (source_of words parent)
  pub behind : (info : Info) → info_used (source_of words parent) ≡ Some info → drop (info.layout.size / 8) (repaired_words at bad words parent) ≡ drop (info.layout.size / 8) words

abbrev pub RepairStaysInside : Type 0
RepairStaysInside = (at : ℕ) (bad : ℕ → Bool) (words parent : List ℕ) → StaysInside at bad words parent

-- ---- sectors

-- the cell of a sector, by its entry once moves are made; that of a bad sector is Bad
abbrev pub cell_of : Layout → (ℕ → Bool) → List ℕ → MapEntry → Cell
cell_of l bad words entry = if is_bad_data l bad entry then cell.Bad else cell_with l words entry

-- The sector's bytes would be those of a block that doesn't exist. Its words may belong to the backup of the info block.
abbrev pub is_outside : Layout → MapEntry → Bool
is_outside l entry = if has_bytes entry.kind then nat_le l.internal entry.block else false

-- the entry of a sector stays; so does its cell, if its block exists
pub record KeepsSector (l : Layout) (words now : List ℕ) (sector : ℕ) : Type 0 where
  pub entry : entry_at l now sector ≡ entry_at l words sector
  pub cell : is_outside l (entry_of (entry_at l words sector) sector) ≡ false → cell_at l now sector ≡ cell_at l words sector

abbrev pub UnlessBroken : List Finding → Type 0 → Type 0 → Type 0
UnlessBroken [] new old = new
UnlessBroken (finding ∷ findings) new old = old

-- A sector after a repair, from the words before it: if a group is refused, or a block isn't named once, nothing has changed.
abbrev pub SectorAfter : Layout → (ℕ → Bool) → List ℕ → List ℕ → Result (List Group) OpenRefused → ℕ → Type 0
SectorAfter l bad words now (Err refused) sector = KeepsSector l words now sector
SectorAfter l bad words now (Ok groups) sector =
    let recovered = recovered_map (map_in l words) groups in
    UnlessBroken (block_findings l.internal (blocks_of recovered (free_of groups)))
    (cell_at l now sector ≡ cell_of l bad words (entry_of (slice_index recovered sector) sector)) (KeepsSector l words now sector)

-- A law: no sector has another cell after a repair, but those with BadData, which become Bad. If a sector's block doesn't exist, its entry stays.
abbrev pub RepairKeepsCells : Type 0
RepairKeepsCells = (at : ℕ) (bad : ℕ → Bool) (words parent : List ℕ) (info : Info) → info_used (source_of words parent) ≡ Some info
    → (sector : ℕ) → sector < info.layout.external
    → SectorAfter info.layout (in_arena at bad) words (repaired_words at bad words parent) (groups_in info.layout words) sector
