-- Formatting an arena. The order is this project's rule: the info block comes last, so an interrupted format leaves no arena.
use Rattle.std.specs.Prelude.{◌≡◌, ℕ, ◌+◌, ◌-◌, ◌*◌, ◌/◌, ◌<◌, ◌≤◌, ◌⊎◌, List, [], ◌++◌, length, map, replicate, slice_index, slice_index_or, None, Ok}
use Rattle.std.specs.List.{range_with_len}
use Rattle.cut_words.specs.Words.{Words, Step}
use Rattle.cut_words.specs.WordBytes.{words_in}
use Rattle.arena_layout.specs.declared.layout.Layout.{Layout}
use Rattle.arena_layout.specs.Layout.{IsLayout}
use Rattle.arena_layout.specs.Spelling.{spelling_of}
use Rattle.arena_open.specs.Writes.{Write, write_steps, run_at, IsSettled}
use Rattle.map_table.specs.Entry.{zero_of}
use Rattle.arena_open.specs.declared.opened.Opened.{Opened}
use Rattle.arena_open.specs.declared.cell.Cell.TheVariants as cell
use Rattle.arena_open.specs.Areas.{new_map, new_log, new_group, new_info}
use Rattle.arena_open.specs.Reading.{opening, cell_at}

-- An arena of this layout can be formatted from word `at` of a space on.
pub record CanFormat (at : ℕ) (l : Layout) (space : Words) : Type 0 where
  pub layout : IsLayout l
  -- the arena lies in the space
  pub inside : at + l.size / 8 ≤ length space.kept
  -- none of the space's words is pending
  pub settled : IsSettled space

-- the number of words of the map area and of the log area
abbrev pub map_count : Layout → ℕ
map_count l = (l.flog_off - l.map_off) / 8

abbrev pub log_count : Layout → ℕ
log_count l = (l.info_off - l.flog_off) / 8

-- the map area, the log area, the backup of the info block and the info block, of an arena whose first word is `at`
abbrev pub area_writes : ℕ → Layout → List ℕ → List Write
area_writes at l block =
    run_at (at + l.map_off / 8) (new_map l.external (map_count l))
    ++ (run_at (at + l.flog_off / 8) (new_log l.external l.lanes (log_count l))
    ++ (run_at (at + l.info_off / 8) block ++ run_at at block))

abbrev pub format_writes : ℕ → Layout → List ℕ → List ℕ → List Write
format_writes at l uuid parent = area_writes at l (words_in (spelling_of (new_info l uuid parent)))

abbrev pub format_steps : ℕ → Layout → List ℕ → List ℕ → List Step
format_steps at l uuid parent = write_steps (format_writes at l uuid parent)

-- the number of steps: two for each word of the four areas
abbrev pub format_count : Layout → ℕ
format_count l = 2 * (map_count l + log_count l + 1024)

-- a word is in none of the four areas
abbrev pub IsOutside : ℕ → Layout → ℕ → Type 0
IsOutside at l i =
    ((i < at) ⊎ (at + 512 ≤ i))
    × ((i < at + l.map_off / 8) ⊎ (at + (l.info_off + 4096) / 8 ≤ i))

-- words outside the four areas have their old values, and none of them is pending
abbrev pub KeepsOutside : ℕ → Layout → Words → Words → Type 0
KeepsOutside at l old new =
    (i : ℕ) → IsOutside at l i → (slice_index new.kept i ≡ slice_index old.kept i) × (slice_index_or new.stored i None ≡ None)

-- ---- a new arena

-- each sector has the block of its number, each lane one after them, and no move is pending
abbrev pub new_opened : Layout → List ℕ → List ℕ → Opened
new_opened l uuid parent = record {
  info = new_info l uuid parent;
  groups = map (λ lane. new_group l.external lane) (range_with_len 0 l.lanes);
  entries = map zero_of (range_with_len 0 l.external);
  moves = [];
}

-- the words of a namespace from a new arena's first one on
pub record IsNewArena (l : Layout) (uuid parent words : List ℕ) : Type 0 where
  pub opens : opening words parent ≡ Ok (new_opened l uuid parent)
  pub zeros : (sector : ℕ) → sector < l.external → cell_at l words sector ≡ cell.Bytes (replicate (l.sector / 8) 0)

-- a law: a format takes two steps for each word of the four areas
abbrev pub FormatCounts : Type 0
FormatCounts = (at : ℕ) (l : Layout) (uuid parent : List ℕ) → length uuid ≡ 16 → length parent ≡ 16 → length (format_steps at l uuid parent) ≡ format_count l
