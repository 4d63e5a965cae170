-- What a page and a map change of an arena's words, as a reader sees them.
use Rattle.std.specs.Prelude.{◌≡◌, ℕ, ◌/◌, ◌^◌, ◌<◌, ◌≤◌, List, length, take, drop}
use Rattle.std.specs.List.{All}
use Rattle.cut_words.specs.WordBytes.{put_at}
use Rattle.arena_layout.specs.declared.layout.Layout.{Layout}
use Rattle.arena_layout.specs.Layout.{IsLayout}
use Rattle.arena_open.specs.Places.{block_words, group_words}
use Rattle.arena_open.specs.Reading.{map_in}
use Rattle.arena_repair.specs.Repair.{with_map}

-- the 512 words of a page
abbrev pub page_of : ℕ → List ℕ → List ℕ
page_of word words = take 512 (drop word words)

-- the blocks and the lanes' groups stay
pub record Shows (l : Layout) (words now : List ℕ) : Type 0 where
  pub long : length now ≡ length words
  pub groups_are : (lane : ℕ) → lane < l.lanes → group_words l now lane ≡ group_words l words lane
  pub blocks_are : (block count : ℕ) → block < l.internal → count ≤ l.inner / 8 → block_words l now block count ≡ block_words l words block count

-- so does what is behind the arena
pub record Stays (l : Layout) (words now : List ℕ) : Type 0 where
  pub shows : Shows l words now
  pub behind : drop (l.size / 8) now ≡ drop (l.size / 8) words

-- the map has these entries, and both pages stay
pub record ChangesMap (l : Layout) (words now entries : List ℕ) : Type 0 where
  pub stays : Stays l words now
  pub map_is : map_in l now ≡ entries
  pub info_is : page_of 0 now ≡ page_of 0 words
  pub backup_is : page_of (l.info_off / 8) now ≡ page_of (l.info_off / 8) words

abbrev pub WithMapChanges : Type 0
WithMapChanges = (l : Layout) (words entries : List ℕ) → IsLayout l → l.size / 8 ≤ length words → length entries ≡ l.external → All (λ entry. entry < 2 ^ 32) entries
    → ChangesMap l words (with_map l words 0 entries) entries

-- both pages are the one that was at word `from`, and the map stays
pub record CopiesPage (l : Layout) (words now : List ℕ) (from : ℕ) : Type 0 where
  pub stays : Stays l words now
  pub map_is : map_in l now ≡ map_in l words
  pub info_is : page_of 0 now ≡ page_of from words
  pub backup_is : page_of (l.info_off / 8) now ≡ page_of from words

-- the first page over the backup
abbrev pub BackupCopies : Type 0
BackupCopies = (l : Layout) (words : List ℕ) → IsLayout l → l.size / 8 ≤ length words → CopiesPage l words (put_at words (l.info_off / 8) (page_of 0 words)) 0

-- the backup over the first page
abbrev pub FirstCopies : Type 0
FirstCopies = (l : Layout) (words : List ℕ) → IsLayout l → l.size / 8 ≤ length words
    → CopiesPage l words (put_at words 0 (page_of (l.info_off / 8) words)) (l.info_off / 8)
