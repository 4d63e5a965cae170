-- The words of a namespace of sectors after an import: UEFI 2.10, section 6.2 (BTT data structures), with this project's rules.
use Rattle.std.specs.Prelude.{◌≡◌, ◌≢◌, ℕ, ◌/◌, ◌<◌, List, [], ◌∷◌, take, drop, slice_index, sum_by, Ok}
use Rattle.cut_words.specs.WordBytes.{words_in}
use Rattle.arena_layout.specs.declared.layout.Layout.{Layout}
use Rattle.map_table.specs.declared.kinds.Kind.TheVariants as kind
use Rattle.map_table.specs.Entry.{entry_of}
use Rattle.arena_open.specs.declared.cell.Cell.{Cell}
use Rattle.arena_open.specs.declared.cell.Cell.TheVariants as cell
use Rattle.arena_open.specs.declared.state.ArenaState.{ArenaState}
use Rattle.arena_open.specs.ChainCells.{contents_of, sizes_of}
use Rattle.arena_open.specs.Moves.{moves_made}
use Rattle.arena_open.specs.Places.{block_word, map_word, word_of}
use Rattle.arena_open.specs.Reading.{entry_at}
use Rattle.power_cut.specs.Left.{Each}
use Rattle.sector_namespaces.specs.View.{opened_view}

-- the cells of sectors of these sizes, with these bytes one after another
abbrev pub cells_in : List ℕ → List ℕ → List Cell
cells_in [] bytes = []
cells_in (size ∷ sizes) bytes = cell.Bytes (words_in (take size bytes)) ∷ cells_in sizes (drop size bytes)

-- ---- an arena

-- the block of a sector in an arena's words
abbrev pub block_in : Layout → List ℕ → ℕ → ℕ
block_in l words own = (entry_of (entry_at l words own) own).block

-- word i of an arena is neither in the map nor one of the words of a sector
pub record IsElse (l : Layout) (words : List ℕ) (i : ℕ) : Type 0 where
  pub no_map : (w : ℕ) → word_of l (map_word w) ≢ i
  pub no_block : (own k : ℕ) → own < l.external → k < l.sector / 8 → word_of l (block_word (block_in l words own) k) ≢ i

-- An arena after the import, and before it with all pending moves made.
pub record IsRewritten (old new : ArenaState) : Type 0 where
  pub info : new.info ≡ old.info
  pub lanes : new.lanes ≡ old.lanes
  pub none : moves_made new ≡ 0
  -- each sector has a normal entry, of the block that it had
  pub blocks : (own : ℕ) → own < old.info.layout.external
      → entry_of (entry_at old.info.layout new.words own) own ≡ record { kind = kind.Normal; block = block_in old.info.layout old.words own }
  -- info blocks, free blocks, the log and the padding are as they were
  pub others : (i : ℕ) → i < old.info.layout.size / 8 → IsElse old.info.layout old.words i → slice_index new.words i ≡ slice_index old.words i

-- ---- the namespace

-- how many words arenas have together
abbrev pub arena_words : List ArenaState → ℕ
arena_words states = sum_by (λ state. state.info.layout.size / 8) states

-- The words of a namespace of which these were the arenas, and of the words that it had: its sectors have these bytes, one after another.
pub record HasContents (uuid bytes : List ℕ) (states : List ArenaState) (was now : List ℕ) : Type 0 where
  pub news : List ArenaState
  pub opens : opened_view now uuid ≡ Ok news
  pub each : Each IsRewritten states news
  -- the words behind all arenas are as they were
  pub behind : drop (arena_words states) now ≡ drop (arena_words states) was
  pub cells : contents_of news ≡ cells_in (sizes_of states) bytes
