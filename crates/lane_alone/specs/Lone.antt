-- The words of an arena after one write of a sector by lane 0: Linux's BTT document, and UEFI 2.10, sections 6.2 and 6.3.
use Rattle.std.specs.Prelude.{ℕ, ◌+◌, ◌/◌, List, ◌++◌, length, take, drop, slice_index_or, slice_set}
use Rattle.nvd_words.specs.Ring.{successor_of}
use Rattle.flog.specs.declared.half.Half.{Half}
use Rattle.flog.specs.Group.{other_side, place_of, words_of_half}
use Rattle.map_table.specs.Entry.{entry_of, normal_of, with_entry}
use Rattle.arena_open.specs.declared.opened.LaneState.{LaneState}
use Rattle.arena_open.specs.declared.state.ArenaState.{ArenaState}
use Rattle.arena_open.specs.Places.{block_word, log_word, map_word, value_at, word_of}
use Rattle.arena_open.specs.Reading.{entry_at}

-- words with these values from word `at` on
abbrev pub with_run : List ℕ → ℕ → List ℕ → List ℕ
with_run words at values = take at words ++ values ++ drop (at + length values) words

-- ---- what the write finds

abbrev pub no_lane : LaneState
no_lane = record { free = 0; group = record { side = 0; half = record { lba = 0; old = 0; new = 0; seq = 0 } } }

-- the lane that writes
abbrev pub lane_zero : ArenaState → LaneState
lane_zero state = slice_index_or state.lanes 0 no_lane

-- the block that a sector has before the write
abbrev pub block_now : ArenaState → ℕ → ℕ
block_now state own = (entry_of (entry_at state.info.layout state.words own) own).block

-- ---- what it writes

-- the log's half for the move: the sector gets the lane's free block
abbrev pub move_half : ArenaState → ℕ → Half
move_half state own = record { lba = own; old = block_now state own; new = (lane_zero state).free; seq = successor_of (lane_zero state).group.half.seq }

-- the map word: the sector's entry is the normal one of the lane's free block
abbrev pub moved_word : ArenaState → ℕ → ℕ
moved_word state own = with_entry (value_at state.info.layout state.words (map_word (own / 2))) own (normal_of (lane_zero state).free)

-- ---- where

-- the first word of the lane's free block
abbrev pub block_place : ArenaState → ℕ
block_place state = word_of state.info.layout (block_word (lane_zero state).free 0)

-- the first word of the lane's half that isn't current
abbrev pub half_place : ArenaState → ℕ
half_place state = word_of state.info.layout (log_word 0 (place_of (other_side (lane_zero state).group.side)))

-- the map word of the sector
abbrev pub map_place : ArenaState → ℕ → ℕ
map_place state own = word_of state.info.layout (map_word (own / 2))

-- ---- the words after it

-- the value fills the block, then the log names the move, then the map word is switched
abbrev pub lone_words : ArenaState → ℕ → List ℕ → List ℕ
lone_words state own value =
    let filled = with_run state.words (block_place state) value in
    let logged = with_run filled (half_place state) (words_of_half (move_half state own)) in
    slice_set logged (map_place state own) (moved_word state own)
