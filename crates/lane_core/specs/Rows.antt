-- The row of words of a core, and its history with the room that is kept for entries.
use Rattle.std.specs.Prelude.{◌≡◌, ℕ, ◌+◌, ◌-◌, ◌<◌, ◌^◌, Bool, true, false, List, [], ◌∷◌, ◌++◌, length, replicate, slice_index, slice_index_or, slice_set, take, drop}
use Rattle.cut_words.specs.Words.{Words}
use Rattle.cut_words.specs.Pending.{options_of}
use Rattle.lane_core.specs.declared.history.Entry.{Entry}
use Rattle.lane_core.specs.declared.shape.Shape.{Shape}
use Rattle.lane_core.specs.Places.{reader_words, row_size}

-- all words, and of each word of the arena whether it was stored since its last keep
pub record RowWords : Type 0 where
  pub words : List ℕ
  pub pending : List Bool

-- the row of an arena's words with this many lanes, none of which reads or has a lock
abbrev pub new_row : List ℕ → ℕ → RowWords
new_row words lanes = record { words = words ++ words ++ replicate (reader_words lanes + lanes) 0; pending = replicate (length words) false }

-- after a reader word or a lock was set
abbrev pub put_in : RowWords → ℕ → ℕ → RowWords
put_in row at value = record row { words = slice_set row.words at value }

-- after word `at` of the arena was stored
abbrev pub stored_in : RowWords → ℕ → ℕ → RowWords
stored_in row at value = record { words = slice_set row.words at value; pending = slice_set row.pending at true }

-- after it was kept
abbrev pub kept_in : RowWords → ℕ → RowWords
kept_in row at = record { words = slice_set row.words (length row.pending + at) (slice_index row.words at); pending = slice_set row.pending at false }

-- the arena's words as words that lose power: the kept value of each, and the value that was stored
-- since its last keep
abbrev pub words_in : RowWords → Words
words_in row = record {
  kept = take (length row.pending) (drop (length row.pending) row.words);
  stored = options_of row.pending (take (length row.pending) row.words);
}

-- a word that wasn't stored since its last keep has one value, seen and kept
abbrev pub IsMarked : RowWords → Type 0
IsMarked row = (i : ℕ) → i < length row.pending → slice_index_or row.pending i false ≡ false → slice_index row.words i ≡ slice_index row.words (length row.pending + i)

-- a row has the words of a shape
pub record IsRow (x : Shape) (row : RowWords) : Type 0 where
  pub size : length row.words ≡ row_size x
  pub arena : length row.pending ≡ x.total
  pub small : row_size x < 2 ^ 60

-- ---- the history of a core

-- the calls that stand, and for how many more there is room
pub record Recorded : Type 0 where
  pub entries : List Entry
  pub room : ℕ

abbrev pub grown : Recorded → Entry → Recorded
grown past e = record { entries = past.entries ++ e ∷ []; room = past.room - 1 }
