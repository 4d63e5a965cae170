-- Worked rows of a schedule: two lanes, two sectors of one word, in blocks of one word.
use Rattle.std.proofs.Common.{◌≡◌, ℕ, ◌+◌, ◌*◌, ◌^◌, zero, suc, List, [], ◌∷◌, ◌++◌, replicate, refl}
use Rattle.nvd_words.specs.declared.tag.Tag.{Tag}
use Rattle.map_table.specs.Entry.{entry_of, entry_in, with_entry}
use Rattle.arena_open.specs.declared.cell.Cell.TheVariants as cell
use Rattle.lane_core.specs.declared.now.LaneNow.{LaneNow}
use Rattle.lane_core.specs.declared.phase.Phase.TheVariants.{Idle}
use Rattle.lane_core.specs.declared.shape.Shape.{Shape}
use Rattle.lane_core.specs.declared.stepped.Answer.TheVariants as answer
use Rattle.lane_core.specs.declared.stepped.Stepped.TheVariants as stepped
use Rattle.lane_core.specs.Areas.{put, kind_in, block_in, normal, word_a, word_b, lba_in, old_in, new_in, seq_in, next_seq}
use Rattle.lane_core.specs.Machine.{lock_of}
use Rattle.lane_core.specs.Schedules.{Asked, Read, Write, Step, Played, answer_in, entry_told, played, told}
use Rattle.lane_core.specs.Rows.{new_row}

-- four blocks, the map word, and from word 5 on the log
abbrev small : Shape
small = record { width = 1; sectors = 2; lanes = 2; inner = 1; data_at = 0; map_at = 4; log_at = 5; total = 21 }

-- no sector was written yet: both entries say zeros
abbrev words : List ℕ
words = replicate 4 0 ++ ((2 ^ 31 + 1) * 2 ^ 32 + 2 ^ 31) ∷ replicate 16 0

abbrev tag : ℕ → Tag
tag call = record { session = 0; call = call }

abbrev idle : ℕ → LaneNow
idle l = record {
  block = 2 + l;
  side = 0;
  half = record { lba = 0; old = 2 + l; new = 2 + l; seq = 1 };
  phase = Idle;
  tag = tag 0;
  sector = 0;
  loaded = 0;
  words = [];
  cell = [];
  next = tag 0;
  next_sector = 0;
}

abbrev new : Played
new = record { held = record { shape = small; row = new_row words 2; lanes = idle 0 ∷ idle 1 ∷ []; entries = [] }; calls = λ l. Step l; answers = [] }

abbrev steps : ℕ → ℕ → List Asked
steps zero l = []
steps (suc n) l = Step l ∷ steps n l

-- a write of 7 to sector 1 makes twelve steps
abbrev write : Asked
write = Write 0 (tag 1) 1 (7 ∷ [])

abbrev wrote : Played
wrote = played new (write ∷ steps 12 0)

write_is_answered : wrote.answers ≡ told write (tag 1) answer.Wrote ∷ []
unfolding played put entry_in with_entry kind_in block_in entry_of normal lba_in old_in new_in seq_in word_a word_b next_seq lock_of
write_is_answered = refl

-- with one step fewer it stands, and isn't answered
write_stands_before : (played new (write ∷ steps 11 0)).held.entries ≡ entry_told (told write (tag 1) answer.Wrote) ∷ []
unfolding played put entry_in with_entry kind_in block_in entry_of normal lba_in old_in new_in seq_in word_a word_b next_seq lock_of
write_stands_before = refl

not_answered_before : (played new (write ∷ steps 11 0)).answers ≡ []
unfolding played put entry_in with_entry kind_in block_in entry_of normal lba_in old_in new_in seq_in word_a word_b next_seq lock_of
not_answered_before = refl

-- a read of it makes five, and one of a sector that was never written makes one
abbrev read : ℕ → Asked
read sector = Read 1 (tag 2) sector

read_has_seven : (played wrote (read 1 ∷ steps 5 1)).answers ≡ told write (tag 1) answer.Wrote ∷ told (read 1) (tag 2) (answer.Got (cell.Bytes (7 ∷ []))) ∷ []
unfolding played put entry_in with_entry kind_in block_in entry_of normal lba_in old_in new_in seq_in word_a word_b next_seq lock_of
read_has_seven = refl

zeros_at_once : (played wrote (read 0 ∷ steps 1 1)).answers ≡ told write (tag 1) answer.Wrote ∷ told (read 0) (tag 2) (answer.Got (cell.Bytes (0 ∷ []))) ∷ []
unfolding played put entry_in with_entry kind_in block_in entry_of normal lba_in old_in new_in seq_in word_a word_b next_seq lock_of
zeros_at_once = refl

-- a busy lane begins nothing, and a step of an idle one is none
busy_is_refused : (played new (write ∷ Write 0 (tag 2) 0 (9 ∷ []) ∷ steps 12 0)).answers ≡ told write (tag 1) answer.Wrote ∷ []
unfolding played put entry_in with_entry kind_in block_in entry_of normal lba_in old_in new_in seq_in word_a word_b next_seq lock_of
busy_is_refused = refl

idle_does_nothing : answer_in wrote.held 0 ≡ stepped.Nothing
unfolding played put entry_in with_entry kind_in block_in entry_of normal lba_in old_in new_in seq_in word_a word_b next_seq lock_of
idle_does_nothing = refl
