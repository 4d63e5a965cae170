-- Worked rows: two lanes, sectors of one word; and the places of many lanes' reader words.
use Rattle.std.proofs.Common.{◌≡◌, ℕ, ◌+◌, List, [], ◌∷◌, ◌++◌, map, refl, zero, suc}
use Rattle.nvd_words.specs.declared.tag.Tag.{Tag}
use Rattle.map_table.specs.Entry.{entry_of, entry_in, with_entry}
use Rattle.arena_open.specs.declared.cell.Cell.TheVariants as cell
use Rattle.lane_core.specs.declared.history.Act.TheVariants as act
use Rattle.lane_core.specs.Areas.{Geometry, put, kind_in, block_in, normal, word_a, word_b, lba_in, old_in, new_in, seq_in, next_seq}
use Rattle.lane_core.specs.History.{cell_in, cell_of, listed}
use Rattle.lane_core.specs.Machine.{Scanning, Staging, Staged, Locked, Logged, Reading, State, lock_of, data_store, data_load}
use Rattle.lane_core.specs.Runs.{Event, Write, Store, Take, Read, Step, run}
use Rattle.lane_core.specs.Cut.{recovered_entry}
use Rattle.lane_core.specs.Opening.{formatted, opened}
use Rattle.lane_core.specs.Places.{reader_place, reader_words}

-- two sectors and two lanes: the sectors have the blocks 0 and 1, the lanes 2 and 3
abbrev two : Geometry
two = record { width = 1; sectors = 2; lanes = 2 }

abbrev tag : ℕ → Tag
tag call = record { session = 0; call = call }

abbrev new_arena : State
new_arena = opened (formatted two) (λ l. 0)

abbrev steps : ℕ → ℕ → List Event
steps zero l = []
steps (suc n) l = Step l ∷ steps n l

-- a whole write by lane l: a scan of the other lane, a word stored and kept, the lock, and eight
-- steps under it
abbrev write : ℕ → ℕ → ℕ → ℕ → List Event
write l call sector word = Write l ∷ Step l ∷ Store l word ∷ Step l ∷ Take l (tag call) sector ∷ steps 8 l

-- ---- the race that makes the scan necessary

-- lane 1 writes 7 to sector 0; lane 0 reads the sector and has its entry; lane 1 writes 8 there, so
-- that the block that lane 0 is still to load is lane 1's free block; then lane 1 begins a third
-- write
abbrev race : List Event
race = write 1 0 0 7 ++ (Read 0 (tag 1) 0 ∷ steps 3 0) ++ write 1 2 0 8 ++ (Write 1 ∷ [])

abbrev raced : State
raced = run two new_arena race

reader_is_in : (raced.lanes 0).phase ≡ Reading 0
unfolding run put entry_in with_entry kind_in block_in entry_of normal lba_in old_in new_in seq_in word_a word_b next_seq lock_of cell_in listed recovered_entry
reader_is_in = refl

its_block_is_free : raced.readers 0 ≡ (raced.lanes 1).block + 1
unfolding run put entry_in with_entry kind_in block_in entry_of normal lba_in old_in new_in seq_in word_a word_b next_seq lock_of cell_in listed recovered_entry
its_block_is_free = refl

-- the scan begins again, however often lane 1 steps
writer_waits : ((run two raced (steps 3 1)).lanes 1).phase ≡ Scanning 0
unfolding run put entry_in with_entry kind_in block_in entry_of normal lba_in old_in new_in seq_in word_a word_b next_seq lock_of cell_in listed recovered_entry
writer_waits = refl

-- when the read is answered, it has what its entry says, and the writer goes on
reader_has_seven : ((run two raced (steps 2 0)).lanes 0).log ≡ record { lane = 0; tag = tag 1; sector = 0; act = act.Read (cell.Bytes (7 ∷ [])) } ∷ []
unfolding run put entry_in with_entry kind_in block_in entry_of normal lba_in old_in new_in seq_in word_a word_b next_seq lock_of cell_in listed recovered_entry
reader_has_seven = refl

writer_goes_on : ((run two raced (steps 2 0 ++ steps 1 1)).lanes 1).phase ≡ Staging 0
unfolding run put entry_in with_entry kind_in block_in entry_of normal lba_in old_in new_in seq_in word_a word_b next_seq lock_of cell_in listed recovered_entry
writer_goes_on = refl

-- without the scan the writer's word would be read, though the history says 7
without_scan : ((data_load two (data_store two raced 1 0 9) 0 0).lanes 0).got ≡ 9 ∷ []
unfolding run put entry_in with_entry kind_in block_in entry_of normal lba_in old_in new_in seq_in word_a word_b next_seq lock_of cell_in listed recovered_entry
without_scan = refl

-- ---- one lock for both entries of a map word

abbrev twelve : Geometry
twelve = record { width = 1; sectors = 12; lanes = 2 }

abbrev new_twelve : State
new_twelve = opened (formatted twelve) (λ l. 0)

-- lane 1 has logged a write to sector 9; lane 0 has staged one
abbrev stopped : List Event
stopped = (Write 1 ∷ Step 1 ∷ Store 1 7 ∷ Step 1 ∷ Take 1 (tag 0) 9 ∷ steps 5 1) ++ (Write 0 ∷ Step 0 ∷ Store 0 8 ∷ Step 0 ∷ [])

logged : ((run twelve new_twelve stopped).lanes 1).phase ≡ Logged
unfolding run put entry_in with_entry kind_in block_in entry_of normal lba_in old_in new_in seq_in word_a word_b next_seq lock_of cell_in listed recovered_entry
logged = refl

-- sector 8 has its entry in the same word, sector 10 has not
eight_waits : ((run twelve new_twelve (stopped ++ (Take 0 (tag 1) 8 ∷ Take 0 (tag 1) 8 ∷ []))).lanes 0).phase ≡ Staged
unfolding run put entry_in with_entry kind_in block_in entry_of normal lba_in old_in new_in seq_in word_a word_b next_seq lock_of cell_in listed recovered_entry
eight_waits = refl

ten_goes_on : ((run twelve new_twelve (stopped ++ (Take 0 (tag 1) 10 ∷ []))).lanes 0).phase ≡ Locked
unfolding run put entry_in with_entry kind_in block_in entry_of normal lba_in old_in new_in seq_in word_a word_b next_seq lock_of cell_in listed recovered_entry
ten_goes_on = refl

-- ---- a cut

-- in Logged the sector's cell is still zeros, and the words that are kept recover to the write's
before_switch : cell_of twelve (run twelve new_twelve stopped).kept.data_at (run twelve new_twelve stopped).kept.map_at 9 ≡ cell.Bytes (0 ∷ [])
unfolding run put entry_in with_entry kind_in block_in entry_of normal lba_in old_in new_in seq_in word_a word_b next_seq lock_of cell_in listed recovered_entry
before_switch = refl

recovered_write : cell_in 1 (run twelve new_twelve stopped).kept.data_at (recovered_entry (run twelve new_twelve stopped).kept (λ l. l) 2 9) 9 ≡ cell.Bytes (7 ∷ [])
unfolding run put entry_in with_entry kind_in block_in entry_of normal lba_in old_in new_in seq_in word_a word_b next_seq lock_of cell_in listed recovered_entry
recovered_write = refl

-- ---- the reader table

-- lanes 0 to 31 have the first words of 32 lines, and lane 32 the second word of the first line
first_lines : map reader_place (0 ∷ 1 ∷ 2 ∷ 31 ∷ 32 ∷ 33 ∷ []) ≡ 0 ∷ 8 ∷ 16 ∷ 248 ∷ 1 ∷ 9 ∷ []
first_lines = refl

-- lane 255 has the last word of the last line, and lane 256 begins another group
next_group : map reader_place (254 ∷ 255 ∷ 256 ∷ 257 ∷ 288 ∷ []) ≡ 247 ∷ 255 ∷ 256 ∷ 264 ∷ 257 ∷ []
next_group = refl

groups : map reader_words (0 ∷ 1 ∷ 255 ∷ 256 ∷ 257 ∷ 512 ∷ []) ≡ 512 ∷ 768 ∷ 768 ∷ 768 ∷ 1024 ∷ 1024 ∷ []
groups = refl
