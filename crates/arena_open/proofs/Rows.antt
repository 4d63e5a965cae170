-- Worked examples, computed on the definitions.
use Rattle.std.proofs.Common.{◌≡◌, ℕ, ◌+◌, ◌*◌, ◌^◌, true, false, List, [], ◌∷◌, ◌++◌, take, refl}
use Rattle.arena_layout.specs.declared.layout.Layout.{Layout}
use Rattle.arena_layout.specs.Plan.{plan_of, available_of, whole_size, log_size, inner_of, internal_of, map_size}
use Rattle.flog.specs.declared.half.Half.{Half}
use Rattle.flog.specs.declared.group.Group.{Group}
use Rattle.map_table.specs.Entry.{entry_of, normal_of}
use Rattle.map_table.specs.Blocks.{blocks_of}
use Rattle.arena_open.specs.Places.{map_word, log_word, block_word, word_of}
use Rattle.arena_open.specs.Areas.{new_map, new_log}
use Rattle.arena_open.specs.Writes.{Write, write_steps, written_over, run_at}
use Rattle.arena_open.specs.Format.{format_count}
use Rattle.arena_open.specs.Reading.{is_pending, moves_of, moved, free_of}

-- ---- an arena of 16 MiB, and one of 32 MiB, with sectors of 512 bytes and 256 lanes

abbrev small : Layout
small = plan_of 16777216 512 256

pub steps_of_small : format_count small ≡ 38912
unfolding plan_of available_of whole_size log_size inner_of internal_of map_size
steps_of_small = refl

pub steps_of_greater : format_count (plan_of 33554432 512 256) ≡ 71680
unfolding plan_of available_of whole_size log_size inner_of internal_of map_size
steps_of_greater = refl

-- the words of entry 9, of lane 3's second half, and of block 2
pub places_of_small :
    (word_of small (map_word 4) ≡ 2078212) × (word_of small (log_word 3 2) ≡ 2094618) × (word_of small (block_word 2 63) ≡ 703)
unfolding plan_of available_of whole_size log_size inner_of internal_of map_size
places_of_small = (refl, refl, refl)

-- ---- new areas: three sectors in two words and one more, and two lanes in 17 words

pub map_of_three : new_map 3 3 ≡ (2 ^ 31 + 2 ^ 32 * (2 ^ 31 + 1)) ∷ (2 ^ 31 + 2) ∷ 0 ∷ []
map_of_three = refl

pub log_of_two : new_log 3 2 17 ≡ (0 + 2 ^ 32 * 3) ∷ (3 + 2 ^ 32) ∷ 0 ∷ 0 ∷ 0 ∷ 0 ∷ 0 ∷ 0 ∷ (1 + 2 ^ 32 * 4) ∷ (4 + 2 ^ 32) ∷ 0 ∷ 0 ∷ 0 ∷ 0 ∷ 0 ∷ 0 ∷ 0 ∷ []
log_of_two = refl

-- ---- writes

abbrev two : List Write
two = run_at 1 (7 ∷ 8 ∷ [])

-- after three of four steps the first is written, and the second is pending
pub three_steps : take 3 (write_steps two) ≡ take 2 (write_steps two) ++ take 1 (write_steps (run_at 2 (8 ∷ [])))
three_steps = refl

pub all_written : written_over (5 ∷ 5 ∷ 5 ∷ []) two ≡ 5 ∷ 7 ∷ 8 ∷ []
all_written = refl

-- ---- pending moves

abbrev move : ℕ → ℕ → ℕ → Half
move lba old new = record { lba = lba; old = old; new = new; seq = 1 }

-- entries of each kind for sector 1 with block 5, and an initial one, with block 1
pub pending_kinds :
    (is_pending (0 ∷ 0xC0000005 ∷ []) (move 1 5 7) ≡ true) × (is_pending (0 ∷ 0x80000005 ∷ []) (move 1 5 7) ≡ true)
    × (is_pending (0 ∷ 0x40000005 ∷ []) (move 1 5 7) ≡ true) × (is_pending (0 ∷ 5 ∷ []) (move 1 1 7) ≡ true) × (is_pending (0 ∷ 5 ∷ []) (move 1 5 7) ≡ false)
unfolding entry_of
pending_kinds = (refl, refl, refl, refl, refl)

-- a half that makes no move, and one that the map already shows
pub not_pending : (is_pending (0 ∷ 0xC0000005 ∷ []) (move 1 5 5) ≡ false) × (is_pending (0 ∷ 0xC0000007 ∷ []) (move 1 5 7) ≡ false)
unfolding entry_of
not_pending = (refl, refl)

abbrev lane : Half → Group
lane half = record { side = 0; half = half }

-- a chain of two lanes: sector 1 from 5 to 7, and from 7 to 9; only the first is pending
pub chain : moves_of (0 ∷ 0xC0000005 ∷ []) (lane (move 1 5 7) ∷ lane (move 1 7 9) ∷ []) ≡ move 1 5 7 ∷ []
unfolding entry_of
chain = refl

-- of two moves of one sector the later lane's counts
pub later_counts : moved (0 ∷ 0xC0000005 ∷ []) (move 1 5 7 ∷ move 1 5 9 ∷ []) ≡ 0 ∷ 0xC0000009 ∷ []
later_counts = refl

-- sector 9's entry is moved to block 32,202, and lane 0's free block is 100
pub moved_block : (normal_of 32202 ≡ 0xC0007DCA) × (free_of (lane (move 9 100 32202) ∷ []) ≡ 100 ∷ [])
moved_block = (refl, refl)

-- the blocks of a map of four sectors in which sector 1 was moved from 2 to 4, and of its lane
pub blocks_after : blocks_of (moved (0x80000000 ∷ 0xC0000002 ∷ 0x40000001 ∷ 0 ∷ []) (move 1 2 4 ∷ [])) (free_of (lane (move 1 2 4) ∷ [])) ≡ 0 ∷ 4 ∷ 1 ∷ 3 ∷ 2 ∷ []
unfolding entry_of
blocks_after = refl
