-- Worked rows: what reads find, and what they leave when power is cut.
use Rattle.std.proofs.Common.{◌≡◌, ℕ, List, [], ◌∷◌, refl}
use Rattle.map_table.specs.Entry.{entry_in, entry_of}
use Rattle.lane_core.specs.declared.phase.Phase.TheVariants.{Published, Moved, Reading}
use Rattle.lane_core.specs.Areas.{block_in, kind_in}
use Rattle.lane_table.specs.declared.loading.Found.{Found}
use Rattle.lane_table.specs.declared.loading.Found.TheVariants as found
use Rattle.lane_table.specs.Reads.{found_by, room_left}

-- ---- sector 9 in its map word: the entry is the upper half

-- what a look at this word tells a read of sector 9
abbrev at_nine : ℕ → Found
at_nine word = found_by (kind_in (entry_in word 9)) (block_in (entry_in word 9) 9)

-- 0x80000009: never written, so it reads as zeros
new_sector : at_nine 9223372075509481472 ≡ found.Zeros
unfolding kind_in block_in entry_in entry_of
new_sector = refl

-- 0xC0007EE1: the bytes of block 32,481
moved_sector : at_nine 13835197560114905088 ≡ found.Block 32481
unfolding kind_in block_in entry_in entry_of
moved_sector = refl

-- 0x40000009: bad
bad_sector : at_nine 4611686057082093568 ≡ found.Bad
unfolding kind_in block_in entry_in entry_of
bad_sector = refl

-- 0: an initial entry has the sector's own block
initial_sector : at_nine 0 ≡ found.Block 9
unfolding kind_in block_in entry_in entry_of
initial_sector = refl

-- ---- a room of three words, in which 1, 2, 3 stood

abbrev room : List ℕ
room = 1 ∷ 2 ∷ 3 ∷ []

-- power is cut before the first word is loaded, after two of them, and before the reader word is
-- cleared
cut_at_the_check : room_left Published [] room ≡ room
cut_at_the_check = refl

cut_after_two : room_left (Reading 2) (7 ∷ 8 ∷ []) room ≡ 7 ∷ 8 ∷ 3 ∷ []
cut_after_two = refl

cut_after_all : room_left (Reading 3) (7 ∷ 8 ∷ 9 ∷ []) room ≡ 7 ∷ 8 ∷ 9 ∷ []
cut_after_all = refl

-- a read that moved has loaded nothing
cut_when_moved : room_left Moved [] room ≡ room
cut_when_moved = refl
