-- Worked examples, computed on the definitions: an arena of four sectors of 16 bytes and two lanes, without its info blocks.
use Rattle.std.proofs.Common.{◌≡◌, ℕ, ◌+◌, ◌*◌, ◌^◌, eqb, Bool, false, List, [], ◌∷◌, ◌++◌, Option, Some, None, refl}
use Rattle.nvd_words.specs.Checks.{first_fault}
use Rattle.arena_layout.specs.declared.layout.Layout.{Layout}
use Rattle.flog.specs.Group.{place_of, is_padded, are_ordered, out_of_range, current_side}
use Rattle.map_table.specs.Entry.{entry_of, entry_in}
use Rattle.arena_open.specs.Reading.{groups_in}
use Rattle.arena_repair.specs.Repair.{map_repair}

abbrev tiny : Layout
tiny = record { size = 248; sector = 16; inner = 16; external = 4; internal = 6; lanes = 2; data_off = 0; map_off = 96; flog_off = 112; info_off = 240 }

abbrev lane : ℕ → ℕ → ℕ → List ℕ
lane lba old new = (lba + 2 ^ 32 * old) ∷ (new + 2 ^ 32 * 1) ∷ 0 ∷ 0 ∷ 0 ∷ 0 ∷ 0 ∷ 0 ∷ []

-- sector 0 is initial and has block 0; 1 has block 1; 2 reads as zeros with block 2; 3 has block 3
abbrev arena : List ℕ → List ℕ → List ℕ
arena first second =
    (0 ∷ 1 ∷ 2 ∷ 3 ∷ 4 ∷ 5 ∷ 6 ∷ 7 ∷ 8 ∷ 9 ∷ 10 ∷ 11 ∷ []) ++ (0 + 2 ^ 32 * 0xC0000001) ∷ (0x80000002 + 2 ^ 32 * 0xC0000003) ∷ first ++ second ++ 0 ∷ []

abbrev none : ℕ → Bool
none i = false

abbrev entries_in : (ℕ → Bool) → List ℕ → Option (List ℕ)
entries_in bad words = map_repair tiny bad words (groups_in tiny words)

-- nothing is pending and no word is bad: the map isn't written
pub sound_arena : entries_in none (arena (lane 0 4 4) (lane 1 5 5)) ≡ None
unfolding entry_of entry_in first_fault place_of is_padded are_ordered out_of_range current_side
sound_arena = refl

-- lane 1 moves sector 3 from block 3 to 5, and word 3 lies in block 1: the move is made, and sector 1 is marked, with its block kept
pub moved_and_marked : entries_in (eqb 3) (arena (lane 0 4 4) (lane 3 3 5)) ≡ Some (0 ∷ 0x40000001 ∷ 0x80000002 ∷ 0xC0000005 ∷ [])
unfolding entry_of entry_in first_fault place_of is_padded are_ordered out_of_range current_side
moved_and_marked = refl

-- a bad word of block 5, where the move goes: the sector is marked there. One of block 3, which it leaves, marks none.
pub marked_after_the_move :
    (entries_in (eqb 10) (arena (lane 0 4 4) (lane 3 3 5)) ≡ Some (0 ∷ 0xC0000001 ∷ 0x80000002 ∷ 0x40000005 ∷ []))
    × (entries_in (eqb 6) (arena (lane 0 4 4) (lane 3 3 5)) ≡ Some (0 ∷ 0xC0000001 ∷ 0x80000002 ∷ 0xC0000005 ∷ []))
unfolding entry_of entry_in first_fault place_of is_padded are_ordered out_of_range current_side
marked_after_the_move = (refl, refl)

-- two lanes have one free block: which of them owns it can't be known, so nothing of the map is written
pub two_with_one : entries_in (eqb 3) (arena (lane 0 4 4) (lane 1 4 4)) ≡ None
unfolding entry_of entry_in first_fault place_of is_padded are_ordered out_of_range current_side
two_with_one = refl

-- nor if a lane's group is refused
pub refused_lane : entries_in (eqb 3) (arena (lane 0 4 4) (0 ∷ 0 ∷ 0 ∷ 0 ∷ 0 ∷ 0 ∷ 0 ∷ 0 ∷ [])) ≡ None
unfolding entry_of entry_in first_fault place_of is_padded are_ordered out_of_range current_side
refused_lane = refl
