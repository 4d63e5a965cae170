-- Worked examples, computed on the definitions.
use Rattle.std.proofs.Common.{◌≡◌, ℕ, ◌+◌, ◌*◌, ◌^◌, List, [], ◌∷◌, Ok, refl}
use Rattle.nvd_words.specs.Checks.{first_fault}
use Rattle.arena_layout.specs.declared.info.Info.{Info}
use Rattle.arena_layout.specs.declared.layout.Layout.{Layout}
use Rattle.flog.specs.declared.group.Group.{Group}
use Rattle.flog.specs.Group.{are_ordered, current_side, is_padded, out_of_range, place_of}
use Rattle.map_table.specs.Entry.{entry_in, entry_of, normal_of, with_entry, zero_of}
use Rattle.arena_open.specs.declared.cell.Cell.TheVariants as cell
use Rattle.arena_open.specs.declared.state.ArenaState.{ArenaState}
use Rattle.arena_open.specs.Moves.{lane_of}
use Rattle.arena_open.specs.Reading.{cell_at, groups_in, map_in, moves_of}
use Rattle.lane_alone.specs.Lone.{lone_words, with_run}

pub run_inside : with_run (1 ∷ 2 ∷ 3 ∷ 4 ∷ []) 1 (7 ∷ 8 ∷ []) ≡ 1 ∷ 7 ∷ 8 ∷ 4 ∷ []
run_inside = refl

-- ---- two sectors of two words, and one lane: blocks in words 0 to 5, the map in word 6, the log from word 7 on

abbrev tiny : Layout
tiny = record { size = 120; sector = 16; inner = 16; external = 2; internal = 3; lanes = 1; data_off = 0; map_off = 48; flog_off = 56; info_off = 120 }

abbrev tiny_info : Info
tiny_info = record { uuid = []; parent = []; flags = 0; major = 2; minor = 0; next = 0; layout = tiny }

abbrev state : List ℕ → Group → ArenaState
state words group = record { info = tiny_info; words = words; lanes = lane_of group ∷ []; made = 0 }

abbrev group : ℕ → ℕ → ℕ → ℕ → ℕ → Group
group side lba old new seq = record { side = side; half = record { lba = lba; old = old; new = new; seq = seq } }

-- sector 0 reads as zeros, sector 1 has block 1, and block 2 is free
abbrev before : List ℕ
before = 10 ∷ 11 ∷ 12 ∷ 13 ∷ 0 ∷ 0 ∷ (zero_of 0 + 2 ^ 32 * normal_of 1) ∷ (0 + 2 ^ 32 * 2) ∷ (2 + 2 ^ 32 * 1) ∷ 0 ∷ 0 ∷ 0 ∷ 0 ∷ 0 ∷ 0 ∷ []

-- sector 1 gets block 2, and the second half of the log says so
abbrev once : List ℕ
once = 10 ∷ 11 ∷ 12 ∷ 13 ∷ 7 ∷ 8 ∷ (zero_of 0 + 2 ^ 32 * normal_of 2) ∷ (0 + 2 ^ 32 * 2) ∷ (2 + 2 ^ 32 * 1) ∷ (1 + 2 ^ 32 * 1) ∷ (2 + 2 ^ 32 * 2) ∷ 0 ∷ 0 ∷ 0 ∷ 0 ∷ []

pub first_write : lone_words (state before (group 0 0 2 2 1)) 1 (7 ∷ 8 ∷ []) ≡ once
unfolding entry_of entry_in with_entry place_of
first_write = refl

-- the second half is current then, its old block is free, and no move is pending
pub reads_back : groups_in tiny once ≡ Ok (group 1 1 1 2 2 ∷ [])
unfolding are_ordered current_side first_fault is_padded out_of_range place_of
reads_back = refl

pub none_pending : moves_of (map_in tiny once) (group 1 1 1 2 2 ∷ []) ≡ []
unfolding entry_of entry_in
none_pending = refl

pub has_value : cell_at tiny once 1 ≡ cell.Bytes (7 ∷ 8 ∷ [])
unfolding entry_of entry_in
has_value = refl

-- a second write, of sector 0, goes into block 1 and into the first half
pub second_write :
    lone_words (state once (group 1 1 1 2 2)) 0 (5 ∷ 6 ∷ [])
    ≡ 10 ∷ 11 ∷ 5 ∷ 6 ∷ 7 ∷ 8 ∷ (normal_of 1 + 2 ^ 32 * normal_of 2) ∷ (0 + 2 ^ 32 * 0) ∷ (1 + 2 ^ 32 * 3) ∷ (1 + 2 ^ 32 * 1) ∷ (2 + 2 ^ 32 * 2) ∷ 0 ∷ 0 ∷ 0 ∷ 0 ∷ []
unfolding entry_of entry_in with_entry place_of
second_write = refl
