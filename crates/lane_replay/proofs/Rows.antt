-- Worked rows: two lanes and two sectors of one word.
use Rattle.std.proofs.Common.{◌≡◌, ℕ, List, [], ◌∷◌, replicate, codes, refl, ap}
use Rattle.std.specs.Fmt.{digits}
use Rattle.hex.specs.Hex.{encode_with}
use Rattle.map_table.specs.Entry.{entry_in, entry_of, with_entry}
use Rattle.lane_core.specs.declared.now.LaneNow.{LaneNow}
use Rattle.lane_core.specs.declared.phase.Phase.TheVariants.{Idle}
use Rattle.lane_core.specs.declared.shape.Shape.{Shape}
use Rattle.lane_core.specs.Areas.{block_in, kind_in, next_seq, normal, word_a, word_b}
use Rattle.lane_core.specs.Machine.{lock_of}
use Rattle.lane_core.specs.Rows.{new_row}
use Rattle.session_script.specs.declared.payload.Payload.TheVariants.{Fill, Hex}
use Rattle.session_script.specs.declared.schedule.ReplayLine.{ReplayLine}
use Rattle.session_script.specs.declared.schedule.ReplayLine.TheVariants.{Read, Write, Step}
use Rattle.lane_core.specs.Held.{Held}
use Rattle.lane_replay.specs.Lanes.{answered, lane_changed, phase_at, stepped}
use Rattle.lane_replay.specs.Steps.{Played, steps}
use Rattle.lane_replay.specs.Playing.{cut_lines, played_all, replay_text, steps_played}
use Rattle.lane_replay.proofs.ManySteps.{was_idle}

-- the sectors have the blocks 0 and 1, the lanes 2 and 3. One map word has both entries
abbrev shape : Shape
shape = record { width = 1; sectors = 2; lanes = 2; inner = 1; data_at = 0; map_at = 4; log_at = 5; total = 21 }

abbrev lane : ℕ → LaneNow
lane block = record {
  block = block;
  side = 0;
  half = record { lba = 0; old = block; new = block; seq = 1 };
  phase = Idle;
  tag = record { session = 0; call = 0 };
  sector = 0;
  loaded = 0;
  words = [];
  cell = [];
  next = record { session = 0; call = 0 };
  next_sector = 0;
}

abbrev new_arena : Held
new_arena = record { shape = shape; row = new_row (replicate 21 0) 2; lanes = lane 2 ∷ lane 3 ∷ []; entries = [] }

abbrev printed : List ReplayLine → List ℕ
printed lines = replay_text new_arena lines

-- a write takes twelve steps here, and a read of what it wrote five
write_and_read : printed (Write 1 1 (Fill 0x11) ∷ Step 1 12 ∷ Read 0 1 ∷ Step 0 5 ∷ []) ≡ codes "lane 1 ok\nlane 0 ok fill:11\n"
unfolding steps stepped answered phase_at lane_changed played_all cut_lines entry_in entry_of with_entry kind_in block_in normal word_a word_b next_seq lock_of digits encode_with
write_and_read = refl

-- a busy lane, a lane that isn't there, an idle lane, and an unfinished write
refusals : printed (Write 1 1 (Fill 0x11) ∷ Step 1 2 ∷ Read 1 1 ∷ Read 5 1 ∷ Step 0 1 ∷ []) ≡ codes "lane 1 refused LaneBusy Staging 1\nlane 5 refused Lane 2\nlane 0 idle\nlane 1 cut\n"
unfolding steps stepped answered phase_at lane_changed played_all cut_lines entry_in entry_of with_entry kind_in block_in normal word_a word_b next_seq lock_of digits encode_with
refusals = refl

-- the first reason is printed: lane, sector, length, call
order : printed (Read 0 1 ∷ Read 5 9 ∷ Write 0 9 (Hex []) ∷ Write 0 1 (Hex (1 ∷ [])) ∷ Write 0 1 (Fill 1) ∷ []) ≡ codes "lane 5 refused Lane 2\nlane 0 refused Range 2\nlane 0 refused Length 1 8\nlane 0 refused LaneBusy Called\nlane 0 cut\n"
unfolding steps stepped answered phase_at lane_changed played_all cut_lines entry_in entry_of with_entry kind_in block_in normal word_a word_b next_seq lock_of digits encode_with
order = refl

-- no steps print nothing, but of a lane that isn't there
none_of_nobody : printed (Step 0 0 ∷ Step 2 0 ∷ []) ≡ codes "lane 2 refused Lane 2\n"
unfolding steps stepped answered phase_at lane_changed played_all cut_lines entry_in entry_of with_entry kind_in block_in normal word_a word_b next_seq lock_of digits encode_with
none_of_nobody = refl

-- each line says once that the lane is idle
idle_once : printed (Read 0 1 ∷ Step 0 9 ∷ Step 0 2 ∷ []) ≡ codes "lane 0 ok fill:00\nlane 0 idle\nlane 0 idle\n"
unfolding steps stepped answered phase_at lane_changed played_all cut_lines entry_in entry_of with_entry kind_in block_in normal word_a word_b next_seq lock_of digits encode_with
idle_once = refl

-- both sectors have one lock. Lane 1 has it, and lane 0 stays where it is
lock_is_taken : printed (Write 1 1 (Fill 1) ∷ Step 1 4 ∷ Write 0 0 (Fill 2) ∷ Step 0 9 ∷ Read 0 0 ∷ []) ≡ codes "lane 0 refused LaneBusy Staged\nlane 0 cut\nlane 1 cut\n"
unfolding steps stepped answered phase_at lane_changed played_all cut_lines entry_in entry_of with_entry kind_in block_in normal word_a word_b next_seq lock_of digits encode_with
lock_is_taken = refl

-- lane 0 reads the block that lane 1 wrote and has again: lane 1 scans until it is read
scan_goes_round : printed (Write 1 1 (Fill 7) ∷ Step 1 12 ∷ Read 0 1 ∷ Step 0 3 ∷ Write 1 1 (Fill 8) ∷ Step 1 12 ∷ Write 1 1 (Fill 9) ∷ Step 1 5 ∷ Read 1 1 ∷ Step 0 2 ∷ Step 1 12 ∷ [])
    ≡ codes "lane 1 ok\nlane 1 ok\nlane 1 refused LaneBusy Scanning 0\nlane 0 ok fill:07\nlane 1 ok\n"
unfolding steps stepped answered phase_at lane_changed played_all cut_lines entry_in entry_of with_entry kind_in block_in normal word_a word_b next_seq lock_of digits encode_with
scan_goes_round = refl

-- 2^64 - 1 steps of an idle lane
many_idle : (steps_played new_arena 0 18446744073709551615).text ≡ codes "lane 0 idle\n"
unfolding answered digits
many_idle = ap (λ (p : Played). p.text) (was_idle 18446744073709551614 0 new_arena refl)
