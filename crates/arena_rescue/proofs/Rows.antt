-- Worked examples, computed on the definitions: an arena of four sectors of 16 bytes and two lanes.
use Rattle.std.proofs.Common.{◌≡◌, ℕ, eqb, Bool, false, List, [], ◌∷◌, refl}
use Rattle.arena_layout.specs.declared.layout.Layout.{Layout}
use Rattle.flog.specs.declared.group.Group.{Group}
use Rattle.map_table.specs.Entry.{entry_of}
use Rattle.arena_open.specs.Reading.{moves_of}
use Rattle.arena_check.specs.Check.{recovered_map}
use Rattle.arena_rescue.specs.declared.loss.Loss.{Loss}
use Rattle.arena_rescue.specs.declared.loss.Loss.TheVariants as lost
use Rattle.arena_rescue.specs.Rescue.{loss_by, losses_of, rescued_map}

-- word 12 has the entries of sectors 0 and 1, word 13 those of 2 and 3; block b has words 2b and 2b + 1
abbrev tiny : Layout
tiny = record { size = 248; sector = 16; inner = 16; external = 4; internal = 6; lanes = 2; data_off = 0; map_off = 96; flog_off = 112; info_off = 240 }

abbrev lane : ℕ → ℕ → ℕ → Group
lane lba old new = record { side = 0; half = record { lba = lba; old = old; new = new; seq = 1 } }

-- blocks 4 and 5 are free
abbrev lanes : List Group
lanes = lane 0 4 4 ∷ lane 1 5 5 ∷ []

abbrev none : ℕ → Bool
none i = false

abbrev losses : (ℕ → Bool) → List ℕ → List Group → List Loss
losses bad entries groups = losses_of tiny bad (recovered_map entries groups) groups

abbrev readable : (ℕ → Bool) → List ℕ → List Group → List ℕ
readable bad entries groups = rescued_map tiny bad (recovered_map entries groups) groups

-- sector 0 is initial and has block 0; 1 has block 1; 2 reads as zeros with block 2; 3 has block 3
abbrev sound : List ℕ
sound = 0 ∷ 0xC0000001 ∷ 0x80000002 ∷ 0xC0000003 ∷ []

pub nothing_lost : (losses none sound lanes ≡ []) × (readable none sound lanes ≡ sound)
unfolding entry_of loss_by
nothing_lost = (refl, refl)

-- sectors 1 and 3 name block 3: which of them has it isn't sure, so both are lost
pub named_by_two :
    (losses none (0 ∷ 0xC0000003 ∷ 0x80000002 ∷ 0xC0000003 ∷ []) lanes ≡ lost.Twice 1 3 ∷ lost.Twice 3 3 ∷ [])
    × (readable none (0 ∷ 0xC0000003 ∷ 0x80000002 ∷ 0xC0000003 ∷ []) lanes ≡ 0 ∷ 0x80000000 ∷ 0x80000002 ∷ 0x80000000 ∷ [])
unfolding entry_of loss_by
named_by_two = (refl, refl)

-- an initial entry names its own number, so sector 3 names block 0 for the second time
pub named_by_initial : losses none (0 ∷ 0xC0000001 ∷ 0x80000002 ∷ 0xC0000000 ∷ []) lanes ≡ lost.Twice 0 0 ∷ lost.Twice 3 0 ∷ []
unfolding entry_of loss_by
named_by_initial = refl

-- sector 1 names the free block of a lane; without that lane it doesn't
pub named_by_a_lane :
    (losses none (0 ∷ 0xC0000005 ∷ 0x80000002 ∷ 0xC0000003 ∷ []) lanes ≡ lost.Twice 1 5 ∷ [])
    × (losses none (0 ∷ 0xC0000005 ∷ 0x80000002 ∷ 0xC0000003 ∷ []) (lane 0 4 4 ∷ []) ≡ [])
unfolding entry_of loss_by
named_by_a_lane = (refl, refl)

-- of a sound map nothing is lost without a lane
pub lane_left_out : (losses none sound (lane 0 4 4 ∷ []) ≡ []) × (readable none sound [] ≡ sound)
unfolding entry_of loss_by
lane_left_out = (refl, refl)

-- a block that doesn't exist, which is named twice
pub out_of_range : losses none (0 ∷ 0xC0000006 ∷ 0x80000002 ∷ 0xC0000006 ∷ []) lanes ≡ lost.Range 1 6 ∷ lost.Range 3 6 ∷ []
unfolding entry_of loss_by
out_of_range = refl

-- a sector of zeros whose block doesn't exist; and one whose block another sector has
pub zeros_are_checked :
    (losses none (0 ∷ 0xC0000001 ∷ 0x80000009 ∷ 0xC0000003 ∷ []) lanes ≡ lost.Range 2 9 ∷ [])
    × (losses none (0 ∷ 0xC0000001 ∷ 0x80000001 ∷ 0xC0000003 ∷ []) lanes ≡ lost.Twice 1 1 ∷ lost.Twice 2 1 ∷ [])
unfolding entry_of loss_by
zeros_are_checked = (refl, refl)

-- a bad word of the map has two entries. The blocks that stand there aren't named: sector 3 isn't lost, though sector 1 seems to have its block.
pub bad_map_word :
    (losses (eqb 12) sound lanes ≡ lost.BadMap 0 ∷ lost.BadMap 1 ∷ [])
    × (losses (eqb 12) (0 ∷ 0xC0000003 ∷ 0x80000002 ∷ 0xC0000003 ∷ []) lanes ≡ lost.BadMap 0 ∷ lost.BadMap 1 ∷ [])
    × (readable (eqb 12) sound lanes ≡ 0x80000000 ∷ 0x80000000 ∷ 0x80000002 ∷ 0xC0000003 ∷ [])
unfolding entry_of loss_by
bad_map_word = (refl, refl, refl)

-- a bad word of block 1; one of block 2, whose sector reads as zeros; one of block 4, which is free
pub bad_data_word :
    (losses (eqb 3) sound lanes ≡ lost.BadData 1 ∷ []) × (losses (eqb 4) sound lanes ≡ []) × (losses (eqb 9) sound lanes ≡ [])
unfolding entry_of loss_by
bad_data_word = (refl, refl, refl)

-- a sector that its entry marks as bad; one whose block doesn't exist besides
pub marked : losses none (0x40000000 ∷ 0x40000009 ∷ 0x80000002 ∷ 0xC0000003 ∷ []) lanes ≡ lost.Marked 0 ∷ lost.Range 1 9 ∷ []
unfolding entry_of loss_by
marked = refl

-- lane 1 moves sector 3 from block 3 to 5: its bytes are those of block 5, and a bad word counts there
pub pending_move :
    (moves_of sound (lane 0 4 4 ∷ lane 3 3 5 ∷ []) ≡ (lane 3 3 5).half ∷ [])
    × (readable none sound (lane 0 4 4 ∷ lane 3 3 5 ∷ []) ≡ 0 ∷ 0xC0000001 ∷ 0x80000002 ∷ 0xC0000005 ∷ [])
    × (losses (eqb 10) sound (lane 0 4 4 ∷ lane 3 3 5 ∷ []) ≡ lost.BadData 3 ∷ [])
    × (losses (eqb 6) sound (lane 0 4 4 ∷ lane 3 3 5 ∷ []) ≡ [])
unfolding entry_of loss_by
pending_move = (refl, refl, refl, refl)
