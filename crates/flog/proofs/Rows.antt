-- Worked examples, computed on the definitions.
use Rattle.std.proofs.Common.{◌≡◌, ℕ, ◌^◌, List, [], ◌∷◌, Result, Ok, Err, refl}
use Rattle.nvd_words.specs.Checks.{first_fault}
use Rattle.flog.specs.declared.group.Group.{Group}
use Rattle.flog.specs.declared.group.FlogFault.{FlogFault}
use Rattle.flog.specs.declared.group.FlogFault.TheVariants.{Sequences, Range, Padding}
use Rattle.flog.specs.Group.{group_reading, place_of, is_padded, are_ordered, out_of_range, current_side}

abbrev group : ℕ → ℕ → ℕ → ℕ → List ℕ
group a b c d = a ∷ b ∷ c ∷ d ∷ 0 ∷ 0 ∷ 0 ∷ 0 ∷ []

abbrev read : ℕ → ℕ → ℕ → ℕ → ℕ → Result Group FlogFault
read side lba old new seq = Ok (record { side = side; half = record { lba = lba; old = old; new = new; seq = seq } })

-- lane 0 of an arena that Linux wrote: sector 5000 got block 64715 for 5000, after sector 9 got block 2 for 64715
pub linux_lane : group_reading (group 0x0000138800001388 0x000000030000FCCB 0x0000FCCB00000009 0x0000000200000002) 64716 64972 ≡ read 0 5000 5000 64715 3
unfolding first_fault place_of is_padded are_ordered out_of_range current_side
linux_lane = refl

-- a new lane of the same arena
pub new_lane : group_reading (group 0x0000FCCD00000001 0x000000010000FCCD 0 0) 64716 64972 ≡ read 0 1 64717 64717 1
unfolding first_fault place_of is_padded are_ordered out_of_range current_side
new_lane = refl

-- both flags of OldMap and NewMap are ignored
pub flagged_lane : group_reading (group 0 0 0xC000000500000002 0x00000001C0000004) 3 6 ≡ read 1 2 5 4 1
unfolding first_fault place_of is_padded are_ordered out_of_range current_side
flagged_lane = refl

abbrev refused : FlogFault → Result Group FlogFault
refused f = Err f

-- neither of two halves is newer
pub equal_numbers : group_reading (group 0 0x0000000200000000 0 0x0000000200000000) 3 6 ≡ refused (Sequences 2 2)
unfolding first_fault place_of is_padded are_ordered out_of_range current_side
equal_numbers = refl

-- a nonzero byte after the halves
pub padded_group : group_reading (0 ∷ 2 ^ 32 ∷ 0 ∷ 0 ∷ 0 ∷ 0 ∷ 0 ∷ 1 ∷ []) 3 6 ≡ refused Padding
unfolding first_fault place_of is_padded are_ordered out_of_range current_side
padded_group = refl

-- a move of a sector that is out of range
pub far_sector : group_reading (group 0x0000000500000003 0x0000000100000004 0 0) 3 6 ≡ refused (Range 3)
unfolding first_fault place_of is_padded are_ordered out_of_range current_side
far_sector = refl
