-- Worked examples, computed on the definitions.
use Rattle.std.proofs.Common.{◌≡◌, ℕ, [], ◌∷◌, Result, Ok, Err, refl}
use Rattle.nvd_words.specs.Checks.{first_fault}
use Rattle.map_table.specs.declared.kinds.MapEntry.{MapEntry}
use Rattle.map_table.specs.declared.kinds.Kind.{Kind}
use Rattle.map_table.specs.declared.kinds.Kind.TheVariants as kind
use Rattle.map_table.specs.declared.check.BlockFault.{BlockFault}
use Rattle.map_table.specs.declared.check.BlockFault.TheVariants.{Range, Twice, Count}
use Rattle.map_table.specs.Entry.{entry_of, entry_in, with_entry}
use Rattle.map_table.specs.Blocks.{blocks_of, block_check, first_outside, least_twice}

abbrev means : Kind → ℕ → MapEntry
means k block = record { kind = k; block = block }

-- words of sector 7
pub normal_word : entry_of 0xC0000005 7 ≡ means kind.Normal 5
unfolding entry_of
normal_word = refl

pub zero_word : entry_of 0x80000005 7 ≡ means kind.Zero 5
unfolding entry_of
zero_word = refl

pub bad_word : entry_of 0x40000005 7 ≡ means kind.Bad 5
unfolding entry_of
bad_word = refl

pub initial_word : entry_of 0 7 ≡ means kind.Initial 7
unfolding entry_of
initial_word = refl

pub low_bits_ignored : entry_of 5 7 ≡ means kind.Initial 7
unfolding entry_of
low_bits_ignored = refl

pub lower_entry : entry_in 0xC000000280000001 6 ≡ 0x80000001
unfolding entry_in
lower_entry = refl

pub upper_entry : entry_in 0xC000000280000001 7 ≡ 0xC0000002
unfolding entry_in
upper_entry = refl

pub put_upper : with_entry 0xC000000280000001 7 0xC0000009 ≡ 0xC000000980000001
unfolding with_entry
put_upper = refl

abbrev fine : Result (Unit {0}) BlockFault
fine = Ok tt

abbrev refused : BlockFault → Result (Unit {0}) BlockFault
refused f = Err f

-- a map that was never written, with two lanes
pub initial_map : block_check 5 (blocks_of (0 ∷ 0 ∷ 0 ∷ []) (3 ∷ 4 ∷ [])) ≡ fine
unfolding first_fault first_outside least_twice entry_of
initial_map = refl

pub least_of_two : block_check 5 (blocks_of (0x80000004 ∷ 0 ∷ 0xC0000004 ∷ []) (1 ∷ 1 ∷ [])) ≡ refused (Twice 1)
unfolding first_fault first_outside least_twice entry_of
least_of_two = refl

pub map_before_free : block_check 5 (blocks_of (0x80000009 ∷ 0 ∷ 0x40000007 ∷ []) (6 ∷ 5 ∷ [])) ≡ refused (Range 9)
unfolding first_fault first_outside least_twice entry_of
map_before_free = refl

pub too_few : block_check 6 (blocks_of (0 ∷ 0 ∷ 0 ∷ []) (3 ∷ 4 ∷ [])) ≡ refused (Count 6 5)
unfolding first_fault first_outside least_twice entry_of
too_few = refl
