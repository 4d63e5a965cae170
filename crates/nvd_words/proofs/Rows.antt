-- Worked examples, computed on the definitions.
use Rattle.std.proofs.Common.{◌≡◌, true, false, [], ◌∷◌, refl}
use Rattle.std.specs.Int.{w64}
use Rattle.uuid.specs.Parts.{swap_fields}
use Rattle.nvd_words.specs.Bytes.{number_at}
use Rattle.nvd_words.specs.Fletcher.{fletcher64_of, without_eight}
use Rattle.nvd_words.specs.Ring.{successor_of, is_newer}

-- the words 1 and 2: low half 1 + 2, high half 2 * 1 + 1 * 2
checksum_of_two_words : fletcher64_of (1 ∷ 0 ∷ 0 ∷ 0 ∷ 2 ∷ 0 ∷ 0 ∷ 0 ∷ []) ≡ 0x0000000400000003
checksum_of_two_words = refl

checksum_of_nothing : fletcher64_of [] ≡ 0
checksum_of_nothing = refl

-- both sums wrap: the word 2^32 - 1 twice
checksum_wraps : fletcher64_of (255 ∷ 255 ∷ 255 ∷ 255 ∷ 255 ∷ 255 ∷ 255 ∷ 255 ∷ []) ≡ 0xFFFFFFFDFFFFFFFE
checksum_wraps = refl

-- eight bytes after the first word are taken as zero
checksum_without : fletcher64_of (without_eight (1 ∷ 0 ∷ 0 ∷ 0 ∷ 9 ∷ 9 ∷ 9 ∷ 9 ∷ 9 ∷ 9 ∷ 9 ∷ 9 ∷ []) 4) ≡ 0x0000000300000001
checksum_without = refl

ring_of_three : (successor_of 1 ≡ 2) × (successor_of 2 ≡ 3) × (successor_of 3 ≡ 1)
ring_of_three = (refl, refl, refl)

-- 0 is older than each number of the ring and newer than none, and no number is newer than itself
ring_order : (is_newer 3 1 ≡ true) × (is_newer 1 3 ≡ false) × (is_newer 0 2 ≡ true) × (is_newer 2 0 ≡ false) × (is_newer 2 2 ≡ false) × (is_newer 0 4 ≡ false)
ring_order = (refl, refl, refl, refl, refl, refl)

number_of_eight_bytes : number_at w64 (9 ∷ 1 ∷ 2 ∷ 0 ∷ 0 ∷ 0 ∷ 0 ∷ 0 ∷ 128 ∷ []) 1 ≡ 0x8000000000000201
unfolding number_at
number_of_eight_bytes = refl

-- the GUID of persistent memory, 66f0d379-b4f3-4074-ac43-0d3318b78cdb
guid_of_persistent_memory : swap_fields (0x66 ∷ 0xf0 ∷ 0xd3 ∷ 0x79 ∷ 0xb4 ∷ 0xf3 ∷ 0x40 ∷ 0x74 ∷ 0xac ∷ 0x43 ∷ 0x0d ∷ 0x33 ∷ 0x18 ∷ 0xb7 ∷ 0x8c ∷ 0xdb ∷ [])
    ≡ 0x79 ∷ 0xd3 ∷ 0xf0 ∷ 0x66 ∷ 0xf3 ∷ 0xb4 ∷ 0x74 ∷ 0x40 ∷ 0xac ∷ 0x43 ∷ 0x0d ∷ 0x33 ∷ 0x18 ∷ 0xb7 ∷ 0x8c ∷ 0xdb ∷ []
guid_of_persistent_memory = refl
