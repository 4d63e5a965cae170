-- The canonical encoding of a valid block is read as that block.
use Rattle.std.proofs.Common.{◌≡◌, ℕ, zero, suc, ◌+◌, ◌-◌, ◌*◌, ◌/◌, ◌%◌, ◌^◌, ◌<◌, ◌≤◌, Bool, true, false, eqb, List, [], ◌∷◌, ◌++◌, length, take, drop, map, get_or, replicate, Ok, refl, sym, ap, ◌∙◌, arith}
use Rattle.std.specs.List.{range_with_len}
use Rattle.std.specs.Int.{w16, w32, w64, to_le_bytes}
use Rattle.std.proofs.lemmas.Bool.{eq-eqb, le-leb, ne_eqb}
use Rattle.std.proofs.Math.Nat.{zero-div, div-div-eq-div-mul, pow-succ'}
use Rattle.std.proofs.lemmas.Nat.{from_le_bytes-to_le_bytes_4, from_le_bytes-to_le_bytes_8}
use Rattle.std.proofs.lemmas.List.{get_or-take, get_or-drop, length-take}
use Rattle.std.proofs.lemmas.List.FromFn.{length-map-range_with_len, get_or-map-range_with_len, fill_by_all}
use Rattle.nvd_words.specs.Bytes.{number_at, AreBytes}
use Rattle.nvd_words.proofs.ByteLists.{no_bytes, one_byte, both_bytes, few_bytes, zero_bytes, eight_bytes, four_bytes}
use Rattle.nvd_words.specs.Checks.{checked}
use Rattle.nvd_words.specs.Fletcher.{fletcher64_of, without_eight}
use Rattle.label_index.specs.declared.index.IndexBlock.{IndexBlock}
use Rattle.label_index.specs.declared.index.Side.{Side}
use Rattle.label_index.specs.declared.index.Side.TheVariants as side
use Rattle.label_index.specs.Index.{block_reading, index_of, place_of, other_place_of, signature, is_free, free_of, has_signature, sequence_of, has_version, has_offsets, has_slots, has_checksum}
use Rattle.label_index.specs.Valid.{IsValid}
use Rattle.label_index.specs.Spelling.{number_of_bits, head_of, tail_of, spelling_of}

-- an index block has at least 256 bytes and less than its area, which has at most a mebibyte
pub enough : (area : ℕ) (b : IndexBlock) → IsValid area b → 256 ≤ b.size
enough area b ok = omega (arith, ok.whole)

pub small : (area : ℕ) (b : IndexBlock) → IsValid area b → b.size ≤ 1048576
small area b ok = omega (arith, ok.fits, ok.sized.high)

pub few_slots : (area : ℕ) (b : IndexBlock) → IsValid area b → b.slots < 2 ^ 32
few_slots area b ok = omega (arith, ok.fits, ok.sized.high)

signed : (b : IndexBlock) → has_signature (spelling_of b) ≡ true
unfolding has_signature spelling_of
signed b = refl

pub numbered : (b : IndexBlock) → b.seq ≤ 3 → sequence_of (spelling_of b) ≡ b.seq
unfolding sequence_of number_at spelling_of
numbered b le = ap (λ (n : ℕ). n % 4) (from_le_bytes-to_le_bytes_4 b.seq (omega arith)) ∙ omega arith

versioned : (b : IndexBlock) → has_version (spelling_of b) ≡ true
unfolding has_version number_at spelling_of
versioned b = refl

pub size_at : (b : IndexBlock) → b.size ≤ 1048576 → number_at w64 (spelling_of b) 32 ≡ b.size
unfolding number_at spelling_of
size_at b le = from_le_bytes-to_le_bytes_8 b.size (omega arith)

pub my_at : (b : IndexBlock) → place_of b.size b.side ≤ 1048576 → number_at w64 (spelling_of b) 24 ≡ place_of b.size b.side
unfolding number_at spelling_of
my_at b le = from_le_bytes-to_le_bytes_8 (place_of b.size b.side) (omega arith)

other_at : (b : IndexBlock) → other_place_of b.size b.side ≤ 1048576 → number_at w64 (spelling_of b) 40 ≡ other_place_of b.size b.side
unfolding number_at spelling_of
other_at b le = from_le_bytes-to_le_bytes_8 (other_place_of b.size b.side) (omega arith)

labels_at : (b : IndexBlock) → b.size ≤ 1048576 → number_at w64 (spelling_of b) 48 ≡ 2 * b.size
unfolding number_at spelling_of
labels_at b le = from_le_bytes-to_le_bytes_8 (2 * b.size) (omega arith)

pub slots_at : (b : IndexBlock) → b.slots < 2 ^ 32 → number_at w32 (spelling_of b) 56 ≡ b.slots
unfolding number_at spelling_of
slots_at b lt = from_le_bytes-to_le_bytes_4 b.slots lt

label_size : (b : IndexBlock) → get_or (spelling_of b) 19 0 ≡ 1
unfolding spelling_of
label_size b = refl

pub places : (size : ℕ) (s : Side) → size ≤ 1048576 → (place_of size s ≤ 1048576) × (other_place_of size s ≤ 1048576)
places size side.Zero le = (omega arith, omega arith)
places size side.One le = (omega arith, omega arith)

offsets : (b : IndexBlock) → b.size ≤ 1048576 → has_offsets b.size b.side (spelling_of b) ≡ true
unfolding has_offsets
offsets b le =
    let p = places b.size b.side le in
    rw (
      my_at b p.0,
      size_at b le,
      other_at b p.1,
      labels_at b le,
      eq-eqb (place_of b.size b.side) (place_of b.size b.side) refl,
      eq-eqb b.size b.size refl,
      eq-eqb (other_place_of b.size b.side) (other_place_of b.size b.side) refl,
      eq-eqb (2 * b.size) (2 * b.size) refl,
    ) refl

slotted : (area : ℕ) (b : IndexBlock) → IsValid area b → has_slots area b.size (spelling_of b) ≡ true
unfolding has_slots
slotted area b ok =
    rw (label_size b, slots_at b (few_slots area b ok), le-leb 1 b.slots ok.some, le-leb (72 + (b.slots + 7) / 8) b.size ok.bits, le-leb (2 * b.size + 256 * b.slots) area ok.fits) refl

sum_of : (b : IndexBlock) → fletcher64_of (without_eight (spelling_of b) 64) ≡ fletcher64_of (head_of b ++ (replicate 8 0 ++ tail_of b))
unfolding spelling_of
sum_of b = refl

sum_at : (b : IndexBlock) → number_at w64 (spelling_of b) 64 ≡ fletcher64_of (head_of b ++ (replicate 8 0 ++ tail_of b))
unfolding number_at spelling_of
sum_at b = from_le_bytes-to_le_bytes_8 (fletcher64_of (head_of b ++ (replicate 8 0 ++ tail_of b))) (omega arith)

summed : (b : IndexBlock) → has_checksum (spelling_of b) ≡ true
unfolding has_checksum
summed b = eq-eqb (number_at w64 (spelling_of b) 64) (fletcher64_of (without_eight (spelling_of b) 64)) (sum_at b ∙ sym (sum_of b))

-- ---- the bits of Free

pub halved : (n half j : ℕ) → n / 2 ≡ half → n / 2 ^ suc j ≡ half / 2 ^ j
halved n half j e = ap (λ (k : ℕ). n / k) (pow-succ' 2 j) ∙ sym (div-div-eq-div-mul n 2 (2 ^ j)) ∙ ap (λ (k : ℕ). k / 2 ^ j) e

zero_over : (k : ℕ) → 0 / k ≡ 0
zero_over k = zero-div k

bit_of : (bits : List Bool) (j : ℕ) → (eqb (number_of_bits bits / 2 ^ j % 2) 1) ≡ get_or bits j false
bit_of [] j = ap (λ (n : ℕ). eqb (n % 2) 1) (zero_over (2 ^ j))
bit_of (true ∷ bits) zero = eq-eqb ((1 + 2 * number_of_bits bits) / 2 ^ 0 % 2) 1 (omega arith)
bit_of (false ∷ bits) zero = ne_eqb ((0 + 2 * number_of_bits bits) / 2 ^ 0 % 2) 1 (λ e. omega arith)
bit_of (true ∷ bits) (suc j) = ap (λ (n : ℕ). eqb (n % 2) 1) (halved (1 + 2 * number_of_bits bits) (number_of_bits bits) j (omega arith)) ∙ bit_of bits j
bit_of (false ∷ bits) (suc j) = ap (λ (n : ℕ). eqb (n % 2) 1) (halved (0 + 2 * number_of_bits bits) (number_of_bits bits) j (omega arith)) ∙ bit_of bits j

tail_byte : (b : IndexBlock) (k : ℕ) → get_or (spelling_of b) (72 + k) 0 ≡ get_or (tail_of b) k 0
unfolding spelling_of
tail_byte b k = sym (get_or-drop 72 (spelling_of b) k 0)

free_byte : (b : IndexBlock) (k : ℕ) → k < b.size - 72 → get_or (tail_of b) k 0 ≡ number_of_bits (take 8 (drop (8 * k) b.free))
free_byte b k lt = get_or-map-range_with_len (λ j. number_of_bits (take 8 (drop (8 * j) b.free))) 0 (b.size - 72) k k 0 lt (omega arith)

pub freed : (b : IndexBlock) (n : ℕ) → n < 8 * (b.size - 72) → is_free (spelling_of b) n ≡ get_or b.free n false
freed b n lt =
    ap (λ (byte : ℕ). eqb (byte / 2 ^ (n % 8) % 2) 1) (tail_byte b (n / 8) ∙ free_byte b (n / 8) (omega (arith, lt)))
    ∙ bit_of (take 8 (drop (8 * (n / 8)) b.free)) (n % 8)
    ∙ get_or-take 8 (drop (8 * (n / 8)) b.free) (n % 8) false (omega arith) ∙ get_or-drop (8 * (n / 8)) b.free (n % 8) false
    ∙ ap (λ (k : ℕ). get_or b.free k false) (omega arith)

free_is : (area : ℕ) (b : IndexBlock) → IsValid area b → free_of (spelling_of b) b.slots ≡ b.free
unfolding free_of
free_is area b ok = sym (fill_by_all (is_free (spelling_of b)) b.free b.slots false ok.listed (λ k lt. sym (freed b k (omega (arith, lt, ok.bits)))))

pub index_is : (area : ℕ) (b : IndexBlock) → IsValid area b → index_of b.side (spelling_of b) ≡ b
unfolding index_of
index_is area b ok =
    let slots = slots_at b (few_slots area b ok) in
    let free : free_of (spelling_of b) (number_at w32 (spelling_of b) 56) ≡ b.free = ap (free_of (spelling_of b)) slots ∙ free_is area b ok in
    let seq = numbered b ok.seq_high in
    let size = size_at b (small area b ok) in
    λ i. record { side = b.side; seq = seq i; size = size i; slots = slots i; free = free i }

-- a valid block's spelling is read as it
pub spelled : (area : ℕ) (b : IndexBlock) → IsValid area b → block_reading area b.size b.side (spelling_of b) ≡ Ok b
unfolding checked
spelled area b ok =
    let closed : eqb (sequence_of (spelling_of b)) 0 ≡ false = ne_eqb (sequence_of (spelling_of b)) 0 (λ e. omega (arith, numbered b ok.seq_high, ok.seq_low)) in
    rw (signed b, closed, versioned b, offsets b (small area b ok), slotted area b ok, summed b) (ap Ok (index_is area b ok))

pub length_spelling : (b : IndexBlock) → 256 ≤ b.size → length (spelling_of b) ≡ b.size
unfolding spelling_of
length_spelling b enough = omega (arith, length-map-range_with_len (λ k. number_of_bits (take 8 (drop (8 * k) b.free))) 0 (b.size - 72))

-- ---- its bytes are bytes

-- n bits are a number below 2 ^ n
pub bits_below : (n : ℕ) (bits : List Bool) → length bits ≤ n → number_of_bits bits < 2 ^ n
bits_below zero [] le = omega arith
bits_below zero (b ∷ bits) le = absurd (omega (arith, le))
bits_below (suc n) [] le = omega (arith, pow-succ' 2 n, bits_below n [] (omega arith))
bits_below (suc n) (true ∷ bits) le = omega (arith, pow-succ' 2 n, bits_below n bits (omega (arith, le)))
bits_below (suc n) (false ∷ bits) le = omega (arith, pow-succ' 2 n, bits_below n bits (omega (arith, le)))

map_bytes : (f : ℕ → ℕ) (a n : ℕ) → ((k : ℕ) → f k < 256) → AreBytes (map f (range_with_len a n))
map_bytes f a zero lt = no_bytes
map_bytes f a (suc n) lt = one_byte (f a) (map f (range_with_len (a + 1) n)) (lt a) (map_bytes f (a + 1) n lt)

tail_bytes : (b : IndexBlock) → AreBytes (tail_of b)
tail_bytes b = map_bytes (λ k. number_of_bits (take 8 (drop (8 * k) b.free))) 0 (b.size - 72)
    (λ k. bits_below 8 (take 8 (drop (8 * k) b.free)) (omega (arith, length-take 8 (drop (8 * k) b.free))))

head_bytes : (b : IndexBlock) → AreBytes (head_of b)
head_bytes b =
    both_bytes signature _ (few_bytes signature refl) (both_bytes (replicate 3 0) _ (zero_bytes 3)
    (one_byte 1 _ (omega arith) (both_bytes (to_le_bytes w32 b.seq) _ (four_bytes b.seq)
    (both_bytes (to_le_bytes w64 (place_of b.size b.side)) _ (eight_bytes (place_of b.size b.side))
    (both_bytes (to_le_bytes w64 b.size) _ (eight_bytes b.size)
    (both_bytes (to_le_bytes w64 (other_place_of b.size b.side)) _ (eight_bytes (other_place_of b.size b.side))
    (both_bytes (to_le_bytes w64 (2 * b.size)) _ (eight_bytes (2 * b.size))
    (both_bytes (to_le_bytes w32 b.slots) _ (four_bytes b.slots)
    (few_bytes (to_le_bytes w16 1 ++ to_le_bytes w16 2) refl)))))))))

pub bytes_spelling : (b : IndexBlock) → AreBytes (spelling_of b)
unfolding spelling_of
bytes_spelling b =
    both_bytes (head_of b) _ (head_bytes b)
    (both_bytes (to_le_bytes w64 (fletcher64_of (head_of b ++ (replicate 8 0 ++ tail_of b)))) (tail_of b) (eight_bytes (fletcher64_of (head_of b ++ (replicate 8 0 ++ tail_of b)))) (tail_bytes b))
