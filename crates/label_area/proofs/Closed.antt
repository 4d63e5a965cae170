-- A block whose word with Seq is closed isn't read.
use Rattle.std.proofs.Common.{◌≡◌, ℕ, zero, suc, ◌+◌, ◌*◌, ◌%◌, ◌^◌, ◌<◌, ◌≤◌, List, take, drop, get_or, ap, ◌∙◌, arith}
use Rattle.std.specs.Int.{w32, w64, to_le_bytes, from_le_bytes}
use Rattle.std.proofs.lemmas.List.{get_or-take, get_or-drop}
use Rattle.nvd_words.specs.Bytes.{number_at}
use Rattle.cut_words.specs.WordBytes.{bytes_of}
use Rattle.cut_words.proofs.Bytes.{byte_at}
use Rattle.label_index.specs.Index.{sequence_of}

-- a byte of a part
pub part_at : (xs : List ℕ) (at count j : ℕ) → j < count → get_or (take count (drop at xs)) j 0 ≡ get_or xs (at + j) 0
part_at xs at count j lt = get_or-take count (drop at xs) j 0 lt ∙ get_or-drop at xs j 0

number_of_four : (xs : List ℕ) → from_le_bytes w32 (take 4 xs) ≡ get_or xs 0 0 + 256 * get_or xs 1 0 + 65536 * get_or xs 2 0 + 16777216 * get_or xs 3 0
number_of_four xs = omega (arith, get_or-take 4 xs 0 0 (omega arith), get_or-take 4 xs 1 0 (omega arith), get_or-take 4 xs 2 0 (omega arith), get_or-take 4 xs 3 0 (omega arith))

high_byte : (v k : ℕ) → k < 4 → v < 2 ^ 32 → get_or (to_le_bytes w64 v) (4 + k) 0 ≡ 0
high_byte v zero lt low = omega arith
high_byte v (suc zero) lt low = omega arith
high_byte v (suc (suc zero)) lt low = omega arith
high_byte v (suc (suc (suc zero))) lt low = omega arith
high_byte v (suc (suc (suc (suc k)))) lt low = absurd (omega arith)

-- the word at offset 16 has a zero high half
pub closed_sequence : (words : List ℕ) (base count : ℕ) → 3 ≤ count → get_or words (base + 2) 0 < 2 ^ 32
    → sequence_of (take (8 * count) (drop (8 * base) (bytes_of words))) ≡ 0
unfolding sequence_of number_at
closed_sequence words base count enough low =
    let block : List ℕ = take (8 * count) (drop (8 * base) (bytes_of words)) in
    let byte : (k : ℕ) → k < 4 → get_or (drop 20 block) k 0 ≡ 0 =
    λ k lt. get_or-drop 20 block k 0 ∙ part_at (bytes_of words) (8 * base) (8 * count) (20 + k) (omega arith)
    ∙ ap (λ (j : ℕ). get_or (bytes_of words) j 0) (omega arith) ∙ byte_at words (base + 2) (4 + k) (omega arith) ∙ high_byte (get_or words (base + 2) 0) k lt low in
    ap (λ (n : ℕ). n % 4) (number_of_four (drop 20 block))
    ∙ omega (arith, byte 0 (omega arith), byte 1 (omega arith), byte 2 (omega arith), byte 3 (omega arith))
