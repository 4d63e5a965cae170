-- Only the canonical encoding encodes a record and is clean.
use Rattle.std.proofs.Common.{◌≡◌, ℕ, zero, suc, ◌+◌, ◌-◌, ◌*◌, ◌/◌, ◌%◌, ◌^◌, ◌<◌, ◌≤◌, Bool, true, false, eqb, List, [], ◌∷◌, ◌++◌, length, take, drop, get_or, replicate, refl, sym, ap, ◌∙◌, arith, inl, inr}
use Rattle.std.specs.Int.{w16, w32, w64, to_le_bytes}
use Rattle.std.proofs.lemmas.Bool.{eqb-true, eqb-false, cases_lt}
use Rattle.std.proofs.Math.Nat.{pow-succ'}
use Rattle.std.proofs.lemmas.List.{get_or-take, get_or-drop, get_or_past, length-take, length-drop}
use Rattle.std.proofs.lemmas.List.FromFn.{fill_by_all}
use Rattle.std.proofs.lemmas.Option.{get_or_from_slice_get}
use Rattle.nvd_words.specs.Bytes.{number_at, AreBytes}
use Rattle.nvd_words.specs.Fletcher.{fletcher64_of}
use Rattle.nvd_words.proofs.ByteLists.{next_part, next_byte, next_two, next_four, next_eight}
use Rattle.label_index.specs.declared.index.IndexBlock.{IndexBlock}
use Rattle.label_index.specs.declared.index.Side.{Side}
use Rattle.label_index.specs.Index.{place_of, other_place_of, signature, is_free}
use Rattle.label_index.specs.Grammar.{IsBlockOf}
use Rattle.label_index.specs.Laws.{IsClean, SpellingIsTheOne}
use Rattle.label_index.specs.Spelling.{number_of_bits, head_of, tail_of, spelling_of}
use Rattle.label_index.proofs.Spelled.{halved}

-- ---- a byte is the number of its bits

odd_if : (x : ℕ) → true ≡ eqb (x / 2 ^ 0 % 2) 1 → x % 2 ≡ 1
odd_if x e = omega (arith, eqb-true (x / 2 ^ 0 % 2) 1 (sym e))

even_if : (x : ℕ) → false ≡ eqb (x / 2 ^ 0 % 2) 1 → x % 2 ≡ 0
even_if x e = omega (arith, eqb-false (x / 2 ^ 0 % 2) 1 (sym e))

half_of : (x n : ℕ) → x < 2 ^ suc n → x / 2 < 2 ^ n
half_of x n lt = omega (arith, pow-succ' 2 n, lt)

half_bit : (bit : Bool) (x j : ℕ) → bit ≡ eqb (x / 2 ^ suc j % 2) 1 → bit ≡ eqb (x / 2 / 2 ^ j % 2) 1
half_bit bit x j e = e ∙ ap (λ (n : ℕ). eqb (n % 2) 1) (halved x (x / 2) j refl)

pub byte_is : (n : ℕ) (bits : List Bool) (x : ℕ) → length bits ≤ n → x < 2 ^ n → ((j : ℕ) → j < n → get_or bits j false ≡ eqb (x / 2 ^ j % 2) 1) → x ≡ number_of_bits bits
byte_is zero [] x le lt each = omega (arith, lt)
byte_is zero (b ∷ bits) x le lt each = absurd (omega (arith, le))
byte_is (suc n) [] x le lt each =
    omega (arith, even_if x (each zero (omega arith)), byte_is n [] (x / 2) (omega arith) (half_of x n lt) (λ j l. half_bit false x j (each (suc j) (omega (arith, l)))))
byte_is (suc n) (true ∷ bits) x le lt each =
    omega (arith, odd_if x (each zero (omega arith)), byte_is n bits (x / 2) (omega (arith, le)) (half_of x n lt) (λ j l. half_bit (get_or bits j false) x j (each (suc j) (omega (arith, l)))))
byte_is (suc n) (false ∷ bits) x le lt each =
    omega (arith, even_if x (each zero (omega arith)), byte_is n bits (x / 2) (omega (arith, le)) (half_of x n lt) (λ j l. half_bit (get_or bits j false) x j (each (suc j) (omega (arith, l)))))

-- ---- the bytes of Free

-- each bit of a clean block is the record's entry, false past its last
bit_is : (area size : ℕ) (s : Side) (block : List ℕ) (b : IndexBlock) (n : ℕ) → IsBlockOf area size s block b → IsClean size block → n < 8 * (size - 72)
    → get_or b.free n false ≡ is_free block n
bit_is area size s block b n ok clean lt =
    elim (cases_lt n (number_at w32 block 56)) [
      | inl within ↦ get_or_from_slice_get b.free n (is_free block n) false (ok.free n within)
      | inr past ↦ get_or_past b.free n false (omega (arith, past, ok.listed)) ∙ sym (clean.free n past lt)
    ]

-- the bit at eight times k plus j
bit_at : (block : List ℕ) (k j : ℕ) → j < 8 → is_free block (8 * k + j) ≡ eqb (get_or block (72 + k) 0 / 2 ^ j % 2) 1
bit_at block k j lt =
    let place : (8 * k + j) / 8 ≡ k = omega (arith, lt) in
    let bit : (8 * k + j) % 8 ≡ j = omega (arith, lt) in
    ap (λ (p : ℕ). eqb (get_or block (72 + p) 0 / 2 ^ ((8 * k + j) % 8) % 2) 1) place ∙ ap (λ (p : ℕ). eqb (get_or block (72 + k) 0 / 2 ^ p % 2) 1) bit

free_byte_is : (area size : ℕ) (s : Side) (block : List ℕ) (b : IndexBlock) (k : ℕ) → AreBytes block → IsBlockOf area size s block b → IsClean size block → k < size - 72
    → get_or (drop 72 block) k 0 ≡ number_of_bits (take 8 (drop (8 * k) b.free))
free_byte_is area size s block b k bytes ok clean lt =
    get_or-drop 72 block k 0
    ∙ byte_is 8 (take 8 (drop (8 * k) b.free)) (get_or block (72 + k) 0) (omega (arith, length-take 8 (drop (8 * k) b.free))) (bytes.each (72 + k))
    (λ j l. get_or-take 8 (drop (8 * k) b.free) j false l ∙ get_or-drop (8 * k) b.free j false
    ∙ bit_is area size s block b (8 * k + j) ok clean (omega (arith, l, lt)) ∙ bit_at block k j l)

tail_is : (area size : ℕ) (s : Side) (block : List ℕ) (b : IndexBlock) → AreBytes block → length block ≡ size → IsBlockOf area size s block b → IsClean size block
    → b.size ≡ size → drop 72 block ≡ tail_of b
tail_is area size s block b bytes len ok clean same =
    fill_by_all (λ k. number_of_bits (take 8 (drop (8 * k) b.free))) (drop 72 block) (b.size - 72) 0 (omega (arith, length-drop 72 block, len, same))
    (λ k lt. free_byte_is area size s block b k bytes ok clean (omega (arith, lt, same)))

-- ---- the bytes before the Checksum

head_is : (area size : ℕ) (s : Side) (block : List ℕ) (b : IndexBlock) → AreBytes block → length block ≡ size → IsBlockOf area size s block b → IsClean size block
    → b.size ≡ size → block ≡ head_of b ++ drop 64 block
head_is area size s block b bytes len ok clean same =
    let long : 72 ≤ length block = omega (arith, len, ok.bits) in
    let seq : number_at w32 block 20 ≡ b.seq = omega (arith, ok.same_seq, clean.seq) in
    let my : number_at w64 block 24 ≡ place_of b.size b.side = ok.my_offset ∙ ap (λ (k : ℕ). place_of k s) (sym same) ∙ ap (λ (t : Side). place_of b.size t) (sym ok.same_side) in
    let other : number_at w64 block 40 ≡ other_place_of b.size b.side = ok.other_offset ∙ ap (λ (k : ℕ). other_place_of k s) (sym same) ∙ ap (λ (t : Side). other_place_of b.size t) (sym ok.same_side) in
    let labels : number_at w64 block 48 ≡ 2 * b.size = ok.label_offset ∙ ap (λ (k : ℕ). 2 * k) (sym same) in
    next_part block signature 0 16 16 refl ok.signed
    ∙ ap (λ (r : List ℕ). signature ++ r) (next_part block (replicate 3 0) 16 3 19 refl clean.flags
    ∙ ap (λ (r : List ℕ). replicate 3 0 ++ r) (next_byte block 19 20 1 refl (omega (arith, long)) ok.label_size
    ∙ ap (λ (r : List ℕ). 1 ∷ r) (next_four block 20 24 b.seq bytes refl (omega (arith, long)) seq
    ∙ ap (λ (r : List ℕ). to_le_bytes w32 b.seq ++ r) (next_eight block 24 32 (place_of b.size b.side) bytes refl (omega (arith, long)) my
    ∙ ap (λ (r : List ℕ). to_le_bytes w64 (place_of b.size b.side) ++ r) (next_eight block 32 40 b.size bytes refl (omega (arith, long)) (sym ok.same_size)
    ∙ ap (λ (r : List ℕ). to_le_bytes w64 b.size ++ r) (next_eight block 40 48 (other_place_of b.size b.side) bytes refl (omega (arith, long)) other
    ∙ ap (λ (r : List ℕ). to_le_bytes w64 (other_place_of b.size b.side) ++ r) (next_eight block 48 56 (2 * b.size) bytes refl (omega (arith, long)) labels
    ∙ ap (λ (r : List ℕ). to_le_bytes w64 (2 * b.size) ++ r) (next_four block 56 60 b.slots bytes refl (omega (arith, long)) (sym ok.same_slots)
    ∙ ap (λ (r : List ℕ). to_le_bytes w32 b.slots ++ r) (next_two block 60 62 1 bytes refl (omega (arith, long)) ok.major
    ∙ ap (λ (r : List ℕ). to_le_bytes w16 1 ++ r) (next_two block 62 64 2 bytes refl (omega (arith, long)) ok.minor))))))))))

-- the first 64 bytes of a block that begins with a head
front_is : (b : IndexBlock) (block rest : List ℕ) → block ≡ head_of b ++ rest → take 64 block ≡ head_of b
front_is b block rest e = ap (take 64) e

pub one_spelling : SpellingIsTheOne
unfolding spelling_of
one_spelling area size s block b bytes len ok clean =
    let same : b.size ≡ size = ok.same_size ∙ ok.my_size in
    let long : 72 ≤ length block = omega (arith, len, ok.bits) in
    let head = head_is area size s block b bytes len ok clean same in
    let tail = tail_is area size s block b bytes len ok clean same in
    let front = front_is b block (drop 64 block) head in
    let sum : number_at w64 block 64 ≡ fletcher64_of (head_of b ++ (replicate 8 0 ++ tail_of b)) =
    ok.sum ∙ ap (λ (h : List ℕ). fletcher64_of (h ++ replicate 8 0 ++ drop 72 block)) front ∙ ap (λ (t : List ℕ). fletcher64_of (head_of b ++ replicate 8 0 ++ t)) tail in
    head ∙ ap (λ (r : List ℕ). head_of b ++ r) (next_eight block 64 72 (fletcher64_of (head_of b ++ (replicate 8 0 ++ tail_of b))) bytes refl long sum
    ∙ ap (λ (r : List ℕ). to_le_bytes w64 (fletcher64_of (head_of b ++ (replicate 8 0 ++ tail_of b))) ++ r) tail)
