-- The bytes of words, word by word.
use Rattle.std.proofs.Common.{◌≡◌, ℕ, zero, suc, ◌+◌, ◌*◌, ◌/◌, ◌%◌, ◌<◌, ◌≤◌, List, [], ◌∷◌, length, take, drop, get_or, refl, sym, ap, ◌∙◌, arith}
use Rattle.std.specs.Int.{w64, to_le_bytes}
use Rattle.std.proofs.lemmas.List.{ext_get_or, length-take, length-drop, get_or-take, get_or-drop, get_or_past, length-append, get_or_append_left, get_or-append-add}
use Rattle.cut_words.specs.WordBytes.{bytes_of}

pub length_bytes : (words : List ℕ) → length (bytes_of words) ≡ 8 * length words
length_bytes [] = refl
length_bytes (w ∷ words) = length-append (to_le_bytes w64 w) (bytes_of words) ∙ omega (arith, length_bytes words)

zero_byte : (k : ℕ) → k < 8 → get_or (to_le_bytes w64 0) k 0 ≡ 0
zero_byte zero lt = refl
zero_byte (suc zero) lt = refl
zero_byte (suc (suc zero)) lt = refl
zero_byte (suc (suc (suc zero))) lt = refl
zero_byte (suc (suc (suc (suc zero)))) lt = refl
zero_byte (suc (suc (suc (suc (suc zero))))) lt = refl
zero_byte (suc (suc (suc (suc (suc (suc zero)))))) lt = refl
zero_byte (suc (suc (suc (suc (suc (suc (suc zero))))))) lt = refl
zero_byte (suc (suc (suc (suc (suc (suc (suc (suc k)))))))) lt = absurd (omega arith)

pub byte_at : (words : List ℕ) (i k : ℕ) → k < 8 → get_or (bytes_of words) (8 * i + k) 0 ≡ get_or (to_le_bytes w64 (get_or words i 0)) k 0
byte_at [] i k lt = get_or_past [] (8 * i + k) 0 (omega arith) ∙ sym (zero_byte k lt)
byte_at (w ∷ words) zero k lt = ap (λ (j : ℕ). get_or (bytes_of (w ∷ words)) j 0) (omega arith) ∙ get_or_append_left (to_le_bytes w64 w) (bytes_of words) 0 k lt
byte_at (w ∷ words) (suc i) k lt =
    ap (λ (j : ℕ). get_or (bytes_of (w ∷ words)) j 0) (omega arith) ∙ get_or-append-add (to_le_bytes w64 w) (bytes_of words) (8 * i + k) 0 ∙ byte_at words i k lt

-- two lists agree in a part
pub same_part : (xs ys : List ℕ) (at count : ℕ) → length xs ≡ length ys → ((j : ℕ) → at ≤ j → j < at + count → get_or xs j 0 ≡ get_or ys j 0)
    → take count (drop at xs) ≡ take count (drop at ys)
same_part xs ys at count len same =
    ext_get_or 0 (take count (drop at xs)) (take count (drop at ys)) (omega (arith, length-take {A = ℕ}, length-drop {A = ℕ}))
    (λ i lt. let low : i < count = omega (arith, length-take count (drop at xs)) in
    get_or-take count (drop at xs) i 0 low ∙ get_or-drop at xs i 0 ∙ same (at + i) (omega arith) (omega arith)
    ∙ sym (get_or-take count (drop at ys) i 0 low ∙ get_or-drop at ys i 0))

-- bytes agree where words do
pub same_bytes : (xs ys : List ℕ) (from count : ℕ) → length xs ≡ length ys → ((i : ℕ) → from ≤ i → i < from + count → get_or xs i 0 ≡ get_or ys i 0)
    → take (8 * count) (drop (8 * from) (bytes_of xs)) ≡ take (8 * count) (drop (8 * from) (bytes_of ys))
same_bytes xs ys from count len same =
    same_part (bytes_of xs) (bytes_of ys) (8 * from) (8 * count) (omega (arith, length_bytes xs, length_bytes ys))
    (λ j low high.
    let split : j ≡ 8 * (j / 8) + j % 8 = omega arith in
    let word : get_or xs (j / 8) 0 ≡ get_or ys (j / 8) 0 = same (j / 8) (omega arith) (omega arith) in
    ap (λ (k : ℕ). get_or (bytes_of xs) k 0) split ∙ byte_at xs (j / 8) (j % 8) (omega arith)
    ∙ ap (λ (w : ℕ). get_or (to_le_bytes w64 w) (j % 8) 0) word
    ∙ sym (ap (λ (k : ℕ). get_or (bytes_of ys) k 0) split ∙ byte_at ys (j / 8) (j % 8) (omega arith)))
