-- Bytes that are put into words.
use Rattle.std.proofs.Common.{◌≡◌, ◌⊎◌, ℕ, zero, suc, ◌+◌, ◌-◌, ◌*◌, ◌%◌, ◌<◌, ◌≤◌, List, [], ◌∷◌, ◌++◌, length, take, drop, get_or, refl, sym, ap, ◌∙◌, arith, inl, inr, append_assoc}
use Rattle.std.specs.Int.{w64, to_le_bytes, from_le_bytes}
use Rattle.std.proofs.lemmas.Nat.{le_bytes_8}
use Rattle.std.proofs.lemmas.List.{length-append, length-take-le, length-drop, get_or_append_left, get_or-append_right, get_or-take, get_or-drop, take_at, drop_at}
use Rattle.nvd_words.specs.Bytes.{AreBytes}
use Rattle.cut_words.specs.WordBytes.{bytes_of, words_in, put_at}
use Rattle.cut_words.proofs.Bytes.{length_bytes}

first_eight : (a b c d e f g h : ℕ) (bytes : List ℕ) → AreBytes (a ∷ b ∷ c ∷ d ∷ e ∷ f ∷ g ∷ h ∷ bytes)
    → (i : ℕ) → get_or (a ∷ b ∷ c ∷ d ∷ e ∷ f ∷ g ∷ h ∷ []) i 0 < 256
first_eight a b c d e f g h bytes small zero = small.each 0
first_eight a b c d e f g h bytes small (suc zero) = small.each 1
first_eight a b c d e f g h bytes small (suc (suc zero)) = small.each 2
first_eight a b c d e f g h bytes small (suc (suc (suc zero))) = small.each 3
first_eight a b c d e f g h bytes small (suc (suc (suc (suc zero)))) = small.each 4
first_eight a b c d e f g h bytes small (suc (suc (suc (suc (suc zero))))) = small.each 5
first_eight a b c d e f g h bytes small (suc (suc (suc (suc (suc (suc zero)))))) = small.each 6
first_eight a b c d e f g h bytes small (suc (suc (suc (suc (suc (suc (suc zero))))))) = small.each 7
first_eight a b c d e f g h bytes small (suc (suc (suc (suc (suc (suc (suc (suc k)))))))) = omega arith

pub bytes_of-words_in : (bytes : List ℕ) → length bytes % 8 ≡ 0 → AreBytes bytes → bytes_of (words_in bytes) ≡ bytes
bytes_of-words_in [] whole small = refl
bytes_of-words_in (a ∷ []) whole small = absurd (omega arith)
bytes_of-words_in (a ∷ b ∷ []) whole small = absurd (omega arith)
bytes_of-words_in (a ∷ b ∷ c ∷ []) whole small = absurd (omega arith)
bytes_of-words_in (a ∷ b ∷ c ∷ d ∷ []) whole small = absurd (omega arith)
bytes_of-words_in (a ∷ b ∷ c ∷ d ∷ e ∷ []) whole small = absurd (omega arith)
bytes_of-words_in (a ∷ b ∷ c ∷ d ∷ e ∷ f ∷ []) whole small = absurd (omega arith)
bytes_of-words_in (a ∷ b ∷ c ∷ d ∷ e ∷ f ∷ g ∷ []) whole small = absurd (omega arith)
bytes_of-words_in (a ∷ b ∷ c ∷ d ∷ e ∷ f ∷ g ∷ h ∷ bytes) whole small =
    ap (λ (front : List ℕ). front ++ bytes_of (words_in bytes))
    (le_bytes_8 (a ∷ b ∷ c ∷ d ∷ e ∷ f ∷ g ∷ h ∷ []) (from_le_bytes w64 (a ∷ b ∷ c ∷ d ∷ e ∷ f ∷ g ∷ h ∷ [])) refl
    (first_eight a b c d e f g h bytes small) refl)
    ∙ ap (λ (rest : List ℕ). a ∷ b ∷ c ∷ d ∷ e ∷ f ∷ g ∷ h ∷ rest) (bytes_of-words_in bytes (omega arith) (record { each = λ i. small.each (suc (suc (suc (suc (suc (suc (suc (suc i)))))))) }))

pub length_words : (bytes : List ℕ) → length bytes % 8 ≡ 0 → AreBytes bytes → 8 * length (words_in bytes) ≡ length bytes
length_words bytes whole small = sym (length_bytes (words_in bytes)) ∙ ap length (bytes_of-words_in bytes whole small)

pub bytes_of-append : (xs ys : List ℕ) → bytes_of (xs ++ ys) ≡ bytes_of xs ++ bytes_of ys
bytes_of-append [] ys = refl
bytes_of-append (x ∷ xs) ys = ap (λ (rest : List ℕ). to_le_bytes w64 x ++ rest) (bytes_of-append xs ys) ∙ sym (append_assoc (to_le_bytes w64 x) (bytes_of xs) (bytes_of ys))

pub length_put : (words : List ℕ) (at : ℕ) (others : List ℕ) → at + length others ≤ length words → length (put_at words at others) ≡ length words
length_put words at others fits =
    length-append (take at words) (others ++ drop (at + length others) words)
    ∙ omega (arith, length-append others (drop (at + length others) words), length-take-le at words (omega arith), length-drop (at + length others) words)

pub put_outside : (words : List ℕ) (at : ℕ) (others : List ℕ) (i : ℕ) → at + length others ≤ length words → (i < at) ⊎ (at + length others ≤ i)
    → get_or (put_at words at others) i 0 ≡ get_or words i 0
put_outside words at others i fits out =
    let front : length (take at words) ≡ at = length-take-le at words (omega arith) in
    elim out [
      | inl below ↦ get_or_append_left (take at words) (others ++ drop (at + length others) words) 0 i (omega arith) ∙ get_or-take at words i 0 below
      | inr above ↦ get_or-append_right (take at words) (others ++ drop (at + length others) words) at i 0 front (omega arith)
          ∙ get_or-append_right others (drop (at + length others) words) (length others) (i - at) 0 refl (omega arith)
          ∙ get_or-drop (at + length others) words (i - at - length others) 0 ∙ ap (λ (k : ℕ). get_or words k 0) (omega arith)
    ]

-- the bytes after the write
pub put_bytes : (words : List ℕ) (at : ℕ) (bytes : List ℕ) (count : ℕ) → at + count ≤ length words → length bytes ≡ 8 * count → AreBytes bytes
    → take (8 * count) (drop (8 * at) (bytes_of (put_at words at (words_in bytes)))) ≡ bytes
put_bytes words at bytes count fits len small =
    let others : List ℕ = words_in bytes in
    let back : bytes_of (words_in bytes) ≡ bytes = bytes_of-words_in bytes (omega arith) small in
    let rest : List ℕ = bytes_of (drop (at + length (words_in bytes)) words) in
    let whole : bytes_of (put_at words at (words_in bytes)) ≡ bytes_of (take at words) ++ (bytes ++ bytes_of (drop (at + length (words_in bytes)) words)) =
    bytes_of-append (take at words) (words_in bytes ++ drop (at + length (words_in bytes)) words)
    ∙ ap (λ (r : List ℕ). bytes_of (take at words) ++ r) (bytes_of-append (words_in bytes) (drop (at + length (words_in bytes)) words)
    ∙ ap (λ (r : List ℕ). r ++ bytes_of (drop (at + length (words_in bytes)) words)) back) in
    ap (λ (all : List ℕ). take (8 * count) (drop (8 * at) all)) whole
    ∙ ap (take (8 * count)) (drop_at (bytes_of (take at words)) (bytes ++ bytes_of (drop (at + length (words_in bytes)) words)) (8 * at)
    (length_bytes (take at words) ∙ ap (λ (k : ℕ). 8 * k) (length-take-le at words (omega arith))))
    ∙ take_at bytes (bytes_of (drop (at + length (words_in bytes)) words)) (8 * count) len
