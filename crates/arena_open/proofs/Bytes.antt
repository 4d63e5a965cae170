-- Words and their bytes, one by one.
use Rattle.std.proofs.Common.{◌≡◌, ℕ, zero, suc, ◌+◌, ◌*◌, ◌/◌, ◌%◌, ◌^◌, ◌<◌, List, [], ◌∷◌, length, take, drop, get_or, refl, sym, ap, ◌∙◌, arith}
use Rattle.std.specs.Int.{w64, from_le_bytes}
use Rattle.nvd_words.specs.Bytes.{number_at}
use Rattle.cut_words.specs.WordBytes.{words_in}

pub length_words : (bytes : List ℕ) → length (words_in bytes) ≡ length bytes / 8
length_words [] = refl
length_words (a ∷ []) = omega arith
length_words (a ∷ b ∷ []) = omega arith
length_words (a ∷ b ∷ c ∷ []) = omega arith
length_words (a ∷ b ∷ c ∷ d ∷ []) = omega arith
length_words (a ∷ b ∷ c ∷ d ∷ e ∷ []) = omega arith
length_words (a ∷ b ∷ c ∷ d ∷ e ∷ f ∷ []) = omega arith
length_words (a ∷ b ∷ c ∷ d ∷ e ∷ f ∷ g ∷ []) = omega arith
length_words (a ∷ b ∷ c ∷ d ∷ e ∷ f ∷ g ∷ h ∷ bytes) = omega (arith, length_words bytes)

eight_more : (k : ℕ) → 8 * suc k ≡ suc (suc (suc (suc (suc (suc (suc (suc (8 * k))))))))
eight_more k = omega arith

further : (a b c d e f g h : ℕ) (bytes : List ℕ) (k : ℕ) → number_at w64 (a ∷ b ∷ c ∷ d ∷ e ∷ f ∷ g ∷ h ∷ bytes) (8 * suc k) ≡ number_at w64 bytes (8 * k)
unfolding number_at
further a b c d e f g h bytes k = ap (λ (at : ℕ). from_le_bytes w64 (take 8 (drop at (a ∷ b ∷ c ∷ d ∷ e ∷ f ∷ g ∷ h ∷ bytes)))) (eight_more k)

-- a word of bytes is the number at its offset
pub word_index : (bytes : List ℕ) (k : ℕ) → k < length (words_in bytes) → get_or (words_in bytes) k 0 ≡ number_at w64 bytes (8 * k)
unfolding number_at
word_index [] k lt = absurd (omega arith)
word_index (a ∷ []) k lt = absurd (omega arith)
word_index (a ∷ b ∷ []) k lt = absurd (omega arith)
word_index (a ∷ b ∷ c ∷ []) k lt = absurd (omega arith)
word_index (a ∷ b ∷ c ∷ d ∷ []) k lt = absurd (omega arith)
word_index (a ∷ b ∷ c ∷ d ∷ e ∷ []) k lt = absurd (omega arith)
word_index (a ∷ b ∷ c ∷ d ∷ e ∷ f ∷ []) k lt = absurd (omega arith)
word_index (a ∷ b ∷ c ∷ d ∷ e ∷ f ∷ g ∷ []) k lt = absurd (omega arith)
word_index (a ∷ b ∷ c ∷ d ∷ e ∷ f ∷ g ∷ h ∷ bytes) zero lt = refl
word_index (a ∷ b ∷ c ∷ d ∷ e ∷ f ∷ g ∷ h ∷ bytes) (suc k) lt = word_index bytes k (omega arith) ∙ sym (further a b c d e f g h bytes k)

-- two halves make a word
pub packed : (a b : ℕ) → b < 2 ^ 32 → a + b * 4294967296 % 18446744073709551616 ≡ a + 2 ^ 32 * b
packed a b lt = omega arith
