-- The words of bytes, one by one.
use Rattle.std.proofs.Common.{◌≡◌, ℕ, zero, suc, ◌*◌, ◌<◌, List, [], ◌∷◌, length, take, drop, get_or, refl, sym, ap, ◌∙◌, arith}
use Rattle.std.specs.Int.{w64, from_le_bytes}
use Rattle.std.proofs.lemmas.List.FromFn.{fill_by_all}
use Rattle.nvd_words.specs.Bytes.{number_at}
use Rattle.cut_words.specs.WordBytes.{words_in}

eight_more : (k : ℕ) → 8 * suc k ≡ suc (suc (suc (suc (suc (suc (suc (suc (8 * k))))))))
eight_more k = omega arith

-- the number eight bytes further on
further : (a b c d e f g h : ℕ) (bytes : List ℕ) (k : ℕ) → number_at w64 (a ∷ b ∷ c ∷ d ∷ e ∷ f ∷ g ∷ h ∷ bytes) (8 * suc k) ≡ number_at w64 bytes (8 * k)
unfolding number_at
further a b c d e f g h bytes k = ap (λ (at : ℕ). from_le_bytes w64 (take 8 (drop at (a ∷ b ∷ c ∷ d ∷ e ∷ f ∷ g ∷ h ∷ bytes)))) (eight_more k)

pub word_is : (bytes : List ℕ) (n k : ℕ) → length bytes ≡ 8 * n → k < n → get_or (words_in bytes) k 0 ≡ number_at w64 bytes (8 * k)
unfolding number_at
word_is [] n k len lt = absurd (omega arith)
word_is (a ∷ []) n k len lt = absurd (omega arith)
word_is (a ∷ b ∷ []) n k len lt = absurd (omega arith)
word_is (a ∷ b ∷ c ∷ []) n k len lt = absurd (omega arith)
word_is (a ∷ b ∷ c ∷ d ∷ []) n k len lt = absurd (omega arith)
word_is (a ∷ b ∷ c ∷ d ∷ e ∷ []) n k len lt = absurd (omega arith)
word_is (a ∷ b ∷ c ∷ d ∷ e ∷ f ∷ []) n k len lt = absurd (omega arith)
word_is (a ∷ b ∷ c ∷ d ∷ e ∷ f ∷ g ∷ []) n k len lt = absurd (omega arith)
word_is (a ∷ b ∷ c ∷ d ∷ e ∷ f ∷ g ∷ h ∷ bytes) zero k len lt = absurd (omega arith)
word_is (a ∷ b ∷ c ∷ d ∷ e ∷ f ∷ g ∷ h ∷ bytes) (suc n) zero len lt = refl
word_is (a ∷ b ∷ c ∷ d ∷ e ∷ f ∷ g ∷ h ∷ bytes) (suc n) (suc k) len lt = word_is bytes n k (omega arith) (omega arith) ∙ sym (further a b c d e f g h bytes k)

pub count_is : (bytes : List ℕ) (n : ℕ) → length bytes ≡ 8 * n → length (words_in bytes) ≡ n
count_is [] n len = omega arith
count_is (a ∷ []) n len = absurd (omega arith)
count_is (a ∷ b ∷ []) n len = absurd (omega arith)
count_is (a ∷ b ∷ c ∷ []) n len = absurd (omega arith)
count_is (a ∷ b ∷ c ∷ d ∷ []) n len = absurd (omega arith)
count_is (a ∷ b ∷ c ∷ d ∷ e ∷ []) n len = absurd (omega arith)
count_is (a ∷ b ∷ c ∷ d ∷ e ∷ f ∷ []) n len = absurd (omega arith)
count_is (a ∷ b ∷ c ∷ d ∷ e ∷ f ∷ g ∷ []) n len = absurd (omega arith)
count_is (a ∷ b ∷ c ∷ d ∷ e ∷ f ∷ g ∷ h ∷ bytes) zero len = absurd (omega arith)
count_is (a ∷ b ∷ c ∷ d ∷ e ∷ f ∷ g ∷ h ∷ bytes) (suc n) len = ap suc (count_is bytes n (omega arith))

-- words each of which is that of the bytes
pub filled : (words bytes : List ℕ) → length bytes ≡ 8 * length words → ((k : ℕ) → k < length words → get_or words k 0 ≡ number_at w64 bytes (8 * k)) → words ≡ words_in bytes
filled words bytes len each =
    let count : ℕ = length words in
    let read : ℕ → ℕ = λ k. number_at w64 bytes (8 * k) in
    fill_by_all (λ k. number_at w64 bytes (8 * k)) words (length words) 0 refl each
    ∙ sym (fill_by_all (λ k. number_at w64 bytes (8 * k)) (words_in bytes) (length words) 0 (count_is bytes (length words) len) (λ k lt. word_is bytes (length words) k len lt))
