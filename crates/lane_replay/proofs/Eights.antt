-- Bytes as words, eight at a time.
use Rattle.std.proofs.Common.{◌≡◌, ℕ, ◌≤◌, List, [], ◌∷◌, ◌++◌, append_assoc, length, take, drop, refl, sym, ap, ◌∙◌, arith}
use Rattle.std.specs.Int.{w64, from_le_bytes}
use Rattle.cut_words.specs.WordBytes.{words_in}

first_word : (rest : List ℕ) → 8 ≤ length rest → words_in rest ≡ from_le_bytes w64 (take 8 rest) ∷ words_in (drop 8 rest)
first_word (a ∷ b ∷ c ∷ d ∷ e ∷ f ∷ g ∷ h ∷ bytes) le = refl
first_word _ le = absurd (omega arith)

-- one word more
pub word_on : (words new all rest first others : List ℕ) (word : ℕ) → 8 ≤ length rest → first ≡ take 8 rest → others ≡ drop 8 rest → word ≡ from_le_bytes w64 first → new ≡ words ++ word ∷ []
    → words ++ words_in rest ≡ all → new ++ words_in others ≡ all
word_on words new all rest first others word le first_is others_is value pushed so_far =
    ap (λ ws. ws ++ words_in others) pushed ∙ append_assoc words (word ∷ []) (words_in others)
    ∙ ap (λ w. words ++ w ∷ words_in others) (value ∙ ap (from_le_bytes w64) first_is) ∙ ap (λ bytes. words ++ from_le_bytes w64 (take 8 rest) ∷ words_in bytes) others_is
    ∙ ap (λ ws. words ++ ws) (sym (first_word rest le)) ∙ so_far
