-- Whether all bytes of words are the same, told by whole words.
use Rattle.std.proofs.Common.{◌≡◌, ◌≢◌, ℕ, zero, suc, ◌<◌, ◌^◌, Bool, true, false, List, [], ◌∷◌, get_or, replicate, length, refl, sym, ap, ◌∙◌, inl, inr, arith, true≢false}
use Rattle.std.specs.Prelude.{◌==◌, ◌&&◌}
use Rattle.std.specs.List.{list_all}
use Rattle.std.specs.Int.{w64, to_le_bytes, from_le_bytes}
use Rattle.std.proofs.lemmas.Bool.{cases_Bool, eq-eqb, eqb-true}
use Rattle.std.proofs.lemmas.List.Folds.{list_all-append}
use Rattle.std.proofs.lemmas.Nat.{le_bytes_8, from_le_bytes-to_le_bytes_8}
use Rattle.cut_words.specs.WordBytes.{bytes_of}
use Rattle.session_script.specs.Texts.{is_fill}

-- whether each byte of a word is this one
abbrev pub fills : ℕ → ℕ → Bool
fills b w = is_fill b (to_le_bytes w64 w)

-- words are told one by one
pub fill_words : (b : ℕ) (words : List ℕ) → is_fill b (bytes_of words) ≡ list_all (fills b) words
fill_words b [] = refl
fill_words b (w ∷ words) = list_all-append (λ c. c == b) (to_le_bytes w64 w) (bytes_of words) ∙ ap (λ (rest : Bool). fills b w && rest) (fill_words b words)

-- the word of which each byte is this one
abbrev pub eight : ℕ → List ℕ
eight b = b ∷ b ∷ b ∷ b ∷ b ∷ b ∷ b ∷ b ∷ []

abbrev pub full_of : ℕ → ℕ
full_of b = from_le_bytes w64 (eight b)

small_eight : (b : ℕ) → b < 256 → (i : ℕ) → get_or (eight b) i 0 < 256
small_eight b lt zero = lt
small_eight b lt (suc zero) = lt
small_eight b lt (suc (suc zero)) = lt
small_eight b lt (suc (suc (suc zero))) = lt
small_eight b lt (suc (suc (suc (suc zero)))) = lt
small_eight b lt (suc (suc (suc (suc (suc zero))))) = lt
small_eight b lt (suc (suc (suc (suc (suc (suc zero)))))) = lt
small_eight b lt (suc (suc (suc (suc (suc (suc (suc zero))))))) = lt
small_eight b lt (suc (suc (suc (suc (suc (suc (suc (suc i)))))))) = omega arith

fill_replicate : (b n : ℕ) → is_fill b (replicate n b) ≡ true
fill_replicate b zero = refl
fill_replicate b (suc n) = ap (λ (x : Bool). x && is_fill b (replicate n b)) (eq-eqb b b refl) ∙ fill_replicate b n

both : (x y : Bool) → (x && y) ≡ true → (x ≡ true) × (y ≡ true)
both true y e = (refl, e)
both false y e = absurd (true≢false (sym e))

filled : (b : ℕ) (bytes : List ℕ) → is_fill b bytes ≡ true → bytes ≡ replicate (length bytes) b
filled b [] e = refl
filled b (c ∷ bytes) e =
    let two = both (c == b) (is_fill b bytes) e in
    ap (λ (x : ℕ). x ∷ bytes) (eqb-true c b two.0) ∙ ap (λ (xs : List ℕ). b ∷ xs) (filled b bytes two.1)

pub same_fills : (b w : ℕ) → b < 256 → w ≡ full_of b → fills b w ≡ true
same_fills b w lt is = ap (λ (bytes : List ℕ). is_fill b bytes) (le_bytes_8 (eight b) w refl (small_eight b lt) is) ∙ fill_replicate b 8

pub others_fill : (b w : ℕ) → w < 2 ^ 64 → w ≢ full_of b → fills b w ≡ false
others_fill b w lt ne =
    elim (cases_Bool (fills b w)) [
      | inl is ↦ absurd (ne (sym (from_le_bytes-to_le_bytes_8 w lt) ∙ ap (λ (bytes : List ℕ). from_le_bytes w64 bytes) (filled b (to_le_bytes w64 w) is)))
      | inr other ↦ other
    ]
