-- Appending bytes as words, eight at a time, piece by piece.
use Rattle.std.proofs.Common.{◌≡◌, ℕ, ◌+◌, ◌*◌, List, [], ◌∷◌, ◌++◌, length, take, drop, refl, sym, ap, ◌∙◌, arith, append_assoc}
use Rattle.std.specs.Int.{w64, to_le_bytes, from_le_bytes}
use Rattle.std.proofs.Math.Seq.{take-add}
use Rattle.std.proofs.lemmas.Nat.{le_bytes_8}
use Rattle.std.proofs.lemmas.List.{append-nil, length-append}
use Rattle.nvd_words.specs.Bytes.{AreBytes}
use Rattle.cut_words.specs.WordBytes.{bytes_of}
use Rattle.cut_words.proofs.Bytes.{length_bytes}
use Rattle.cut_words.proofs.Put.{bytes_of-append}

-- one more word, from the rest
pub word_more : (words old piece eight more rest : List ℕ) → AreBytes eight → length eight ≡ 8 → rest ≡ eight ++ more → bytes_of words ++ rest ≡ bytes_of old ++ piece
    → bytes_of (words ++ from_le_bytes w64 eight ∷ []) ++ more ≡ bytes_of old ++ piece
word_more words old piece eight more rest small long is so_far =
    ap (λ (front : List ℕ). front ++ more) (bytes_of-append words (from_le_bytes w64 eight ∷ [])
    ∙ ap (λ (back : List ℕ). bytes_of words ++ back) (append-nil (to_le_bytes w64 (from_le_bytes w64 eight)) ∙ le_bytes_8 eight (from_le_bytes w64 eight) long small.each refl))
    ∙ append_assoc (bytes_of words) eight more
    ∙ ap (λ (back : List ℕ). bytes_of words ++ back) (sym is)
    ∙ so_far

-- another piece
pub piece_more : (words new piece all : List ℕ) (at count : ℕ) → bytes_of new ≡ bytes_of words ++ piece → piece ≡ take count (drop at all) → bytes_of words ≡ take at all
    → bytes_of new ≡ take (at + count) all
piece_more words new piece all at count added is so_far =
    added ∙ ap (λ (front : List ℕ). front ++ piece) so_far ∙ ap (λ (back : List ℕ). take at all ++ back) is ∙ sym (take-add at count all)

pub count_more : (words new piece : List ℕ) → bytes_of new ≡ bytes_of words ++ piece → 8 * length new ≡ 8 * length words + length piece
count_more words new piece added = sym (length_bytes new) ∙ ap length added ∙ length-append (bytes_of words) piece ∙ omega (arith, length_bytes words)
