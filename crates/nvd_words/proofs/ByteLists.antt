-- Lists of bytes, and the numbers in them.
use Rattle.std.proofs.Common.{◌≡◌, ℕ, zero, suc, ◌+◌, ◌^◌, ◌<◌, ◌≤◌, Bool, true, ltb, List, [], ◌∷◌, ◌++◌, length, take, drop, get_or, replicate, sym, ap, ◌∙◌, arith}
use Rattle.std.specs.Prelude.{◌&&◌}
use Rattle.std.specs.Int.{w16, w32, w64, to_le_bytes}
use Rattle.std.proofs.lemmas.Bool.{and_parts, ltb-true}
use Rattle.std.proofs.lemmas.Nat.{le_bytes_2, le_bytes_4, le_bytes_8}
use Rattle.std.proofs.lemmas.List.{get_or-drop, length-take, length-drop, take-append-drop, drop-drop}
use Rattle.nvd_words.specs.Bytes.{number_at, AreBytes}

-- ---- which lists are bytes

pub no_bytes : AreBytes []
no_bytes = record { each = λ i. omega arith }

pub one_byte : (x : ℕ) (xs : List ℕ) → x < 256 → AreBytes xs → AreBytes (x ∷ xs)
one_byte x xs lt rest = record { each = at x xs lt rest }
  where
    at : (x : ℕ) (xs : List ℕ) → x < 256 → AreBytes xs → (i : ℕ) → get_or (x ∷ xs) i 0 < 256
    at x xs lt rest zero = lt
    at x xs lt rest (suc i) = rest.each i

tail_bytes : (x : ℕ) (xs : List ℕ) → AreBytes (x ∷ xs) → AreBytes xs
tail_bytes x xs all = record { each = λ i. all.each (suc i) }

pub both_bytes : (xs ys : List ℕ) → AreBytes xs → AreBytes ys → AreBytes (xs ++ ys)
both_bytes [] ys bx by' = by'
both_bytes (x ∷ xs) ys bx by' = one_byte x (xs ++ ys) (bx.each zero) (both_bytes xs ys (tail_bytes x xs bx) by')

pub zero_bytes : (n : ℕ) → AreBytes (replicate n 0)
zero_bytes zero = no_bytes
zero_bytes (suc n) = one_byte 0 (replicate n 0) (omega arith) (zero_bytes n)

pub drop_bytes : (n : ℕ) (xs : List ℕ) → AreBytes xs → AreBytes (drop n xs)
drop_bytes n xs all = record { each = λ i. omega (arith, get_or-drop n xs i 0, all.each (n + i)) }

pub take_bytes : (n : ℕ) (xs : List ℕ) → AreBytes xs → AreBytes (take n xs)
take_bytes zero xs all = no_bytes
take_bytes (suc n) [] all = no_bytes
take_bytes (suc n) (x ∷ xs) all = one_byte x (take n xs) (all.each zero) (take_bytes n xs (tail_bytes x xs all))

-- decides by computing whether each number is a byte
abbrev pub are_bytes : List ℕ → Bool
are_bytes [] = true
are_bytes (x ∷ xs) = ltb x 256 && are_bytes xs

pub few_bytes : (xs : List ℕ) → are_bytes xs ≡ true → AreBytes xs
few_bytes [] ok = no_bytes
few_bytes (x ∷ xs) ok = let p = and_parts (ltb x 256) (are_bytes xs) ok in one_byte x xs (ltb-true x 256 p.0) (few_bytes xs p.1)

pub eight_bytes : (n : ℕ) → AreBytes (to_le_bytes w64 n)
eight_bytes n = one_byte _ _ (omega arith) (one_byte _ _ (omega arith) (one_byte _ _ (omega arith) (one_byte _ _ (omega arith)
    (one_byte _ _ (omega arith) (one_byte _ _ (omega arith) (one_byte _ _ (omega arith) (one_byte _ _ (omega arith) no_bytes)))))))

pub four_bytes : (n : ℕ) → AreBytes (to_le_bytes w32 n)
four_bytes n = one_byte _ _ (omega arith) (one_byte _ _ (omega arith) (one_byte _ _ (omega arith) (one_byte _ _ (omega arith) no_bytes)))

pub two_bytes : (n : ℕ) → AreBytes (to_le_bytes w16 n)
two_bytes n = one_byte _ _ (omega arith) (one_byte _ _ (omega arith) no_bytes)

-- ---- a list is its parts

-- the rest of a list from an offset is its next part and what follows
pub next_part : (xs part : List ℕ) (at n to : ℕ) → at + n ≡ to → take n (drop at xs) ≡ part → drop at xs ≡ part ++ drop to xs
next_part xs part at n to e is =
    sym (take-append-drop n (drop at xs)) ∙ ap (λ (p : List ℕ). p ++ drop n (drop at xs)) is ∙ ap (λ (rest : List ℕ). part ++ rest) (drop-drop n at xs ∙ ap (λ (k : ℕ). drop k xs) e)

part_length : (xs : List ℕ) (at n : ℕ) → at + n ≤ length xs → length (take n (drop at xs)) ≡ n
part_length xs at n within = length-take n (drop at xs) ∙ omega (arith, length-drop at xs)

pub next_eight : (xs : List ℕ) (at to n : ℕ) → AreBytes xs → at + 8 ≡ to → to ≤ length xs → number_at w64 xs at ≡ n → drop at xs ≡ to_le_bytes w64 n ++ drop to xs
unfolding number_at
next_eight xs at to n all e within is =
    next_part xs (to_le_bytes w64 n) at 8 to e
    (sym (le_bytes_8 (take 8 (drop at xs)) n (part_length xs at 8 (omega arith)) (take_bytes 8 (drop at xs) (drop_bytes at xs all)).each (sym is)))

pub next_four : (xs : List ℕ) (at to n : ℕ) → AreBytes xs → at + 4 ≡ to → to ≤ length xs → number_at w32 xs at ≡ n → drop at xs ≡ to_le_bytes w32 n ++ drop to xs
unfolding number_at
next_four xs at to n all e within is =
    next_part xs (to_le_bytes w32 n) at 4 to e
    (sym (le_bytes_4 (take 4 (drop at xs)) n (part_length xs at 4 (omega arith)) (take_bytes 4 (drop at xs) (drop_bytes at xs all)).each (sym is)))

pub next_two : (xs : List ℕ) (at to n : ℕ) → AreBytes xs → at + 2 ≡ to → to ≤ length xs → number_at w16 xs at ≡ n → drop at xs ≡ to_le_bytes w16 n ++ drop to xs
unfolding number_at
next_two xs at to n all e within is =
    next_part xs (to_le_bytes w16 n) at 2 to e
    (sym (le_bytes_2 (take 2 (drop at xs)) n (part_length xs at 2 (omega arith)) (take_bytes 2 (drop at xs) (drop_bytes at xs all)).each (sym is)))

-- the same for one byte
pub next_byte : (xs : List ℕ) (at to x : ℕ) → at + 1 ≡ to → to ≤ length xs → get_or xs at 0 ≡ x → drop at xs ≡ x ∷ drop to xs
next_byte [] at to x e within is = absurd (omega arith)
next_byte (y ∷ xs) zero to x e within is = ap (λ (k : ℕ). k ∷ xs) is ∙ ap (λ (k : ℕ). x ∷ drop k (y ∷ xs)) e
next_byte (y ∷ xs) (suc at) zero x e within is = absurd (omega arith)
next_byte (y ∷ xs) (suc at) (suc to) x e within is = next_byte xs at to x (omega arith) (omega arith) is

-- ---- a number in bytes fits its width

pub two_below : (xs : List ℕ) (at : ℕ) → AreBytes xs → number_at w16 xs at < 2 ^ 16
unfolding number_at
two_below xs at all = let part = take_bytes 2 (drop at xs) (drop_bytes at xs all) in omega (arith, part.each 0, part.each 1)

pub four_below : (xs : List ℕ) (at : ℕ) → AreBytes xs → number_at w32 xs at < 2 ^ 32
unfolding number_at
four_below xs at all = let part = take_bytes 4 (drop at xs) (drop_bytes at xs all) in omega (arith, part.each 0, part.each 1, part.each 2, part.each 3)

pub eight_below : (xs : List ℕ) (at : ℕ) → AreBytes xs → number_at w64 xs at < 2 ^ 64
unfolding number_at
eight_below xs at all =
    let part = take_bytes 8 (drop at xs) (drop_bytes at xs all) in
    omega (arith, part.each 0, part.each 1, part.each 2, part.each 3, part.each 4, part.each 5, part.each 6, part.each 7)
