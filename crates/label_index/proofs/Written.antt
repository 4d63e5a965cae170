-- The bytes of an index block after the writes.
use Rattle.std.proofs.Common.{◌≡◌, ℕ, ◌-◌, ◌≤◌, List, [], ◌++◌, length, take, drop, replicate, sym, ap, ◌∙◌, arith, append_assoc}
use Rattle.std.specs.Int.{w64, to_le_bytes}
use Rattle.std.proofs.lemmas.List.{take_at, drop_at, drop-drop, append-nil, length-append, length-take, length-drop, take-append-drop}
use borrow.Rule.Slice.PartMut.{put_mid}
use Rattle.nvd_words.specs.Fletcher.{fletcher64_of}
use Rattle.label_index.specs.declared.index.IndexBlock.{IndexBlock}
use Rattle.label_index.specs.Spelling.{head_of, tail_of, bit_bytes, spelling_of}

-- a part of a list is replaced
pub put_part : (front old rest new : List ℕ) (a k : ℕ) → length front ≡ a → length old ≡ k → put_mid a k (front ++ (old ++ rest)) new ≡ front ++ (new ++ rest)
put_part front old rest new a k ea ek =
    ap (λ (f : List ℕ). f ++ (new ++ drop k (drop a (front ++ (old ++ rest))))) (take_at front (old ++ rest) a ea)
    ∙ ap (λ (r : List ℕ). front ++ (new ++ drop k r)) (drop_at front (old ++ rest) a ea)
    ∙ ap (λ (r : List ℕ). front ++ (new ++ r)) (drop_at old rest k ek)

-- the head and zeros replace the first bytes
first_two : (head zero into : List ℕ) → length head ≡ 64 → length zero ≡ 8 → 72 ≤ length into → put_mid 64 8 (head ++ drop 64 into) zero ≡ head ++ (zero ++ drop 72 into)
first_two head zero into lh lz long =
    ap (λ (r : List ℕ). put_mid 64 8 (head ++ r) zero) (sym (take-append-drop 8 (drop 64 into)) ∙ ap (λ (r : List ℕ). take 8 (drop 64 into) ++ r) (drop-drop 8 64 into))
    ∙ put_part head (take 8 (drop 64 into)) (drop 72 into) zero 64 8 lh (omega (arith, length-take 8 (drop 64 into), length-drop 64 into))

length_two : (head zero into : List ℕ) → length head ≡ 64 → length zero ≡ 8 → 72 ≤ length into → length (put_mid 64 8 (head ++ drop 64 into) zero) ≡ length into
length_two head zero into lh lz long =
    ap length (first_two head zero into lh lz long) ∙ length-append head (zero ++ drop 72 into) ∙ omega (arith, length-append zero (drop 72 into), length-drop 72 into, lh, lz, long)

-- the bytes before the Checksum is known: the head, zeros in its place, and the bits
pub unsummed : (head zero tail into : List ℕ) (n : ℕ) → length head ≡ 64 → length zero ≡ 8 → 72 ≤ length into
    → n ≡ length (put_mid 64 8 (head ++ drop 64 into) zero) - 72 → put_mid 72 n (put_mid 64 8 (head ++ drop 64 into) zero) tail ≡ head ++ (zero ++ tail)
unsummed head zero tail into n lh lz long len =
    let first = first_two head zero into lh lz long in
    let again : head ++ (zero ++ drop 72 into) ≡ (head ++ zero) ++ (drop 72 into ++ []) =
    sym (append_assoc head zero (drop 72 into)) ∙ ap (λ (r : List ℕ). (head ++ zero) ++ r) (sym (append-nil (drop 72 into))) in
    let rest : length (drop 72 into) ≡ n =
    omega (arith, len, length_two head zero into lh lz long, length-drop 72 into) in
    ap (λ (xs : List ℕ). put_mid 72 n xs tail) (first ∙ again)
    ∙ put_part (head ++ zero) (drop 72 into) [] tail 72 n (omega (arith, length-append head zero, lh, lz)) rest
    ∙ append_assoc head zero (tail ++ []) ∙ ap (λ (r : List ℕ). head ++ (zero ++ r)) (append-nil tail)

-- the bytes at the end are the canonical encoding
pub written : (b : IndexBlock) (head zero tail into le : List ℕ) (n sum : ℕ) → head ≡ head_of b → zero ≡ replicate 8 0 → 72 ≤ length into → length into ≡ b.size
    → n ≡ length (put_mid 64 8 (head ++ drop 64 into) zero) - 72 → tail ≡ bit_bytes (length (take n (drop 72 (put_mid 64 8 (head ++ drop 64 into) zero)))) b.free
    → sum ≡ fletcher64_of (put_mid 72 n (put_mid 64 8 (head ++ drop 64 into) zero) tail) → le ≡ to_le_bytes w64 sum
    → put_mid 64 8 (put_mid 72 n (put_mid 64 8 (head ++ drop 64 into) zero) tail) le ≡ spelling_of b
unfolding spelling_of
written b head zero tail into le n sum eh ez long sized len et es el =
    let two = length_two head zero into (ap length eh) (ap length ez) long in
    let rest : length (take n (drop 72 (put_mid 64 8 (head ++ drop 64 into) zero))) ≡ b.size - 72 =
    length-take n (drop 72 (put_mid 64 8 (head ++ drop 64 into) zero)) ∙ omega (arith, length-drop 72 (put_mid 64 8 (head ++ drop 64 into) zero), two, len, sized) in
    let whole = unsummed head zero tail into n (ap length eh) (ap length ez) long len in
    let tail_is : tail ≡ tail_of b = et ∙ ap (λ (k : ℕ). bit_bytes k b.free) rest in
    let sum_is : sum ≡ fletcher64_of (head_of b ++ (replicate 8 0 ++ tail_of b)) =
    es ∙ ap fletcher64_of (whole ∙ ap (λ (h : List ℕ). h ++ (zero ++ tail)) eh ∙ ap (λ (z : List ℕ). head_of b ++ (z ++ tail)) ez ∙ ap (λ (t : List ℕ). head_of b ++ (replicate 8 0 ++ t)) tail_is) in
    ap (λ (xs : List ℕ). put_mid 64 8 xs le) whole ∙ put_part head zero tail le 64 8 (ap length eh) (ap length ez)
    ∙ ap (λ (h : List ℕ). h ++ (le ++ tail)) eh ∙ ap (λ (s : List ℕ). head_of b ++ (s ++ tail)) (el ∙ ap (to_le_bytes w64) sum_is)
    ∙ ap (λ (t : List ℕ). head_of b ++ (to_le_bytes w64 (fletcher64_of (head_of b ++ (replicate 8 0 ++ tail_of b))) ++ t)) tail_is
