-- The result of the check, from its parts.
use Rattle.std.proofs.Common.{◌≡◌, ℕ, zero, suc, ◌+◌, ◌<◌, ◌≤◌, min, Bool, true, false, cond, leb, ltb, List, [], ◌∷◌, ◌++◌, length, get_or, replicate, Option, Some, None, Result, Ok, Err, refl, sym, ap, ◌∙◌, inl, inr, arith}
use Rattle.std.specs.Prelude.{find, position}
use Rattle.std.specs.Option.{option_map}
use Rattle.std.specs.List.{position_from, range_with_len}
use Rattle.std.proofs.lemmas.Bool.{lt-ltb, le-ltb, cases_lt}
use Rattle.std.proofs.lemmas.List.{length-append, length-replicate}
use Rattle.std.proofs.lemmas.List.Folds.{find-append}
use Rattle.std.proofs.lemmas.Iterator.Adapters.{position_from-zero}
use Rattle.nvd_words.specs.Checks.{first_fault, fault_if, value_unless}
use Rattle.map_table.specs.declared.check.BlockFault.{BlockFault}
use Rattle.map_table.specs.declared.check.BlockFault.TheVariants.{Range, Twice, Count}
use Rattle.map_table.specs.Blocks.{blocks_from, blocks_of, count_of, first_outside, least_twice, block_check, IsCounted}
use Rattle.map_table.proofs.Counting.{count_of-append}

-- ---- two lists in sequence

pub outside_first : (n b : ℕ) (xs ys : List ℕ) → Some b ≡ first_outside n xs → Some b ≡ first_outside n (xs ++ ys)
unfolding first_outside
outside_first n b xs ys e = sym (find-append (leb n) xs ys ∙ rw (← e) refl)

pub outside_second : (n : ℕ) (r : Option ℕ) (xs ys : List ℕ) → None ≡ first_outside n xs → r ≡ first_outside n ys → r ≡ first_outside n (xs ++ ys)
unfolding first_outside
outside_second n r xs ys e f = f ∙ sym (find-append (leb n) xs ys ∙ rw (← e) refl)

pub counted_both : (n : ℕ) (a b c xs ys : List ℕ) → IsCounted n a b xs → IsCounted n b c ys → IsCounted n a c (xs ++ ys)
counted_both n a b c xs ys first second block below =
    let p : min 2 (get_or b block 0) ≡ min 2 (get_or a block 0 + count_of block xs) = first block below in
    let q : min 2 (get_or c block 0) ≡ min 2 (get_or b block 0 + count_of block ys) = second block below in
    omega (arith, p, q, count_of-append block xs ys)

pub length_from : (sector : ℕ) (words : List ℕ) → length (blocks_from sector words) ≡ length words
length_from sector [] = refl
length_from sector (w ∷ words) = ap suc (length_from (sector + 1) words)

pub length_blocks : (entries free : List ℕ) → length (blocks_of entries free) ≡ length entries + length free
length_blocks entries free = length-append (blocks_from 0 entries) free ∙ ap (λ (n : ℕ). n + length free) (length_from 0 entries)

-- ---- the least block with a count above 1

zeros : (n i : ℕ) → get_or {A = ℕ} (replicate n 0) i 0 ≡ 0
zeros zero i = refl
zeros (suc n) zero = refl
zeros (suc n) (suc i) = zeros n i

above_by : (n c : ℕ) → min 2 n ≡ min 2 c → ltb 1 n ≡ ltb 1 c
above_by n c e = elim (cases_lt 1 n) [
  | inl lt ↦ lt-ltb 1 n lt ∙ sym (lt-ltb 1 c (omega (arith, lt, e)))
  | inr ge ↦ le-ltb 1 n ge ∙ sym (le-ltb 1 c (omega (arith, ge, e)))
]

same_from : (p q : ℕ → Bool) (k : ℕ) (xs : List ℕ) → ((i : ℕ) → i < length xs → p (get_or xs i 0) ≡ q (k + i))
    → position_from p k xs ≡ find q (range_with_len k (length xs))
same_from p q k [] same = refl
same_from p q k (x ∷ xs) same =
    let head : p x ≡ q k = same zero (omega arith) ∙ ap q (omega arith) in
    ap (λ (b : Bool). cond b (Some k) (position_from p (k + 1) xs)) head
    ∙ ap (λ (r : Option ℕ). cond (q k) (Some k) r) (same_from p q (k + 1) xs (λ i lt. same (suc i) (omega (arith, lt)) ∙ ap q (omega arith)))

pub twice_is : (n : ℕ) (counts blocks : List ℕ) → length counts ≡ n → IsCounted n (replicate n 0) counts blocks → position (ltb 1) counts ≡ least_twice n blocks
unfolding least_twice
twice_is n counts blocks len counted =
    position_from-zero (ltb 1) counts
    ∙ same_from (ltb 1) (λ b. ltb 1 (count_of b blocks)) 0 counts
    (λ i lt. above_by (get_or counts i 0) (count_of i blocks)
    (counted i (omega (arith, lt, len)) ∙ ap (λ (k : ℕ). min 2 (k + count_of i blocks)) (zeros n i) ∙ ap (λ (k : ℕ). min 2 k) (omega arith))
    ∙ ap (λ (k : ℕ). ltb 1 (count_of k blocks)) (omega arith))
    ∙ ap (λ (m : ℕ). find (λ b. ltb 1 (count_of b blocks)) (range_with_len 0 m)) len

-- ---- the answers

-- the check, from the results of its parts
parts : (n : ℕ) (blocks : List ℕ) (o p : Option ℕ) (short : Bool) → first_outside n blocks ≡ o → least_twice n blocks ≡ p → ltb (length blocks) n ≡ short
    → block_check n blocks ≡ value_unless tt (first_fault (option_map Range o ∷ option_map Twice p ∷ fault_if short (Count n (length blocks)) ∷ []))
parts n blocks o p short e f g =
    λ i. value_unless tt (first_fault (option_map Range (e i) ∷ option_map Twice (f i) ∷ fault_if (g i) (Count n (length blocks)) ∷ []))

pub range_is : (n block : ℕ) (blocks : List ℕ) → Some block ≡ first_outside n blocks → Err (Range block) ≡ block_check n blocks
unfolding first_fault
range_is n block blocks e = sym (parts n blocks (Some block) (least_twice n blocks) (ltb (length blocks) n) (sym e) refl refl)

pub twice_answer : (n block : ℕ) (blocks : List ℕ) → first_outside n blocks ≡ None → Some block ≡ least_twice n blocks → Err (Twice block) ≡ block_check n blocks
unfolding first_fault
twice_answer n block blocks e f = sym (parts n blocks None (Some block) (ltb (length blocks) n) e (sym f) refl)

pub count_answer : (n had : ℕ) (blocks : List ℕ) → first_outside n blocks ≡ None → least_twice n blocks ≡ None → had ≡ length blocks → had < n
    → Err (Count n had) ≡ block_check n blocks
unfolding first_fault
count_answer n had blocks e f len lt =
    ap (λ (k : ℕ). let r : Result (Unit {0}) BlockFault = Err (Count n k) in r) len
    ∙ sym (parts n blocks None None true e f (lt-ltb (length blocks) n (omega arith)))

pub fine_answer : (n : ℕ) (blocks : List ℕ) → first_outside n blocks ≡ None → least_twice n blocks ≡ None → n ≤ length blocks → Ok tt ≡ block_check n blocks
unfolding first_fault
fine_answer n blocks e f le = sym (parts n blocks None None false e f (le-ltb (length blocks) n le))

-- an option that is never Some is None
pub none_of : (o : Option ℕ) → ((x : ℕ) → o ≡ Some x → ⊥) → o ≡ None
none_of None not' = refl
none_of (Some x) not' = absurd (not' x refl)

pub len_zeros : (n : ℕ) (counts : List ℕ) → counts ≡ replicate n 0 → length counts ≡ n
len_zeros n counts e = ap length e ∙ length-replicate {A = ℕ} n 0

pub counted_zeros : (n m : ℕ) (before now all : List ℕ) → m ≡ n → before ≡ replicate n 0 → IsCounted m before now all → IsCounted n (replicate n 0) now all
counted_zeros n m before now all e f counted block below =
    counted block (omega (arith, below, e)) ∙ ap (λ (l : List ℕ). min 2 (get_or l block 0 + count_of block all)) f

-- the first count above 1, if the counts began at zero
pub least_is : (n : ℕ) (before now all : List ℕ) (r : Option ℕ) → before ≡ replicate n 0 → length now ≡ length before → IsCounted (length before) before now all
    → r ≡ position (ltb 1) now → r ≡ least_twice n all
least_is n before now all r e same counted is =
    let len : length before ≡ n = len_zeros n before e in
    is ∙ twice_is n now all (same ∙ len) (counted_zeros n (length before) before now all len e counted)

-- the first block without a count
pub outside_is : (n : ℕ) (before all : List ℕ) (r : Option ℕ) → before ≡ replicate n 0 → r ≡ first_outside (length before) all → r ≡ first_outside n all
outside_is n before all r e is = is ∙ ap (λ (m : ℕ). first_outside m all) (len_zeros n before e)
