-- Blocks that sectors and lanes name once pass opening's check.
use Rattle.std.proofs.Common.{◌≡◌, ◌≢◌, ℕ, zero, suc, ◌+◌, ◌<◌, ◌≤◌, Bool, false, cond, leb, ltb, List, [], ◌∷◌, length, get_or, None, Ok, refl, sym, ap, ◌∙◌, inl, inr, arith}
use Rattle.std.specs.Prelude.{find}
use Rattle.std.specs.List.{range_with_len}
use Rattle.std.proofs.lemmas.Bool.{lt-leb, le-ltb, eq-eqb, ne_eqb}
use Rattle.map_table.specs.Blocks.{count_of, first_outside, least_twice, block_check}
use Rattle.map_table.proofs.Counting.{count_of-cons}
use Rattle.map_table.proofs.Checked.{fine_answer}
use Rattle.lane_core.proofs.Put.{same_or_not}

none_counted : (xs : List ℕ) (b : ℕ) → ((k : ℕ) → k < length xs → get_or xs k 0 ≢ b) → count_of b xs ≡ 0
none_counted [] b none = refl
none_counted (x ∷ xs) b none =
    let rest : count_of b xs ≡ 0 = none_counted xs b (λ k lt. none (suc k) (omega arith)) in
    let first : count_of b (x ∷ xs) ≡ 0 + count_of b xs = count_of-cons b x xs ∙ ap (λ (t : Bool). cond t 1 0 + count_of b xs) (ne_eqb x b (none 0 (omega arith))) in
    omega (arith, rest, first)

-- numbers that stand at one place each are counted once at most
count_few : (xs : List ℕ) → ((i j : ℕ) → i < length xs → j < length xs → get_or xs i 0 ≡ get_or xs j 0 → i ≡ j) → (b : ℕ) → count_of b xs ≤ 1
count_few [] one b = omega arith
count_few (x ∷ xs) one b = elim (same_or_not x b) [
  | inl e ↦
      let none : count_of b xs ≡ 0 = none_counted xs b (λ k lt q. let z : suc k ≡ 0 = one (suc k) 0 (omega arith) (omega arith) (q ∙ sym e) in omega arith) in
      let first : count_of b (x ∷ xs) ≡ 1 + count_of b xs = count_of-cons b x xs ∙ ap (λ (t : Bool). cond t 1 0 + count_of b xs) (eq-eqb x b e) in
      omega (arith, none, first)
  | inr ne ↦
      let rest : count_of b xs ≤ 1 = count_few xs (λ i j li lj q. let z : suc i ≡ suc j = one (suc i) (suc j) (omega arith) (omega arith) q in omega arith) b in
      let first : count_of b (x ∷ xs) ≡ 0 + count_of b xs = count_of-cons b x xs ∙ ap (λ (t : Bool). cond t 1 0 + count_of b xs) (ne_eqb x b ne) in
      omega (arith, rest, first)
]

none_outside : (n : ℕ) (xs : List ℕ) → ((k : ℕ) → k < length xs → get_or xs k 0 < n) → find (leb n) xs ≡ None
none_outside n [] below = refl
none_outside n (x ∷ xs) below = rw (lt-leb n x (below 0 (omega arith))) (none_outside n xs (λ k lt. below (suc k) (omega arith)))

find_none : (p : ℕ → Bool) (k m : ℕ) → ((b : ℕ) → p b ≡ false) → find p (range_with_len k m) ≡ None
find_none p k zero fails = refl
find_none p k (suc m) fails = rw (fails k) (find_none p (k + 1) m fails)

pub once_checked : (n : ℕ) (xs : List ℕ) → length xs ≡ n → ((k : ℕ) → k < n → get_or xs k 0 < n) → ((i j : ℕ) → i < n → j < n → get_or xs i 0 ≡ get_or xs j 0 → i ≡ j) → block_check n xs ≡ Ok tt
unfolding first_outside least_twice
once_checked n xs size below one =
    sym (fine_answer n xs
    (none_outside n xs (λ k lt. below k (omega (arith, size))))
    (find_none (λ b. ltb 1 (count_of b xs)) 0 n (λ b. le-ltb 1 (count_of b xs) (count_few xs (λ i j li lj e. one i j (omega (arith, size)) (omega (arith, size)) e) b)))
    (omega (arith, size)))
