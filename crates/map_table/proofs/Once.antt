-- Each block is named once exactly if none is outside, none is named twice, and there are enough names (the pigeonhole
-- principle).
use Rattle.std.proofs.Common.{◌≡◌, ℕ, zero, suc, ◌+◌, ◌<◌, ◌≤◌, Bool, true, false, cond, eqb, leb, ltb, List, [], ◌∷◌, length, get_or, Option, Some, None, Result, Ok, Err, refl, sym, ap, ◌∙◌, inl, inr, arith}
use Rattle.std.specs.Prelude.{find, All, OnOk}
use Rattle.std.specs.List.{range_with_len}
use Rattle.std.specs.Option.{option_map}
use Rattle.std.proofs.lemmas.Bool.{leb-false, lt-leb, ltb-false, lt-ltb, le-ltb, eq-eqb, ne_eqb, cases_lt, cases_order}
use Rattle.nvd_words.specs.Checks.{first_fault, fault_if, value_unless, Answers}
use Rattle.map_table.specs.declared.check.BlockFault.{BlockFault}
use Rattle.map_table.specs.declared.check.BlockFault.TheVariants.{Range, Twice, Count, OutOfMemory}
use Rattle.map_table.specs.Blocks.{count_of, first_outside, least_twice, block_check, NamesEachOnce}
use Rattle.map_table.proofs.Counting.{count_of-cons}
use Rattle.map_table.proofs.Checked.{fine_answer}

-- ---- all the counts together

abbrev total : ℕ → List ℕ → ℕ
total zero blocks = 0
total (suc n) blocks = count_of n blocks + total n blocks

total-nil : (n : ℕ) → total n [] ≡ 0
total-nil zero = refl
total-nil (suc n) = omega (arith, total-nil n)

-- a number below n + 1 is n or below n
one_split : (x n : ℕ) → cond (eqb x n) 1 0 + cond (ltb x n) 1 0 ≡ cond (ltb x (suc n)) 1 0
one_split x n = elim (cases_order x n) [
  | inl e ↦ rw (eq-eqb x n e, le-ltb x n (omega (arith, e)), lt-ltb x (suc n) (omega (arith, e))) refl
  | inr (inl lt) ↦ rw (ne_eqb x n (λ e. omega (arith, e, lt)), lt-ltb x n lt, lt-ltb x (suc n) (omega (arith, lt))) refl
  | inr (inr gt) ↦ rw (ne_eqb x n (λ e. omega (arith, e, gt)), le-ltb x n (omega (arith, gt)), le-ltb x (suc n) (omega (arith, gt))) refl
]

total-cons : (n x : ℕ) (xs : List ℕ) → total n (x ∷ xs) ≡ cond (ltb x n) 1 0 + total n xs
total-cons zero x xs = ap (λ (b : Bool). cond b 1 0 + 0) (sym (le-ltb x 0 (omega arith)))
total-cons (suc n) x xs = omega (arith, count_of-cons n x xs, total-cons n x xs, one_split x n)

head_below : (n x : ℕ) (xs : List ℕ) → All (λ b. b < n) (x ∷ xs) → x < n
head_below n x xs all = all zero 0 (omega arith)

rest_below : (n x : ℕ) (xs : List ℕ) → All (λ b. b < n) (x ∷ xs) → All (λ b. b < n) xs
rest_below n x xs all = λ k d lt. all (suc k) d (omega (arith, lt))

cons_below : (n x : ℕ) (xs : List ℕ) → x < n → All (λ b. b < n) xs → (k d : ℕ) → k < length (x ∷ xs) → get_or (x ∷ xs) k d < n
cons_below n x xs lt all zero d in' = lt
cons_below n x xs lt all (suc k) d in' = all k d (omega (arith, in'))

-- numbers that are all below n are all counted
total_all : (n : ℕ) (blocks : List ℕ) → All (λ b. b < n) blocks → total n blocks ≡ length blocks
total_all n [] all = total-nil n
total_all n (x ∷ xs) all =
    total-cons n x xs ∙ ap (λ (b : Bool). cond b 1 0 + total n xs) (lt-ltb x n (head_below n x xs all)) ∙ omega (arith, total_all n xs (rest_below n x xs all))

total_low : (n : ℕ) (blocks : List ℕ) → ((b : ℕ) → b < n → count_of b blocks ≤ 1) → total n blocks ≤ n
total_low zero blocks low = omega arith
total_low (suc n) blocks low = omega (arith, low n (omega arith), total_low n blocks (λ b lt. low b (omega (arith, lt))))

-- the pigeonhole principle: if none is named twice and there are n names, each is named
pub each_once : (n : ℕ) (blocks : List ℕ) → ((b : ℕ) → b < n → count_of b blocks ≤ 1) → n ≤ total n blocks → (b : ℕ) → b < n → count_of b blocks ≡ 1
each_once zero blocks low enough b lt = absurd (omega arith)
each_once (suc n) blocks low enough b lt =
    let less : (k : ℕ) → k < n → count_of k blocks ≤ 1 = λ k below. low k (omega (arith, below)) in
    let sum : total n blocks ≤ n = total_low n blocks less in
    let here : count_of n blocks ≤ 1 = low n (omega arith) in
    elim (cases_lt b n) [
      | inl below ↦ each_once n blocks less (omega (arith, enough, here)) b below
      | inr above ↦ ap (λ (k : ℕ). count_of k blocks) (let e : b ≡ n = omega (arith, above, lt) in e) ∙ omega (arith, enough, here, sum)
    ]

total_ones : (n : ℕ) (blocks : List ℕ) → ((b : ℕ) → b < n → count_of b blocks ≡ 1) → total n blocks ≡ n
total_ones zero blocks ones = refl
total_ones (suc n) blocks ones = omega (arith, ones n (omega arith), total_ones n blocks (λ b lt. ones b (omega (arith, lt))))

-- ---- none is outside

outside_by : (above : Bool) (n x : ℕ) (xs : List ℕ) → leb n x ≡ above → cond above (Some x) (find (leb n) xs) ≡ None → (x < n) × (find (leb n) xs ≡ None)
outside_by true n x xs e none = cc
outside_by false n x xs e none = (leb-false n x e, none)

below_all : (n : ℕ) (blocks : List ℕ) → find (leb n) blocks ≡ None → All (λ b. b < n) blocks
below_all n [] none = λ k d lt. absurd (omega (arith, lt))
below_all n (x ∷ xs) none = let p = outside_by (leb n x) n x xs refl none in cons_below n x xs p.0 (below_all n xs p.1)

all_below : (n : ℕ) (blocks : List ℕ) → All (λ b. b < n) blocks → find (leb n) blocks ≡ None
all_below n [] all = refl
all_below n (x ∷ xs) all = rw (lt-leb n x (head_below n x xs all)) (all_below n xs (rest_below n x xs all))

-- ---- none is named twice

find_by : (passes : Bool) (p : ℕ → Bool) (k : ℕ) (xs : List ℕ) → p k ≡ passes → cond passes (Some k) (find p xs) ≡ None → (p k ≡ false) × (find p xs ≡ None)
find_by true p k xs e none = cc
find_by false p k xs e none = (e, none)

none_between : (p : ℕ → Bool) (k m : ℕ) → find p (range_with_len k m) ≡ None → (b : ℕ) → k ≤ b → b < k + m → p b ≡ false
none_between p k zero none b low high = absurd (omega arith)
none_between p k (suc m) none b low high =
    let q = find_by (p k) p k (range_with_len (k + 1) m) refl none in
    elim (cases_lt k b) [
      | inl lt ↦ none_between p (k + 1) m q.1 b (omega (arith, lt)) (omega (arith, high))
      | inr ge ↦ ap p (let e : b ≡ k = omega (arith, ge, low) in e) ∙ q.0
    ]

find_none : (p : ℕ → Bool) (k m : ℕ) → ((b : ℕ) → k ≤ b → b < k + m → p b ≡ false) → find p (range_with_len k m) ≡ None
find_none p k zero fails = refl
find_none p k (suc m) fails =
    rw (fails k (omega arith) (omega arith)) (find_none p (k + 1) m (λ b low high. fails b (omega (arith, low)) (omega (arith, high))))

-- ---- both ways

three : {A F : Type 0} (v w : A) (o p q : Option F) → value_unless v (first_fault (o ∷ p ∷ q ∷ [])) ≡ Ok w → (o ≡ None) × (p ≡ None) × (q ≡ None)
unfolding first_fault
three v w (Some f) p q e = cc
three v w None (Some f) q e = cc
three v w None None (Some f) e = cc
three v w None None None e = (refl, refl, refl)

unmapped : {A B : Type 0} (f : A → B) (o : Option A) → option_map f o ≡ None → o ≡ None
unmapped f None e = refl
unmapped f (Some x) e = cc

unless : {F : Type 0} (b : Bool) (f : F) → fault_if b f ≡ None → b ≡ false
unless true f e = cc
unless false f e = refl

pub names_once : (n : ℕ) (blocks : List ℕ) → block_check n blocks ≡ Ok tt → NamesEachOnce n blocks
unfolding first_outside least_twice
names_once n blocks ok =
    let t = three tt tt (option_map Range (first_outside n blocks)) (option_map Twice (least_twice n blocks)) (fault_if (ltb (length blocks) n) (Count n (length blocks))) ok in
    let below : All (λ b. b < n) blocks = below_all n blocks (unmapped Range (first_outside n blocks) t.0) in
    let least : least_twice n blocks ≡ None = unmapped Twice (least_twice n blocks) t.1 in
    let low : (b : ℕ) → b < n → count_of b blocks ≤ 1 = λ b lt. ltb-false 1 (count_of b blocks) (none_between (λ k. ltb 1 (count_of k blocks)) 0 n least b (omega arith) (omega (arith, lt))) in
    let enough : n ≤ length blocks = ltb-false (length blocks) n (unless (ltb (length blocks) n) (Count n (length blocks)) t.2) in
    record { below = below; once = each_once n blocks low (omega (arith, enough, total_all n blocks below)) }

pub once_named : (n : ℕ) (blocks : List ℕ) → NamesEachOnce n blocks → block_check n blocks ≡ Ok tt
unfolding first_outside least_twice
once_named n blocks names =
    let none : first_outside n blocks ≡ None = all_below n blocks names.below in
    let least : least_twice n blocks ≡ None =
    find_none (λ k. ltb 1 (count_of k blocks)) 0 n (λ b low high. le-ltb 1 (count_of b blocks) (omega (arith, names.once b (omega (arith, high))))) in
    sym (fine_answer n blocks none least (omega (arith, total_all n blocks names.below, total_ones n blocks names.once)))

-- the check returned Ok
pub sound : (n : ℕ) (blocks : List ℕ) (r : Result (Unit {0}) BlockFault) → Answers OutOfMemory r (block_check n blocks) → OnOk r (NamesEachOnce n blocks)
sound n blocks (Ok u) answer = names_once n blocks (sym (answer (λ e. cc)))
sound n blocks (Err f) answer = tt
