-- Counting blocks one by one.
use Rattle.std.proofs.Common.{◌≡◌, ◌≢◌, ℕ, ◌+◌, ◌<◌, ◌≤◌, min, Bool, true, false, cond, eqb, List, [], ◌∷◌, ◌++◌, length, drop, set, get_or, Some, None, refl, sym, ap, ◌∙◌, subst, arith, add-one, drop-cons}
use Rattle.std.proofs.lemmas.Bool.{eqb-true, eqb-false, le-leb, lt-leb}
use Rattle.std.proofs.lemmas.List.Sums.{sum_by-cons, sum_by-append}
use Rattle.std.proofs.lemmas.List.{get_or-set_same, get_or-set_other, length-set}
use Rattle.map_table.specs.declared.kinds.MapEntry.{MapEntry}
use Rattle.map_table.specs.Entry.{entry_of}
use Rattle.map_table.specs.Blocks.{blocks_from, count_of, first_outside, IsCounted}

pub count_of-cons : (block x : ℕ) (xs : List ℕ) → count_of block (x ∷ xs) ≡ cond (eqb x block) 1 0 + count_of block xs
count_of-cons block x xs = sum_by-cons (λ b. cond (eqb b block) 1 0) x xs

pub count_of-append : (block : ℕ) (xs ys : List ℕ) → count_of block (xs ++ ys) ≡ count_of block xs + count_of block ys
count_of-append block xs ys = sum_by-append (λ b. cond (eqb b block) 1 0) xs ys

-- the first block outside, past one inside
pub outside_on : (n x : ℕ) (xs : List ℕ) → x < n → first_outside n (x ∷ xs) ≡ first_outside n xs
unfolding first_outside
outside_on n x xs lt = rw (lt-leb n x lt) refl

pub outside_here : (n x : ℕ) (xs : List ℕ) → n ≤ x → first_outside n (x ∷ xs) ≡ Some x
unfolding first_outside
outside_here n x xs le = rw (le-leb n x le) refl

pub outside_none : (n : ℕ) → first_outside n [] ≡ None
unfolding first_outside
outside_none n = refl

-- the counts so far and the blocks still to come add up to the total
abbrev pub IsCountedTo : ℕ → List ℕ → List ℕ → List ℕ → List ℕ → Type 0
IsCountedTo n now rest before all =
    (block : ℕ) → block < n → min 2 (get_or now block 0 + count_of block rest) ≡ min 2 (get_or before block 0 + count_of block all)

counted_by : (same : Bool) (n : ℕ) (now next before all rest : List ℕ) (x block : ℕ) → eqb x block ≡ same → x < length now → next ≡ set now x (min 2 (get_or now x 0 + 1))
    → min 2 (get_or now block 0 + count_of block (x ∷ rest)) ≡ min 2 (get_or before block 0 + count_of block all)
    → min 2 (get_or next block 0 + count_of block rest) ≡ min 2 (get_or before block 0 + count_of block all)
counted_by true n now next before all rest x block test lt e was =
    let is : x ≡ block = eqb-true x block test in
    let here : get_or next block 0 ≡ min 2 (get_or now x 0 + 1) =
    ap (λ (k : ℕ). get_or next k 0) (sym is) ∙ ap (λ (l : List ℕ). get_or l x 0) e ∙ get_or-set_same now x (min 2 (get_or now x 0 + 1)) 0 lt in
    let more : count_of block (x ∷ rest) ≡ 1 + count_of block rest = count_of-cons block x rest ∙ ap (λ (b : Bool). cond b 1 0 + count_of block rest) test in
    let same : get_or now block 0 ≡ get_or now x 0 = ap (λ (k : ℕ). get_or now k 0) (sym is) in
    omega (arith, here, more, same, was)
counted_by false n now next before all rest x block test lt e was =
    let apart : x ≢ block = eqb-false x block test in
    let here : get_or next block 0 ≡ get_or now block 0 =
    ap (λ (l : List ℕ). get_or l block 0) e ∙ get_or-set_other now x block (min 2 (get_or now x 0 + 1)) 0 (λ k. apart (sym k)) in
    let more : count_of block (x ∷ rest) ≡ count_of block rest = count_of-cons block x rest ∙ ap (λ (b : Bool). cond b 1 0 + count_of block rest) test ∙ omega arith in
    omega (arith, here, more, was)

-- the invariant of a loop over blocks: the rest decides as the whole does, and is still to be counted
pub record Going (n : ℕ) (now rest before all : List ℕ) : Type 0 where
  pub sized : length now ≡ n
  pub outside : first_outside n all ≡ first_outside n rest
  pub counted : IsCountedTo n now rest before all

pub going_from : (before all : List ℕ) → Going (length before) before all before all
going_from before all = record { sized = refl; outside = refl; counted = λ block below. refl }

pub going_on : (n : ℕ) (now next before all more rest : List ℕ) (x : ℕ) → rest ≡ x ∷ more → x < n → next ≡ set now x (min 2 (get_or now x 0 + 1))
    → Going n now rest before all → Going n next more before all
going_on n now next before all more rest x e lt is was =
    let old : Going n now (x ∷ more) before all = subst (λ (r : List ℕ). Going n now r before all) e was in
    record {
      sized = ap length is ∙ length-set now x (min 2 (get_or now x 0 + 1)) ∙ was.sized;
      outside = old.outside ∙ outside_on n x more lt;
      counted = λ block below. counted_by (eqb x block) n now next before all more x block refl (omega (arith, lt, was.sized)) is (old.counted block below);
    }

pub going_out : (n : ℕ) (now before all more rest : List ℕ) (x : ℕ) → rest ≡ x ∷ more → n ≤ x → Going n now rest before all → Some x ≡ first_outside n all
going_out n now before all more rest x e le was = sym (was.outside ∙ ap (first_outside n) e ∙ outside_here n x more le)

pub going_none : (n : ℕ) (now before all rest : List ℕ) → rest ≡ [] → Going n now rest before all → None ≡ first_outside n all
going_none n now before all rest e was = sym (was.outside ∙ ap (first_outside n) e ∙ outside_none n)

pub going_done : (n : ℕ) (now before all rest : List ℕ) → rest ≡ [] → Going n now rest before all → IsCounted n before now all
going_done n now before all rest e was block below =
    ap (λ (k : ℕ). min 2 k) (omega arith) ∙ ap (λ (r : List ℕ). min 2 (get_or now block 0 + count_of block r)) (sym e) ∙ was.counted block below

-- ---- lists by a place

pub rest_of : (xs : List ℕ) (i : ℕ) → i < length xs → drop i xs ≡ get_or xs i 0 ∷ drop (i + 1) xs
rest_of xs i lt = rw add-one (drop-cons xs i 0 lt)

pub entries_rest : (xs : List ℕ) (i : ℕ) (e : MapEntry) → i < length xs → e ≡ entry_of (get_or xs i 0) i
    → blocks_from i (drop i xs) ≡ e.block ∷ blocks_from (i + 1) (drop (i + 1) xs)
entries_rest xs i e lt is =
    ap (blocks_from i) (rest_of xs i lt) ∙ ap (λ (k : MapEntry). k.block ∷ blocks_from (i + 1) (drop (i + 1) xs)) (sym is)
