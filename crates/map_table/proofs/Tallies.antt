-- Counts of blocks in two rows of flags.
use Rattle.std.proofs.Common.{◌≡◌, ℕ, zero, suc, ◌+◌, ◌<◌, min, Bool, true, false, cond, ltb, List, [], ◌∷◌, length, drop, get_or, set, replicate, Option, Some, None, refl, sym, ap, ◌∙◌, arith, add-one, drop-cons}
use Rattle.std.specs.Prelude.{position}
use Rattle.std.specs.List.{position_from}
use Rattle.std.proofs.lemmas.Iterator.Adapters.{position_from-zero}
use Rattle.map_table.specs.Times.{times, counts_of}

pub length_counts : (named again : List Bool) → length again ≡ length named → length (counts_of named again) ≡ length named
length_counts [] again same = refl
length_counts (n ∷ named) [] same = absurd (omega (arith, same))
length_counts (n ∷ named) (a ∷ again) same = ap suc (length_counts named again (omega (arith, same)))

pub none_counted : (n : ℕ) → counts_of (replicate n false) (replicate n false) ≡ replicate n 0
none_counted zero = refl
none_counted (suc n) = ap (λ (rest : List ℕ). 0 ∷ rest) (none_counted n)

-- a block is named for the first time
pub counts_first : (named again : List Bool) (i : ℕ) → length again ≡ length named → i < length named → get_or named i false ≡ false
    → counts_of (set named i true) again ≡ set (counts_of named again) i (min 2 (get_or (counts_of named again) i 0 + 1))
counts_first [] again i same lt is = absurd (omega (arith, lt))
counts_first (n ∷ named) [] i same lt is = absurd (omega (arith, same))
counts_first (n ∷ named) (true ∷ again) zero same lt is = refl
counts_first (n ∷ named) (false ∷ again) zero same lt is = rw is refl
counts_first (n ∷ named) (a ∷ again) (suc i) same lt is =
    ap (λ (rest : List ℕ). times n a ∷ rest) (counts_first named again i (omega (arith, same)) (omega (arith, lt)) is)

-- a block is named again
pub counts_again : (named again : List Bool) (i : ℕ) → length again ≡ length named → i < length named → get_or named i false ≡ true
    → counts_of named (set again i true) ≡ set (counts_of named again) i (min 2 (get_or (counts_of named again) i 0 + 1))
counts_again [] again i same lt is = absurd (omega (arith, lt))
counts_again (n ∷ named) [] i same lt is = absurd (omega (arith, same))
counts_again (n ∷ named) (true ∷ again) zero same lt is = refl
counts_again (n ∷ named) (false ∷ again) zero same lt is = rw is refl
counts_again (n ∷ named) (a ∷ again) (suc i) same lt is =
    ap (λ (rest : List ℕ). times n a ∷ rest) (counts_again named again i (omega (arith, same)) (omega (arith, lt)) is)

above : (n a : Bool) → ltb 1 (times n a) ≡ a
above true true = refl
above true false = refl
above false true = refl
above false false = refl

flagged_from : (k : ℕ) (named again : List Bool) → length again ≡ length named
    → position_from (ltb 1) k (counts_of named again) ≡ position_from (λ (a : Bool). a) k again
flagged_from k [] [] same = refl
flagged_from k [] (a ∷ again) same = absurd (omega (arith, same))
flagged_from k (n ∷ named) [] same = absurd (omega (arith, same))
flagged_from k (n ∷ named) (a ∷ again) same =
    ap (λ (b : Bool). cond b (Some k) (position_from (ltb 1) (k + 1) (counts_of named again))) (above n a)
    ∙ ap (λ (r : Option ℕ). cond a (Some k) r) (flagged_from (k + 1) named again (omega (arith, same)))

-- the first count above 1 is at the second row's first set flag
pub first_flagged : (named again : List Bool) → length again ≡ length named → position (ltb 1) (counts_of named again) ≡ position (λ (a : Bool). a) again
first_flagged named again same =
    position_from-zero (ltb 1) (counts_of named again) ∙ flagged_from 0 named again same ∙ sym (position_from-zero (λ (a : Bool). a) again)

-- a block with a count has a flag in the first row
pub counted_inside : (named again : List Bool) (view : List ℕ) (i : ℕ) → counts_of named again ≡ view → length again ≡ length named → i < length view → i < length named
counted_inside named again view i is same lt = omega (arith, lt, length_counts named again same, ap (λ (l : List ℕ). length l) is)

-- the count of a block, from its two flags
counts_at : (named again : List Bool) (i : ℕ) → length again ≡ length named → i < length named
    → get_or (counts_of named again) i 0 ≡ times (get_or named i false) (get_or again i false)
counts_at [] again i same lt = absurd (omega (arith, lt))
counts_at (n ∷ named) [] i same lt = absurd (omega (arith, same))
counts_at (n ∷ named) (a ∷ again) zero same lt = refl
counts_at (n ∷ named) (a ∷ again) (suc i) same lt = counts_at named again i (omega (arith, same)) (omega (arith, lt))

pub times_at : (named again : List Bool) (view : List ℕ) (i : ℕ) (n a : Bool) → counts_of named again ≡ view → length again ≡ length named → i < length named
    → get_or named i false ≡ n → get_or again i false ≡ a → times n a ≡ get_or view i 0
times_at named again view i n a is same lt first second =
    sym ((λ j. times (first j) (second j))) ∙ sym (counts_at named again i same lt) ∙ ap (λ (l : List ℕ). get_or l i 0) is

-- ---- a search from the front

rest_of_flags : (flags : List Bool) (i : ℕ) → i < length flags → drop i flags ≡ get_or flags i false ∷ drop (i + 1) flags
rest_of_flags flags i lt = rw add-one (drop-cons flags i false lt)

searched_by : (flag : Bool) (flags : List Bool) (i : ℕ) → i < length flags → get_or flags i false ≡ flag
    → position_from (λ (f : Bool). f) i (drop i flags) ≡ cond flag (Some i) (position_from (λ (f : Bool). f) (i + 1) (drop (i + 1) flags))
searched_by flag flags i lt is =
    ap (λ (l : List Bool). position_from (λ (f : Bool). f) i l) (rest_of_flags flags i lt)
    ∙ ap (λ (b : Bool). cond b (Some i) (position_from (λ (f : Bool). f) (i + 1) (drop (i + 1) flags))) is

-- the flag at a place is the first set one
pub search_ends : (flags : List Bool) (i : ℕ) → i < length flags → get_or flags i false ≡ true
    → position_from (λ (f : Bool). f) 0 flags ≡ position_from (λ (f : Bool). f) i (drop i flags) → Some i ≡ position (λ (f : Bool). f) flags
search_ends flags i lt set' was = sym (position_from-zero (λ (f : Bool). f) flags ∙ was ∙ searched_by true flags i lt set')

-- the flag at a place isn't set
pub search_goes_on : (flags : List Bool) (i : ℕ) → i < length flags → get_or flags i false ≡ false
    → position_from (λ (f : Bool). f) 0 flags ≡ position_from (λ (f : Bool). f) i (drop i flags)
    → position_from (λ (f : Bool). f) 0 flags ≡ position_from (λ (f : Bool). f) (i + 1) (drop (i + 1) flags)
search_goes_on flags i lt clear was = was ∙ searched_by false flags i lt clear

-- none is set
pub search_fails : (flags rest : List Bool) (i : ℕ) → rest ≡ []
    → position_from (λ (f : Bool). f) 0 flags ≡ position_from (λ (f : Bool). f) i rest → None ≡ position (λ (f : Bool). f) flags
search_fails flags rest i none was = sym (position_from-zero (λ (f : Bool). f) flags ∙ was ∙ ap (λ (l : List Bool). position_from (λ (f : Bool). f) i l) none)
