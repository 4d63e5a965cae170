-- The first two extents that clash.
use Rattle.std.proofs.Common.{◌≡◌, ℕ, zero, suc, ◌+◌, ◌-◌, ◌<◌, Bool, true, false, cond, not, ◌&&◌, ◌||◌, List, [], ◌∷◌, get_or, length, take, drop, Option, Some, None, refl, sym, ◌∙◌, subst, arith}
use Rattle.std.specs.Prelude.{nat_lt, ◌==◌, find, position}
use Rattle.std.specs.Option.{option_map}
use Rattle.std.specs.List.{list_any, position_from}
use Rattle.std.proofs.Math.Seq.{take-length}
use Rattle.std.proofs.lemmas.List.{length-drop}
use Rattle.std.proofs.lemmas.Iterator.Adapters.{position_from-zero}
use Rattle.std.specs.Str.{bytes_eq}
use Rattle.std.proofs.lemmas.Bool.{or_parts, false≢true}
use Rattle.std.proofs.lemmas.Bool.Decides.{Decides-like, same_from_decides, Decides-eqb}
use Rattle.std.proofs.lemmas.Slice.Eq.{bytes_eq-Decides}
use Rattle.nvd_words.specs.Checks.{first_fault}
use Rattle.region_space.specs.declared.extent.Extent.{Extent}
use Rattle.region_space.specs.declared.extent.SpaceFault.{SpaceFault}
use Rattle.region_space.specs.declared.extent.SpaceFault.TheVariants.{Overlap}
use Rattle.region_space.specs.Space.{clash, overlap_of}
use Rattle.region_space.specs.Reach.{end_of, starts_before, passes_beside}
use Rattle.region_space.specs.Fitting.{partner_of}

bytes_eq_back : (xs ys : List ℕ) → bytes_eq xs ys ≡ bytes_eq ys xs
bytes_eq_back xs ys = same_from_decides (bytes_eq xs ys) (bytes_eq ys xs) (bytes_eq-Decides xs ys) (Decides-like (bytes_eq ys xs) sym sym (bytes_eq-Decides ys xs))

eqb_back : (m n : ℕ) → (m == n) ≡ (n == m)
eqb_back m n = same_from_decides (m == n) (n == m) (Decides-eqb m n) (Decides-like (n == m) sym sym (Decides-eqb n m))

and-false : (b : Bool) → (b && false) ≡ false
and-false true = refl
and-false false = refl

and_back : (s t : Bool) → (s && t) ≡ (t && s)
and_back true true = refl
and_back true false = refl
and_back false true = refl
and_back false false = refl

by_parts : (o m s t : Bool) → ((m && s) && (not o && t)) ≡ (not o && (m && (t && s)))
by_parts true true s t = and-false s
by_parts true false s t = refl
by_parts false true s t = and_back s t
by_parts false false s t = refl

-- an extent clashes with the extents of other owners on its module that start before its end and end past its start
pub clash_parts : (e x : Extent) → (starts_before e.«module» (end_of e) x && passes_beside e.owner e.start x) ≡ clash e x
clash_parts e x =
    rw (bytes_eq_back e.owner x.owner, eqb_back e.«module» x.«module») (by_parts (bytes_eq x.owner e.owner) (x.«module» == e.«module») (nat_lt x.start (end_of e)) (nat_lt e.start (end_of x)))

by_sides : (o m s t : Bool) → (not o && (m && (t && s))) ≡ (not o && (m && (s && t)))
by_sides true m s t = refl
by_sides false true s t = and_back t s
by_sides false false s t = refl

-- clashes are mutual
pub clash_back : (e f : Extent) → clash e f ≡ clash f e
clash_back e f = rw (bytes_eq_back e.owner f.owner, eqb_back e.«module» f.«module») (by_sides (bytes_eq f.owner e.owner) (f.«module» == e.«module») (nat_lt f.start (end_of e)) (nat_lt e.start (end_of f)))

own_by : (b c : Bool) → b ≡ true → (not b && c) ≡ false
own_by b c e = rw e refl

-- none clashes with itself
pub clash_self : (e : Extent) → clash e e ≡ false
clash_self e = own_by (bytes_eq e.owner e.owner) _ ((bytes_eq-Decides e.owner e.owner).1 refl)

find_none : {X : Type 0} (p : X → Bool) (xs : List X) → list_any p xs ≡ false → find p xs ≡ None
find_none p [] none = refl
find_none p (x ∷ xs) none = let parts = or_parts (p x) (list_any p xs) none in rw parts.0 (find_none p xs parts.1)

found_by : {X : Type 0} (p : X → Bool) (f : X → SpaceFault) (x : X) (xs : List X) (faults : List (Option SpaceFault)) (b : Bool) → p x ≡ b → (b || list_any p xs) ≡ true
    → (list_any p xs ≡ true → first_fault (option_map f (find p xs) ∷ faults) ≡ option_map f (find p xs))
    → first_fault (option_map f (cond b (Some x) (find p xs)) ∷ faults) ≡ option_map f (cond b (Some x) (find p xs))
unfolding first_fault
found_by p f x xs faults true e some on = refl
found_by p f x xs faults false e some on = on some

-- what is found is the fault
first_found : {X : Type 0} (p : X → Bool) (f : X → SpaceFault) (xs : List X) (faults : List (Option SpaceFault)) → list_any p xs ≡ true
    → first_fault (option_map f (find p xs) ∷ faults) ≡ option_map f (find p xs)
unfolding first_fault
first_found p f [] faults some = absurd (false≢true some)
first_found p f (x ∷ xs) faults some = found_by p f x xs faults (p x) refl some (λ on. first_found p f xs faults on)

-- no extent clashes with one of a list
not_clashing : (e : Extent) (xs : List Extent) → list_any (clash e) xs ≡ false → (k : ℕ) (d : Extent) → k < length xs → clash (get_or xs k d) e ≡ false
not_clashing e [] none k d lt = absurd (omega arith)
not_clashing e (x ∷ xs) none zero d lt = clash_back x e ∙ (or_parts (clash e x) (list_any (clash e) xs) none).0
not_clashing e (x ∷ xs) none (suc k) d lt = not_clashing e xs (or_parts (clash e x) (list_any (clash e) xs) none).1 k d (omega arith)

head_none : (x : Extent) (xs : List Extent) → list_any (clash x) (x ∷ xs) ≡ false → list_any (clash x) xs ≡ false
head_none x xs none = (or_parts (clash x x) (list_any (clash x) xs) none).1

only : (fault : Option SpaceFault) → first_fault (fault ∷ []) ≡ fault
unfolding first_fault
only None = refl
only (Some fault) = refl

skip_first : (x : Extent) (xs : List Extent) → list_any (clash x) xs ≡ false → overlap_of (x ∷ xs) ≡ overlap_of xs
unfolding overlap_of first_fault
skip_first x xs none = rw (find_none (clash x) xs none) (only (overlap_of xs))

-- if none clashes with another, there is no overlap
pub overlap_none : (xs : List Extent) → ((k : ℕ) (d : Extent) → k < length xs → list_any (clash (get_or xs k d)) xs ≡ false) → overlap_of xs ≡ None
unfolding overlap_of
overlap_none [] none = refl
overlap_none (x ∷ xs) none =
    let first : list_any (clash x) xs ≡ false = head_none x xs (none 0 x (omega arith)) in
    skip_first x xs first ∙ overlap_none xs (λ k d lt. (or_parts (clash (get_or xs k d) x) (list_any (clash (get_or xs k d)) xs) (none (suc k) d (omega arith))).1)

-- the first extent that clashes with another is the first of the pair
pub overlap_at : (xs : List Extent) (i : ℕ) (d : Extent) → i < length xs → list_any (clash (get_or xs i d)) xs ≡ true
    → ((k : ℕ) (b : Extent) → k < i → list_any (clash (get_or xs k b)) xs ≡ false) → overlap_of xs ≡ partner_of (get_or xs i d) (drop (suc i) xs)
unfolding overlap_of
overlap_at [] i d lt some none = absurd (omega arith)
overlap_at (x ∷ xs) zero d lt some none =
    let here : list_any (clash x) xs ≡ true = rw (clash_self x) at some in
    first_found (clash x) (λ f. Overlap x.owner f.owner) xs (overlap_of xs ∷ []) here
overlap_at (x ∷ xs) (suc i) d lt some none =
    let first : list_any (clash x) xs ≡ false = head_none x xs (none 0 x (omega arith)) in
    let here : list_any (clash (get_or xs i d)) xs ≡ true = rw (not_clashing x xs first i d (omega arith)) at some in
    skip_first x xs first
    ∙ overlap_at xs i d (omega arith) here (λ k b lt'. (or_parts (clash (get_or xs k b) x) (list_any (clash (get_or xs k b)) xs) (none (suc k) b (omega arith))).1)

-- ---- what a search for a place means

none_by : {X : Type 0} (p : X → Bool) (x : X) (xs : List X) (n : ℕ) (b : Bool) → p x ≡ b → cond b (Some n) (position_from p (n + 1) xs) ≡ None
    → (position_from p (n + 1) xs ≡ None → (k : ℕ) (d : X) → k < length xs → p (get_or xs k d) ≡ false) → (k : ℕ) (d : X) → k < length (x ∷ xs) → p (get_or (x ∷ xs) k d) ≡ false
none_by p x xs n true e none on k d lt = cc
none_by p x xs n false e none on zero d lt = e
none_by p x xs n false e none on (suc k) d lt = on none k d (omega arith)

position_from_none : {X : Type 0} (p : X → Bool) (xs : List X) (n : ℕ) → position_from p n xs ≡ None → (k : ℕ) (d : X) → k < length xs → p (get_or xs k d) ≡ false
position_from_none p [] n none k d lt = absurd (omega arith)
position_from_none p (x ∷ xs) n none k d lt = none_by p x xs n (p x) refl none (λ on. position_from_none p xs (n + 1) on) k d lt

-- if no place is found, the test fails for each element
pub position_none : {X : Type 0} (p : X → Bool) (xs : List X) → position p xs ≡ None → (k : ℕ) (d : X) → k < length xs → p (get_or xs k d) ≡ false
position_none p xs none = position_from_none p xs 0 (sym (position_from-zero p xs) ∙ none)

-- the rest of a list from a place on
pub rest_from : {X : Type 0} (xs : List X) (n : ℕ) → take (length xs - n) (drop n xs) ≡ drop n xs
rest_from {X} xs n = subst (λ (m : ℕ). take m (drop n xs) ≡ drop n xs) (length-drop n xs) (take-length (drop n xs))
