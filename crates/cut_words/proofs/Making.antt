-- Steps under a fuse, one list after another, and which words are pending after them.
use Rattle.std.proofs.Common.{◌≡◌, ◌⊎◌, ℕ, zero, suc, ◌+◌, ◌-◌, ◌<◌, ◌≤◌, leb, Bool, true, false, List, [], ◌∷◌, ◌++◌, length, take, drop, get_or, Option, Some, None, refl, sym, ap, ◌∙◌, subst, arith, inl, inr}
use Rattle.std.specs.List.{range_with_len, All}
use Rattle.std.proofs.lemmas.List.FromFn.{get_or-range_with_len, length-range_with_len}
use Rattle.std.proofs.lemmas.List.Elements.{All-nil, All-cons}
use Rattle.std.proofs.Math.Seq.{take-append-add}
use Rattle.std.proofs.lemmas.Bool.{leb-true, leb-false, le-leb, lt-leb, cases_lt}
use Rattle.std.proofs.lemmas.List.{take-append-le, take_all, length-append, drop_more, drop_all}
use Rattle.cut_words.specs.Words.{Words, Step, store, keep, after}
use Rattle.cut_words.specs.Groups.{keeps, NotIn}
use Rattle.cut_words.specs.Runs.{stores_from, keeps_from, run_steps}
use Rattle.cut_words.specs.Fuses.{allowed, Makes}
use Rattle.cut_words.proofs.Stays.{after-append, length_kept, Clear, Passes, clear_stays, keeps_pass, keeps_clear, here, away, among}

after_none : (w : Words) (n : ℕ) → w ≡ after w (take n [])
unfolding after
after_none w zero = refl
after_none w (suc n) = refl

same_test : (a b c d : ℕ) → (a ≤ b → c ≤ d) → (b < a → d < c) → leb a b ≡ leb c d
same_test a b c d up down =
    elim (cases_lt b a) [
      | inl lt ↦ lt-leb a b lt ∙ sym (lt-leb c d (down lt))
      | inr le ↦ le-leb a b le ∙ sym (le-leb c d (up le))
    ]

-- no steps
pub makes_none : (w : Words) (f : Option ℕ) → Makes w w f f [] true
unfolding after
makes_none w None = record { words = refl; fuse_left = refl; all_made = refl }
makes_none w (Some n) = record { words = after_none w n; fuse_left = ap Some (omega arith); all_made = sym (le-leb 0 n (omega arith)) }

-- two lists of steps in sequence
pub makes_both : (w w1 w2 : Words) (f f1 f2 : Option ℕ) (xs ys : List Step) (made : Bool) → Makes w w1 f f1 xs true → Makes w1 w2 f1 f2 ys made → Makes w w2 f f2 (xs ++ ys) made
makes_both w w1 w2 None f1 f2 xs ys made a b =
    let b' : Makes w1 w2 None f2 ys made = subst (λ (o : Option ℕ). Makes w1 w2 o f2 ys made) a.fuse_left b in
    record {
      words = b'.words ∙ ap (λ (v : Words). after v ys) a.words ∙ sym (after-append xs ys w);
      fuse_left = b'.fuse_left;
      all_made = b'.all_made;
    }
makes_both w w1 w2 (Some n) f1 f2 xs ys made a b =
    let enough : length xs ≤ n = leb-true (length xs) n (sym a.all_made) in
    let b' : Makes w1 w2 (Some (n - length xs)) f2 ys made = subst (λ (o : Option ℕ). Makes w1 w2 o f2 ys made) a.fuse_left b in
    let front : take n xs ≡ xs = take_all n xs enough in
    let both : take n (xs ++ ys) ≡ xs ++ take (n - length xs) ys = ap (λ (k : ℕ). take k (xs ++ ys)) (omega arith) ∙ take-append-add xs ys (n - length xs) in
    record {
      words = b'.words ∙ ap (λ (v : Words). after v (take (n - length xs) ys)) (a.words ∙ ap (after w) front) ∙ sym (ap (after w) both ∙ after-append xs (take (n - length xs) ys) w);
      fuse_left = b'.fuse_left ∙ ap Some (omega (arith, length-append xs ys));
      all_made = b'.all_made ∙ same_test (length ys) (n - length xs) (length (xs ++ ys)) n (λ le. omega (arith, length-append xs ys)) (λ lt. omega (arith, length-append xs ys));
    }

-- if the first list isn't completed, the second isn't begun
pub makes_cut : (w w1 : Words) (f f1 : Option ℕ) (xs ys : List Step) → Makes w w1 f f1 xs false → Makes w w1 f f1 (xs ++ ys) false
makes_cut w w1 None f1 xs ys a = absurd (let e = a.all_made in cc)
makes_cut w w1 (Some n) f1 xs ys a =
    let short : n < length xs = leb-false (length xs) n (sym a.all_made) in
    record {
      words = a.words ∙ sym (ap (after w) (take-append-le n xs ys (omega arith)));
      fuse_left = a.fuse_left ∙ ap Some (omega (arith, length-append xs ys));
      all_made = sym (lt-leb (length (xs ++ ys)) n (omega (arith, length-append xs ys)));
    }

-- the same with one step in front
pub makes_on : (w w1 w2 : Words) (f f1 f2 : Option ℕ) (x : Step) (ys : List Step) (made : Bool) → Makes w w1 f f1 (x ∷ []) true → Makes w1 w2 f1 f2 ys made → Makes w w2 f f2 (x ∷ ys) made
makes_on w w1 w2 f f1 f2 x ys made a b = makes_both w w1 w2 f f1 f2 (x ∷ []) ys made a b

pub makes_stop : (w w1 : Words) (f f1 : Option ℕ) (x : Step) (ys : List Step) → Makes w w1 f f1 (x ∷ []) false → Makes w w1 f f1 (x ∷ ys) false
makes_stop w w1 f f1 x ys a = makes_cut w w1 f f1 (x ∷ []) ys a

pub ruleset making = (makes_both, makes_cut, makes_on, makes_stop, makes_none)

-- ---- loops

pub makes_length : (w w1 : Words) (f f1 : Option ℕ) (steps : List Step) (made : Bool) → Makes w w1 f f1 steps made → length w1.kept ≡ length w.kept
makes_length w w1 f f1 steps made a = ap (λ (v : Words). length v.kept) a.words ∙ length_kept (allowed f steps) w

one_less : (a b : ℕ) → a < b → b - a ≡ suc (b - (a + 1))
one_less a b lt = omega arith

the_end : (a b : ℕ) → b ≤ a → 0 ≡ b - a
the_end a b le = omega arith

range_more : (place top : ℕ) → place < top → range_with_len place (top - place) ≡ place ∷ range_with_len (place + 1) (top - (place + 1))
range_more place top lt = ap (range_with_len place) (one_less place top lt)

pub keeps_on : (w w1 w2 : Words) (f f1 f2 : Option ℕ) (place top : ℕ) (made : Bool) → place < top → Makes w w1 f f1 (keep place ∷ []) true
    → Makes w1 w2 f1 f2 (keeps_from (place + 1) (top - (place + 1))) made → Makes w w2 f f2 (keeps_from place (top - place)) made
keeps_on w w1 w2 f f1 f2 place top made lt a b =
    subst (λ (places : List ℕ). Makes w w2 f f2 (keeps places) made) (sym (range_more place top lt))
    (makes_on w w1 w2 f f1 f2 (keep place) (keeps_from (place + 1) (top - (place + 1))) made a b)

pub keeps_stop : (w w1 : Words) (f f1 : Option ℕ) (place top : ℕ) → place < top → Makes w w1 f f1 (keep place ∷ []) false → Makes w w1 f f1 (keeps_from place (top - place)) false
keeps_stop w w1 f f1 place top lt a =
    subst (λ (places : List ℕ). Makes w w1 f f1 (keeps places) false) (sym (range_more place top lt))
    (makes_stop w w1 f f1 (keep place) (keeps_from (place + 1) (top - (place + 1))) a)

pub keeps_end : (w : Words) (f : Option ℕ) (place top : ℕ) → top ≤ place → Makes w w f f (keeps_from place (top - place)) true
keeps_end w f place top le =
    subst (λ (k : ℕ). Makes w w f f (keeps_from place k) true) (the_end place top le) (makes_none w f)

pub stores_on : (w w1 w2 : Words) (f f1 f2 : Option ℕ) (place i : ℕ) (values : List ℕ) (made : Bool) → i < length values → Makes w w1 f f1 (store place (get_or values i 0) ∷ []) true
    → Makes w1 w2 f1 f2 (stores_from (place + 1) (drop (i + 1) values)) made → Makes w w2 f f2 (stores_from place (drop i values)) made
stores_on w w1 w2 f f1 f2 place i values made lt a b =
    subst (λ (vs : List ℕ). Makes w w2 f f2 (stores_from place vs) made) (sym (drop_more values i 0 lt))
    (makes_on w w1 w2 f f1 f2 (store place (get_or values i 0)) (stores_from (place + 1) (drop (i + 1) values)) made a b)

pub stores_stop : (w w1 : Words) (f f1 : Option ℕ) (place i : ℕ) (values : List ℕ) → i < length values → Makes w w1 f f1 (store place (get_or values i 0) ∷ []) false
    → Makes w w1 f f1 (stores_from place (drop i values)) false
stores_stop w w1 f f1 place i values lt a =
    subst (λ (vs : List ℕ). Makes w w1 f f1 (stores_from place vs) false) (sym (drop_more values i 0 lt))
    (makes_stop w w1 f f1 (store place (get_or values i 0)) (stores_from (place + 1) (drop (i + 1) values)) a)

pub stores_end : (w : Words) (f : Option ℕ) (place i : ℕ) (values : List ℕ) → length values ≤ i → Makes w w f f (stores_from place (drop i values)) true
stores_end w f place i values le =
    subst (λ (vs : List ℕ). Makes w w f f (stores_from place vs) true) (sym (drop_all i values le)) (makes_none w f)

-- ---- which words are pending

-- a list of steps that was completed
pub makes_all : (w w1 : Words) (f f1 : Option ℕ) (steps : List Step) → Makes w w1 f f1 steps true → w1 ≡ after w steps
makes_all w w1 None f1 steps a = a.words
makes_all w w1 (Some n) f1 steps a = a.words ∙ ap (after w) (take_all n steps (leb-true (length steps) n (sym a.all_made)))

pub range_out : (a n i : ℕ) → NotIn (range_with_len a n) i → (i < a) ⊎ (a + n ≤ i)
range_out a n i out =
    elim (cases_lt i a) [
      | inl below ↦ inl below
      | inr from ↦ elim (cases_lt i (a + n)) [
        | inl to ↦ absurd (out (i - a) 0 (omega (arith, length-range_with_len a n)) (get_or-range_with_len a n (i - a) 0 (omega arith) ∙ omega arith))
        | inr above ↦ inr above
      ]
    ]

-- the stores of a run don't touch a word outside it
pub stores_pass_by : (values : List ℕ) (base i : ℕ) → (i < base) ⊎ (base + length values ≤ i) → All (Passes i) (stores_from base values)
stores_pass_by [] base i out = All-nil (Passes i)
stores_pass_by (v ∷ values) base i out =
    All-cons (Passes i) (store base v) (stores_from (base + 1) values) (λ e. elim out [ inl below ↦ absurd (omega arith) | inr above ↦ absurd (omega arith) ])
    (stores_pass_by values (base + 1) i (elim out [ inl below ↦ inl (omega arith) | inr above ↦ inr (omega arith) ]))

-- writing a run leaves no word pending that wasn't before
pub run_clear : (base : ℕ) (values : List ℕ) (words : Words) (i : ℕ) → Clear i words → Clear i (after words (run_steps base values))
run_clear base values words i was =
    let places : List ℕ = range_with_len base (length values) in
    let mid : Words = after words (stores_from base values) in
    subst (Clear i) (sym (after-append (stores_from base values) (keeps_from base (length values)) words)) (elim (among (range_with_len base (length values)) i) [
      | here k lt e ↦ subst (λ (q : ℕ). Clear q (after (after words (stores_from base values)) (keeps_from base (length values)))) e
          (keeps_clear (range_with_len base (length values)) k (after words (stores_from base values)) lt)
      | away out ↦ clear_stays i (keeps_from base (length values)) (after words (stores_from base values)) (keeps_pass i (range_with_len base (length values)))
          (clear_stays i (stores_from base values) words (stores_pass_by values base i (range_out base (length values) i out)) was)
    ])

-- a store changes no word after its place
pub store_on : (w w1 : Words) (f f1 : Option ℕ) (place v i : ℕ) → Makes w w1 f f1 (store place v ∷ []) true → place + 1 ≤ i → Clear i w → Clear i w1
store_on w w1 f f1 place v i a le was =
    subst (Clear i) (sym (makes_all w w1 f f1 (store place v ∷ []) a))
    (clear_stays i (store place v ∷ []) w (All-cons (Passes i) (store place v) [] (λ e. absurd (omega arith)) (All-nil (Passes i))) was)
