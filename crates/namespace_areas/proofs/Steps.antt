-- The steps of lists of changes one after another, and the words of all areas after them.
use Rattle.std.proofs.Common.{◌≡◌, ℕ, zero, suc, ◌-◌, ◌<◌, ◌≤◌, leb, Bool, true, false, List, [], ◌∷◌, ◌++◌, length, take, map, Option, Some, None, refl, sym, ap, ◌∙◌, arith, inl, inr}
use Rattle.std.proofs.Math.ListN.{set}
use Rattle.std.specs.Prelude.{slice_get}
use Rattle.std.specs.Option.{option_map}
use Rattle.std.proofs.lemmas.Bool.{cases_lt, leb-true, leb-false, le-leb, lt-leb}
use Rattle.std.proofs.lemmas.Option.{none-some, get_or_from_slice_get}
use Rattle.std.proofs.lemmas.List.{take-map, take-append-le, take_all, length-append, set-set, set-get_or, append_assoc}
use Rattle.std.proofs.lemmas.List.Elements.{All-head, All-tail}
use Rattle.std.proofs.Math.Seq.{take-append-add}
use Rattle.cut_words.specs.Words.{Words, Step, stepped, after, settled}
use Rattle.cut_words.specs.Fuses.{allowed, burnt, lasts}
use Rattle.label_area.specs.State.{AreaState}
use Rattle.power_cut.specs.Left.{IsLeftOf}
use Rattle.namespace_map.specs.Areas.{Change}
use Rattle.namespace_areas.specs.declared.area.Area.{Area}
use Rattle.namespace_areas.specs.declared.area.Area.TheVariants.{Absent, Refused, Ready}
use Rattle.namespace_areas.specs.Seen.{IsHeld, AreHeld, AreLeft, words_of}
use Rattle.namespace_areas.specs.Steps.{Rows, AreaStep, MakesAll, after_all, all_rows, all_settled, all_steps, front, in_area, rows_of, rows_with, stepped_in, steps_of}
use Rattle.namespace_areas.proofs.Seen.{left_kept}

-- ---- words after steps

after_append : (ss ts : List AreaStep) (areas : List (Option Words)) → after_all areas (ss ++ ts) ≡ after_all (after_all areas ss) ts
unfolding after_all
after_append [] ts areas = refl
after_append (s ∷ ss) ts areas = after_append ss ts (stepped_in areas s)

get_set : {A : Type 0} (xs : List A) (m : ℕ) (x y : A) → slice_get xs m ≡ Some y → slice_get (set xs m x) m ≡ Some x
get_set [] m x y at = absurd (none-some y at)
get_set (z ∷ xs) zero x y at = refl
get_set (z ∷ xs) (suc m) x y at = get_set xs m x y at

set_same : {A : Type 0} (xs : List A) (m : ℕ) (x : A) → slice_get xs m ≡ Some x → set xs m x ≡ xs
set_same xs m x at = ap (set xs m) (sym (get_or_from_slice_get xs m x x at)) ∙ set-get_or xs m x

-- steps in one area
pub after_one : (m : ℕ) (steps : List Step) (areas : List (Option Words)) (w : Words) → slice_get areas m ≡ Some (Some w)
    → after_all areas (map (in_area m) steps) ≡ set areas m (Some (after w steps))
unfolding after_all after
after_one m [] areas w at = sym (set_same areas m (Some w) at)
after_one m (s ∷ steps) areas w at =
    ap (λ (o : Option Words). after_all (set areas m (option_map (λ x. stepped x s) o)) (map (in_area m) steps)) (get_or_from_slice_get areas m (Some w) None at)
    ∙ after_one m steps (set areas m (Some (stepped w s))) (stepped w s) (get_set areas m (Some (stepped w s)) (Some w) at)
    ∙ set-set areas m (Some (stepped w s)) (Some (after (stepped w s) steps))

-- ---- steps under a fuse

pub front_map : {A B : Type 0} (f : A → B) (fuse : Option ℕ) (xs : List A) (ys : List A) → ys ≡ front fuse xs → front fuse (map f xs) ≡ map f ys
front_map f None xs ys is = ap (map f) (sym is)
front_map f (Some n) xs ys is = take-map f n xs ∙ ap (map f) (sym is)

pub allowed_front : (fuse : Option ℕ) (steps : List Step) → allowed fuse steps ≡ front fuse steps
allowed_front None steps = refl
allowed_front (Some n) steps = refl

front_none : {A : Type 0} (fuse : Option ℕ) → front {A = A} fuse [] ≡ []
front_none None = refl
front_none (Some zero) = refl
front_none (Some (suc n)) = refl

front_both : {A : Type 0} (fuse : Option ℕ) (ss ts : List A) → true ≡ lasts fuse (length ss) → front fuse (ss ++ ts) ≡ front fuse ss ++ front (burnt fuse (length ss)) ts
front_both None ss ts all = refl
front_both (Some n) ss ts all =
    let enough : length ss ≤ n = leb-true (length ss) n (sym all) in
    ap (λ (k : ℕ). take k (ss ++ ts)) (omega arith) ∙ take-append-add ss ts (n - length ss) ∙ ap (λ (front' : List _). front' ++ take (n - length ss) ts) (sym (take_all n ss enough))

front_first : {A : Type 0} (fuse : Option ℕ) (ss ts : List A) → false ≡ lasts fuse (length ss) → front fuse (ss ++ ts) ≡ front fuse ss
front_first None ss ts short = absurd (let e = short in cc)
front_first (Some n) ss ts short = let lt : n < length ss = leb-false (length ss) n (sym short) in take-append-le n ss ts (omega arith)

same_test : (a b c d : ℕ) → (a ≤ b → c ≤ d) → (b < a → d < c) → leb a b ≡ leb c d
same_test a b c d up down =
    elim (cases_lt b a) [
      | inl lt ↦ lt-leb a b lt ∙ sym (lt-leb c d (down lt))
      | inr le ↦ le-leb a b le ∙ sym (le-leb c d (up le))
    ]

burnt_more : {A : Type 0} (fuse : Option ℕ) (ss ts : List A) → burnt (burnt fuse (length ss)) (length ts) ≡ burnt fuse (length (ss ++ ts))
burnt_more None ss ts = refl
burnt_more (Some n) ss ts = ap Some (omega (arith, length-append ss ts))

lasts_more : {A : Type 0} (fuse : Option ℕ) (ss ts : List A) → true ≡ lasts fuse (length ss) → lasts (burnt fuse (length ss)) (length ts) ≡ lasts fuse (length (ss ++ ts))
lasts_more None ss ts all = refl
lasts_more (Some n) ss ts all =
    let le : length ss ≤ n = leb-true (length ss) n (sym all) in
    same_test (length ts) (n - length ss) (length (ss ++ ts)) n (λ h. omega (arith, length-append ss ts)) (λ h. omega (arith, length-append ss ts))

lasts_short : {A : Type 0} (fuse : Option ℕ) (ss ts : List A) → false ≡ lasts fuse (length ss) → false ≡ lasts fuse (length (ss ++ ts))
lasts_short None ss ts short = short
lasts_short (Some n) ss ts short =
    let lt : n < length ss = leb-false (length ss) n (sym short) in
    sym (lt-leb (length (ss ++ ts)) n (omega (arith, length-append ss ts)))

burnt_short : {A : Type 0} (fuse : Option ℕ) (ss ts : List A) → false ≡ lasts fuse (length ss) → burnt fuse (length ss) ≡ burnt fuse (length (ss ++ ts))
burnt_short None ss ts short = refl
burnt_short (Some n) ss ts short =
    let lt : n < length ss = leb-false (length ss) n (sym short) in
    ap Some (omega (arith, length-append ss ts))

-- ---- what became of words by steps

-- by none
pub made_none : (rows : Rows) (fuse : Option ℕ) → true ≡ lasts fuse 0 → fuse ≡ burnt fuse 0 → MakesAll rows (all_settled rows) fuse fuse [] true
unfolding after_all
made_none rows fuse lasting same = record {
  words = ap (after_all (all_settled rows)) (sym (front_none fuse));
  fuse_left = same;
  all_made = lasting;
}

-- by some, all made, and then by others
pub made_both : (rows mid : Rows) (new : List (Option Words)) (fuse left last : Option ℕ) (ss ts : List AreaStep) (made : Bool) → MakesAll rows (all_settled mid) fuse left ss true
    → MakesAll mid new left last ts made → MakesAll rows new fuse last (ss ++ ts) made
made_both rows mid new fuse left last ss ts made a b =
    let over : left ≡ burnt fuse (length ss) = a.fuse_left in
    record {
      words = b.words ∙ ap (λ (ws : List (Option Words)). after_all ws (front left ts)) a.words ∙ sym (after_append (front fuse ss) (front left ts) (all_settled rows))
          ∙ ap (λ (f : Option ℕ). after_all (all_settled rows) (front fuse ss ++ front f ts)) over
          ∙ ap (after_all (all_settled rows)) (sym (front_both fuse ss ts a.all_made));
      fuse_left = b.fuse_left ∙ ap (λ (f : Option ℕ). burnt f (length ts)) over ∙ burnt_more fuse ss ts;
      all_made = b.all_made ∙ ap (λ (f : Option ℕ). lasts f (length ts)) over ∙ lasts_more fuse ss ts a.all_made;
    }

-- not all of some were made, and so none of those behind them
pub made_cut : (rows : Rows) (new : List (Option Words)) (fuse left : Option ℕ) (ss ts : List AreaStep) → MakesAll rows new fuse left ss false → MakesAll rows new fuse left (ss ++ ts) false
made_cut rows new fuse left ss ts a = record {
  words = a.words ∙ ap (after_all (all_settled rows)) (sym (front_first fuse ss ts a.all_made));
  fuse_left = a.fuse_left ∙ burnt_short fuse ss ts a.all_made;
  all_made = lasts_short fuse ss ts a.all_made;
}

-- ---- lists of changes

pub rows_both : (xs ys : List Change) (rows : Rows) → all_rows rows (xs ++ ys) ≡ all_rows (all_rows rows xs) ys
unfolding all_rows
rows_both [] ys rows = refl
rows_both (c ∷ xs) ys rows = rows_both xs ys (rows_with rows c)

pub steps_both_in : (xs ys : List Change) (rows : Rows) → all_steps rows (xs ++ ys) ≡ all_steps rows xs ++ all_steps (all_rows rows xs) ys
unfolding all_rows all_steps
steps_both_in [] ys rows = refl
steps_both_in (c ∷ xs) ys rows =
    ap (λ (ss : List AreaStep). steps_of rows c ++ ss) (steps_both_in xs ys (rows_with rows c))
    ∙ sym (append_assoc (steps_of rows c) (all_steps (rows_with rows c) xs) (all_steps (all_rows (rows_with rows c) xs) ys))

-- ---- areas that are held

words_held : (area : Area) → IsHeld area → words_of area ≡ option_map settled (option_map (λ w. w.kept) (words_of area))
words_held Absent h = refl
words_held (Refused r) h = ap (λ (w : Words). Some w) h.words
words_held (Ready a) h = ap (λ (s : AreaState). Some s.words) h.shown

pub held_words : (areas : List Area) → AreHeld areas → map words_of areas ≡ all_settled (rows_of areas)
held_words [] h = refl
held_words (a ∷ areas) h =
    ap (λ (w : Option Words). w ∷ map words_of areas) (words_held a (All-head IsHeld a areas h))
    ∙ ap (λ (ws : List (Option Words)). option_map settled (option_map (λ w. w.kept) (words_of a)) ∷ ws) (held_words areas (All-tail IsHeld a areas h))

row_left : (area : Area) (row : Option (List ℕ)) → IsHeld area → IsLeftOf (words_of area) row → row ≡ option_map (λ w. w.kept) (words_of area)
row_left Absent row h left = left
row_left (Refused r) row h (values, is, left) = is ∙ ap (λ (v : List ℕ). Some v) (left_kept r.words values h.words left)
row_left (Ready a) row h (values, is, left) = is ∙ ap (λ (v : List ℕ). Some v) (left_kept a.words values (ap (λ (s : AreaState). s.words) h.shown) left)

-- nothing else is left of them than their kept words
pub rows_left : (areas : List Area) (rows : Rows) → AreHeld areas → AreLeft areas rows → rows ≡ rows_of areas
rows_left [] rows h left = left
rows_left (a ∷ areas) rows h (first, rest, is, here, more) =
    is ∙ ap (λ (r : Option (List ℕ)). r ∷ rest) (row_left a first (All-head IsHeld a areas h) here)
    ∙ ap (λ (rs : Rows). option_map (λ w. w.kept) (words_of a) ∷ rs) (rows_left areas rest (All-tail IsHeld a areas h) more)
