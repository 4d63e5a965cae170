-- Label changes with other steps between them: areas become what the label steps alone make of them.
use Rattle.std.proofs.Common.{◌≡◌, ℕ, ◌+◌, ◌-◌, ◌<◌, ◌≤◌, Bool, true, false, List, [], ◌∷◌, ◌++◌, length, take, map, Option, Some, None, refl, sym, ap, ◌∙◌, subst, arith, inl, inr, append-nil}
use Rattle.std.specs.Prelude.{nat_le, ◌==◌}
use Rattle.std.proofs.lemmas.Bool.{le-leb, lt-leb, leb-true}
use Rattle.std.proofs.lemmas.Bool.Decides.{nat_tests}
use Rattle.std.proofs.lemmas.List.{take-append-le, take_all}
use Rattle.cut_words.specs.Fuses.{burnt, lasts}
use Rattle.arena_open.proofs.ChainAnswering.{burnt_both}
use Rattle.label_codec.specs.declared.label.Label.{Label}
use Rattle.label_area.specs.Change.{count_of_steps}
use Rattle.namespace_areas.specs.declared.area.Area.{Area}
use Rattle.namespace_map.specs.Areas.{Area as SeenArea, Change, IsLeftBy, after_steps, all_changed, area_at, block_of, steps_for, steps_of_all}
use Rattle.namespace_areas.specs.Seen.{AreLeft, areas_seen, areas_shown, words_of}
use Rattle.namespace_areas.specs.Steps.{after_all, all_rows, all_settled, all_steps, rows_of, words_after}
use Rattle.namespace_areas.specs.Went.{Went}
use Rattle.namespace_areas.proofs.Seen.{left_shown}
use Rattle.namespace_areas.proofs.Steps.{steps_both_in}
use Rattle.namespace_areas.proofs.Went.{after_both, went_both}
use Rattle.shell_changes.specs.Work.{label_part}

-- ---- fuses

-- a fuse lasts for two counts if it lasts for one, and what is left lasts for the other
pub lasts_both : (fuse : Option ℕ) (a b : ℕ) → lasts fuse a ≡ true → lasts fuse (a + b) ≡ lasts (burnt fuse a) b
lasts_both None a b long = refl
lasts_both (Some n) a b long = by a b n long
  where
    by : (a b n : ℕ) → nat_le a n ≡ true → nat_le (a + b) n ≡ nat_le b (n - a)
    by a b n long = grind (arith, nat_tests)

pub short_first : (fuse : Option ℕ) (a b : ℕ) → lasts fuse a ≡ false → lasts fuse (a + b) ≡ false
short_first None a b short = absurd (let e = short in cc)
short_first (Some n) a b short = by a b n short
  where
    by : (a b n : ℕ) → nat_le a n ≡ false → nat_le (a + b) n ≡ false
    by a b n short = grind (arith, nat_tests)

-- three counts, of which it lasts for the first alone
pub lasts_two : (fuse : Option ℕ) (a b c : ℕ) → lasts fuse a ≡ true → lasts (burnt fuse a) b ≡ false → lasts fuse (a + (b + c)) ≡ false
lasts_two fuse a b c one short = lasts_both fuse a (b + c) one ∙ short_first (burnt fuse a) b c short

-- three counts, of which it lasts for two
pub lasts_three : (fuse : Option ℕ) (a b c : ℕ) → lasts fuse a ≡ true → lasts (burnt fuse a) b ≡ true → lasts fuse (a + b + c) ≡ lasts (burnt (burnt fuse a) b) c
lasts_three fuse a b c one two = lasts_both fuse (a + b) c (lasts_both fuse a b one ∙ two) ∙ ap (λ (f : Option ℕ). lasts f c) (sym (burnt_both fuse a b))

-- ---- changes that are all made, and none

-- after all steps all are made
pub after_enough : (xs : List Change) (os : List (Option SeenArea)) (n : ℕ) (stays : Bool) → steps_of_all os xs ≤ n → after_steps os xs n stays ≡ all_changed os xs
unfolding after_steps
after_enough xs os n stays le = ap (λ (cs : List Change). after_steps os cs n stays) (sym (append-nil xs)) ∙ after_both xs [] os n stays le

-- a change takes two steps at least
steps_some : (size : ℕ) (label : Option Label) → 2 ≤ count_of_steps size label
steps_some size None = omega arith
steps_some size (Some label) = omega arith

-- without a step none is made, whatever the chooser says
pub after_none : (xs : List Change) (os : List (Option SeenArea)) (n : ℕ) (stays : Bool) → n ≡ 0 → after_steps os xs n stays ≡ os
unfolding after_steps
after_none [] os n stays none = refl
after_none (c ∷ xs) os n stays none =
    let some : 2 ≤ steps_for os c = steps_some (block_of (area_at os c.number)) c.label in
    rw (lt-leb (steps_for os c) n (omega (arith, some, none)))
    (rw (not_last (steps_for os c) n some none) refl)
  where
    not_last : (k n : ℕ) → 2 ≤ k → n ≡ 0 → (n + 1 == k) ≡ false
    not_last k n some none = grind (arith, nat_tests)

-- ---- a fuse that lasts for all steps of recovery

module _ (old mid : List Area) (n : ℕ) (left : Option ℕ) (xs : List Change) (w : Went old mid (Some n) left xs true) where
  count_is : length (all_steps (rows_of old) xs) ≡ steps_of_all (areas_seen old) xs
  count_is =
      let a : length (all_steps (rows_of old) xs) ≤ n = leb-true (length (all_steps (rows_of old) xs)) n (sym w.makes.all_made) in
      let b : steps_of_all (areas_seen old) xs ≤ n = leb-true (steps_of_all (areas_seen old) xs) n (sym w.made) in
      let same : Some (n - steps_of_all (areas_seen old) xs) ≡ Some (n - length (all_steps (rows_of old) xs)) = sym w.left_is ∙ w.makes.fuse_left in
      let e : n - steps_of_all (areas_seen old) xs ≡ n - length (all_steps (rows_of old) xs) = cc in
      omega (arith, a, b, e)

  all_made : (m : ℕ) → steps_of_all (areas_seen old) xs ≤ m → take n (all_steps (rows_of old) xs) ≡ take m (all_steps (rows_of old) xs)
  all_made m le =
      let is = count_is in
      take_all n (all_steps (rows_of old) xs) (leb-true (length (all_steps (rows_of old) xs)) n (sym w.makes.all_made)) ∙ sym (take_all m (all_steps (rows_of old) xs) (omega (arith, is, le)))

  -- with another that lasts for them
  pub refuel : (m : ℕ) → steps_of_all (areas_seen old) xs ≤ m → Went old mid (Some m) (Some (m - steps_of_all (areas_seen old) xs)) xs true
  refuel m le =
      let is = count_is in
      record {
        made = sym (le-leb (steps_of_all (areas_seen old) xs) m le);
        left_is = refl;
        makes = record {
          words = w.makes.words ∙ ap (after_all (all_settled (rows_of old))) (all_made m le);
          fuse_left = ap (λ (k : ℕ). Some (m - k)) (sym is);
          all_made = sym (le-leb (length (all_steps (rows_of old) xs)) m (omega (arith, is, le)));
        };
        rows = w.rows;
        held = w.held;
        done = w.done;
        cut = λ k at rows left_of.
            let e : m ≡ k = (let f = at in cc) in
            inl (left_shown mid rows (w.held refl) left_of ∙ w.done refl ∙ sym (after_enough xs (areas_seen old) k true (omega (arith, le, e))));
        beside = w.beside;
        sizes = w.sizes;
      }

  -- ---- other changes behind them, of which none is begun

  module _ (ys : List Change) where
    pub words_between : map words_of mid ≡ words_after (rows_of old) (xs ++ ys) (steps_of_all (areas_seen old) xs)
    words_between =
        let is = count_is in
        let le : steps_of_all (areas_seen old) xs ≤ steps_of_all (areas_seen old) xs = omega arith in
        w.makes.words ∙ ap (after_all (all_settled (rows_of old)))
        (all_made (steps_of_all (areas_seen old) xs) le
        ∙ sym (take-append-le (steps_of_all (areas_seen old) xs) (all_steps (rows_of old) xs) (all_steps (all_rows (rows_of old) xs) ys) (omega (arith, is)))
        ∙ ap (take (steps_of_all (areas_seen old) xs)) (sym (steps_both_in xs ys (rows_of old))))

    pub left_between : (rows : List (Option (List ℕ))) → AreLeft mid rows → IsLeftBy (areas_seen old) (xs ++ ys) (steps_of_all (areas_seen old) xs) (areas_shown rows)
    left_between rows left_of =
        inr (left_shown mid rows (w.held refl) left_of ∙ w.done refl
        ∙ sym (after_none ys (all_changed (areas_seen old) xs) (steps_of_all (areas_seen old) xs - steps_of_all (areas_seen old) xs) false (omega arith))
        ∙ sym (after_both xs ys (areas_seen old) (steps_of_all (areas_seen old) xs) false (omega arith)))

-- ---- both lists, with other steps between them

pub format_left : (first format n : ℕ) → first ≤ n → n < first + format → first + (n - first - format) ≡ first
format_left first format n le lt = omega (arith, le, lt)

pub rest_left : (first k : ℕ) → first + k - first ≡ k
rest_left first k = omega arith

pub under_sum : (first k : ℕ) → first ≤ first + k
under_sum first k = omega arith

pub under_first : (first format n : ℕ) → first + format ≤ n → first ≤ n
under_first first format n le = omega (arith, le)

pub some_format : (first format n : ℕ) → first ≤ n → n < first + format → 1 ≤ format
some_format first format n le lt = omega (arith, le, lt)

pub none_left : (k : ℕ) → k - k ≡ 0
none_left k = omega arith

pub label_long : (first format n : ℕ) → nat_le first n ≡ true → label_part first format n ≡ first + (n - first - format)
label_long first format n long = rw long refl

pub label_short : (first format n : ℕ) → nat_le first n ≡ false → label_part first format n ≡ n
label_short first format n short = rw short refl

-- the fuse of the label steps alone
abbrev pub around : ℕ → ℕ → Option ℕ → Option ℕ
around first format None = None
around first format (Some n) = Some (label_part first format n)

pub went_around : (old mid new : List Area) (fuse left last : Option ℕ) (xs ys : List Change) (format : ℕ) (whole : Bool) → Went old mid fuse left xs true → Went mid new (burnt left format) last ys whole
    → Went old new (around (steps_of_all (areas_seen old) xs) format fuse) last (xs ++ ys) whole
went_around old mid new None left last xs ys format whole one two =
    let is : burnt left format ≡ left = ap (λ (f : Option ℕ). burnt f format) one.left_is ∙ sym one.left_is in
    went_both old mid new None left last xs ys whole one (subst (λ (f : Option ℕ). Went mid new f last ys whole) is two)
went_around old mid new (Some n) left last xs ys format whole one two =
    by (steps_of_all (areas_seen old) xs) (n - steps_of_all (areas_seen old) xs - format) refl refl
  where
    by : (a rest : ℕ) → steps_of_all (areas_seen old) xs ≡ a → n - steps_of_all (areas_seen old) xs - format ≡ rest → Went old new (around (steps_of_all (areas_seen old) xs) format (Some n)) last (xs ++ ys) whole
    by a rest is_a is_rest =
        let enough : steps_of_all (areas_seen old) xs ≤ a + rest = omega (arith, is_a) in
        let left_over : n - steps_of_all (areas_seen old) xs - format ≡ a + rest - steps_of_all (areas_seen old) xs = omega (arith, is_a, is_rest) in
        let is : burnt left format ≡ Some (a + rest - steps_of_all (areas_seen old) xs) = ap (λ (f : Option ℕ). burnt f format) one.left_is ∙ ap (λ (m : ℕ). Some m) left_over in
        let all = went_both old mid new (Some (a + rest)) (Some (a + rest - steps_of_all (areas_seen old) xs)) last xs ys whole (refuel old mid n left xs one (a + rest) enough) (subst (λ (f : Option ℕ). Went mid new f last ys whole) is two) in
        let sum : a + rest ≡ label_part (steps_of_all (areas_seen old) xs) format n = ap (λ (x : ℕ). x + rest) (sym is_a) ∙ ap (λ (y : ℕ). steps_of_all (areas_seen old) xs + y) (sym is_rest) ∙ sym (label_long (steps_of_all (areas_seen old) xs) format n (sym one.made)) in
        subst (λ (m : ℕ). Went old new (Some m) last (xs ++ ys) whole) sum all
