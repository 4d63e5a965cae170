-- What became of areas by no changes, by one, and by lists of changes one after another.
use Rattle.std.proofs.Common.{◌≡◌, ℕ, zero, suc, ◌+◌, ◌-◌, ◌<◌, ◌≤◌, Bool, true, false, List, [], ◌∷◌, ◌++◌, length, get_or, map, Option, Some, None, refl, sym, ap, ◌∙◌, subst, arith, inl, inr}
use Rattle.std.specs.Prelude.{nat_le, ◌==◌, slice_get, slice_set, unwrap_or, IsSome}
use Rattle.std.specs.Option.{option_map}
use Rattle.std.proofs.lemmas.Bool.{cases_Bool, cases_lt, false≢true, le-leb, lt-leb, leb-true, leb-false, eq-eqb}
use Rattle.std.proofs.lemmas.Option.{none-some, slice_get-map, get_or_from_slice_get}
use Rattle.std.proofs.lemmas.List.{map-set, set-get_or, length-map, take_all}
use Rattle.std.proofs.lemmas.List.Elements.{All-head, All-tail, All-set}
use Rattle.std.proofs.Math.Seq.{map-set_same}
use Rattle.cut_words.specs.Words.{IsLeft, Step, Words, after, settled}
use Rattle.cut_words.specs.Fuses.{allowed, burnt, lasts}
use Rattle.label_codec.specs.declared.label.Label.{Label}
use Rattle.label_area.specs.Change.{count_of_steps}
use Rattle.label_area.specs.State.{AreaState}
use Rattle.namespace_areas.specs.declared.area.Area.{Area}
use Rattle.namespace_areas.specs.declared.area.Area.TheVariants.{Absent, Refused, Ready}
use Rattle.namespace_map.specs.Areas.{Area as SeenArea, Change, area_at, block_of, changed_area, changed_areas, all_changed, steps_for, steps_of_all, after_steps, IsLeftBy}
use Rattle.namespace_areas.specs.Seen.{IsHeld, AreHeld, ready_seen, area_seen, areas_seen, words_of, AreLeft, area_shown, areas_shown}
use Rattle.namespace_areas.specs.Steps.{Rows, AreaStep, MakesAll, after_all, all_rows, all_settled, all_steps, area_steps, front, in_area, row_at, row_after, row_steps, rows_of}
use Rattle.namespace_areas.specs.Went.{area_after, ShowsCut, AreaWent, unready, size_of, Went}
use Rattle.namespace_areas.proofs.Seen.{left_shown, held_shown}
use Rattle.namespace_areas.proofs.Steps.{after_one, allowed_front, front_map, held_words, made_both, made_cut, made_none, rows_both, steps_both_in}

-- ---- fuses

abbrev Seens : Type 0
Seens = List (Option SeenArea)

lasts_none : (fuse : Option ℕ) → true ≡ lasts fuse 0
lasts_none None = refl
lasts_none (Some n) = sym (le-leb 0 n (omega arith))

burnt_none : (fuse : Option ℕ) → fuse ≡ burnt fuse 0
burnt_none None = refl
burnt_none (Some n) = ap Some (omega arith)

burnt_both : (fuse : Option ℕ) (s t : ℕ) → burnt (burnt fuse s) t ≡ burnt fuse (s + t)
burnt_both None s t = refl
burnt_both (Some n) s t = ap Some (omega arith)

same_test : (a b c d : ℕ) → (a ≤ b → c ≤ d) → (b < a → d < c) → nat_le a b ≡ nat_le c d
same_test a b c d up down =
    elim (cases_lt b a) [
      | inl lt ↦ lt-leb a b lt ∙ sym (lt-leb c d (down lt))
      | inr le ↦ le-leb a b le ∙ sym (le-leb c d (up le))
    ]

lasts_both : (fuse : Option ℕ) (s t : ℕ) → lasts fuse s ≡ true → lasts (burnt fuse s) t ≡ lasts fuse (s + t)
lasts_both None s t all = refl
lasts_both (Some n) s t all = let le : s ≤ n = leb-true s n all in same_test t (n - s) (s + t) n (λ h. omega arith) (λ h. omega arith)

-- ---- lists of changes one after another

pub changed_both : (xs ys : List Change) (os : Seens) → all_changed os (xs ++ ys) ≡ all_changed (all_changed os xs) ys
unfolding all_changed
changed_both [] ys os = refl
changed_both (c ∷ xs) ys os = changed_both xs ys (changed_areas os c)

pub steps_both : (xs ys : List Change) (os : Seens) → steps_of_all os (xs ++ ys) ≡ steps_of_all os xs + steps_of_all (all_changed os xs) ys
unfolding all_changed steps_of_all
steps_both [] ys os = omega arith
steps_both (c ∷ xs) ys os = let rest = steps_both xs ys (changed_areas os c) in omega arith

-- a cut in the second
pub after_both : (xs ys : List Change) (os : Seens) (n : ℕ) (stays : Bool) → steps_of_all os xs ≤ n
    → after_steps os (xs ++ ys) n stays ≡ after_steps (all_changed os xs) ys (n - steps_of_all os xs) stays
unfolding all_changed steps_of_all after_steps
after_both [] ys os n stays le = ap (λ (k : ℕ). after_steps os ys k stays) (omega arith)
after_both (c ∷ xs) ys os n stays le =
    rw (le-leb (steps_for os c) n (omega arith))
    (after_both xs ys (changed_areas os c) (n - steps_for os c) stays (omega arith)
    ∙ ap (λ (k : ℕ). after_steps (all_changed (changed_areas os c) xs) ys k stays) (omega arith))

-- a cut in the first
pub after_first : (xs ys : List Change) (os : Seens) (n : ℕ) (stays : Bool) → n < steps_of_all os xs → after_steps os (xs ++ ys) n stays ≡ after_steps os xs n stays
unfolding steps_of_all after_steps
after_first [] ys os n stays lt = absurd (omega arith)
after_first (c ∷ xs) ys os n stays lt =
    elim (cases_Bool (nat_le (steps_for os c) n)) [
      | inl it ↦
          let le : steps_for os c ≤ n = leb-true (steps_for os c) n it in
          rw it (after_first xs ys (changed_areas os c) (n - steps_for os c) stays (omega arith))
      | inr not_it ↦ rw not_it refl
    ]

-- ---- a cut of one change

one_with_all : (os : Seens) (c : Change) (n : ℕ) (stays : Bool) → steps_for os c ≤ n → after_steps os (c ∷ []) n stays ≡ changed_areas os c
unfolding after_steps
one_with_all os c n stays le = rw (le-leb (steps_for os c) n le) refl

one_stays : (os : Seens) (c : Change) (n : ℕ) → n + 1 ≡ steps_for os c → after_steps os (c ∷ []) n true ≡ changed_areas os c
unfolding after_steps
one_stays os c n e = rw (lt-leb (steps_for os c) n (omega arith), eq-eqb (n + 1) (steps_for os c) e) refl

one_goes : (os : Seens) (c : Change) (n : ℕ) → n < steps_for os c → after_steps os (c ∷ []) n false ≡ os
unfolding after_steps
one_goes os c n lt =
    rw (lt-leb (steps_for os c) n lt)
    (elim (cases_Bool (n + 1 == steps_for os c)) [
      | inl it ↦ rw it refl
      | inr not_it ↦ rw not_it refl
    ])

-- ---- one area among the others

seen_at : (areas : List Area) (m : ℕ) (a : AreaState) → slice_get areas m ≡ Some (Ready a) → area_at (areas_seen areas) m ≡ Some (ready_seen a)
seen_at areas m a is = ap (λ (o : Option (Option SeenArea)). unwrap_or o None) (slice_get-map area_seen areas m ∙ ap (option_map area_seen) is)

-- what a crash leaves if one area changed and the others are held
left_with : (areas : List Area) (m : ℕ) (old new : AreaState) (rows : List (Option (List ℕ))) → AreHeld areas → slice_get areas m ≡ Some (Ready old)
    → AreLeft (slice_set areas m (Ready new)) rows → (values : List ℕ) × IsLeft new.words values × (areas_shown rows ≡ slice_set (areas_seen areas) m (area_shown (Some values)))
left_with [] m old new rows h is left = absurd (none-some (Ready old) is)
left_with (a ∷ areas) zero old new rows h is (first, rest, split, (values, row, here), more) = (
  values,
  here,
  ap areas_shown split ∙ ap (λ (o : Option (List ℕ)). area_shown o ∷ areas_shown rest) row
      ∙ ap (λ (xs : Seens). area_shown (Some values) ∷ xs) (left_shown areas rest (All-tail IsHeld a areas h) more),
)
left_with (a ∷ areas) (suc m) old new rows h is (first, rest, split, here, more) =
    let (values, left, shown) = left_with areas m old new rest (All-tail IsHeld a areas h) is more in (
      values,
      left,
      ap areas_shown split ∙ ap (λ (o : Option SeenArea). o ∷ areas_shown rest) (held_shown a first (All-head IsHeld a areas h) here)
          ∙ ap (λ (xs : Seens). area_seen a ∷ xs) shown,
    )

held_settled : (areas : List Area) → AreHeld areas → (m : ℕ) (a : AreaState) → slice_get areas m ≡ Some (Ready a) → a.words ≡ settled a.words.kept
held_settled [] h m a at = absurd (none-some (Ready a) at)
held_settled (x ∷ areas) h zero a at =
    let here : x ≡ Ready a = cc in
    ap (λ (s : AreaState). s.words) (subst IsHeld here (All-head IsHeld x areas h)).shown
held_settled (x ∷ areas) h (suc m) a at = held_settled areas (All-tail IsHeld x areas h) m a at

allowed_all : (fuse : Option ℕ) (steps : List Step) → true ≡ lasts fuse (length steps) → allowed fuse steps ≡ steps
allowed_all None steps all = refl
allowed_all (Some n) steps all = take_all n steps (leb-true (length steps) n (sym all))

append_nil : {A : Type 0} (xs : List A) → xs ++ [] ≡ xs
append_nil [] = refl
append_nil (x ∷ xs) = ap (λ ys. x ∷ ys) (append_nil xs)

same_with : {B : Type 0} (f : Area → B) (areas : List Area) (m : ℕ) (a b : Area) → slice_get areas m ≡ Some a → f b ≡ f a → map f (slice_set areas m b) ≡ map f areas
same_with f areas m a b is e = map-set_same f areas m b a (e ∙ ap f (sym (get_or_from_slice_get areas m a a is)))

module _ (areas : List Area) (held : AreHeld areas) (m : ℕ) (uuid : List ℕ) (label : Option Label) (old new : AreaState) (fuse left : Option ℕ) (made : Bool)
    (at : slice_get areas m ≡ Some (Ready old)) (h : AreaWent old new fuse left uuid label made) where
  abbrev c : Change
  c = record { number = m; uuid = uuid; label = label }

  abbrev os : Seens
  os = areas_seen areas

  abbrev then : SeenArea
  then = area_after (ready_seen old) uuid label

  steps_is : steps_for os c ≡ count_of_steps old.block.size label
  steps_is = ap (λ (o : Option SeenArea). count_of_steps (block_of o) label) (seen_at areas m old at)

  all_is : steps_of_all os (c ∷ []) ≡ count_of_steps old.block.size label
  unfolding steps_of_all
  all_is = omega (arith, steps_is)

  changed_is : changed_areas os c ≡ slice_set os m (Some then)
  changed_is = ap (λ (o : Option SeenArea). slice_set os m (changed_area o c)) (seen_at areas m old at)

  same_is : slice_set os m (Some (ready_seen old)) ≡ os
  same_is =
      let here : get_or os m None ≡ Some (ready_seen old) = get_or_from_slice_get os m (Some (ready_seen old)) None (slice_get-map area_seen areas m ∙ ap (option_map area_seen) at) in
      ap (slice_set os m) (sym here) ∙ set-get_or os m None

  done_is : areas_seen (slice_set areas m (Ready new)) ≡ slice_set os m (Some (ready_seen new))
  done_is = map-set area_seen areas m (Ready new)

  cut_is : (n : ℕ) (values : List ℕ) (shown : Seens) → ShowsCut (ready_seen old) then (count_of_steps old.block.size label) n values
      → shown ≡ slice_set os m (area_shown (Some values)) → IsLeftBy os (c ∷ []) n shown
  cut_is n values shown cut is =
      let before : area_shown (Some values) ≡ Some (ready_seen old) → shown ≡ os = λ e. is ∙ ap (slice_set os m) e ∙ same_is in
      let after : area_shown (Some values) ≡ Some then → shown ≡ changed_areas os c = λ e. is ∙ ap (slice_set os m) e ∙ sym changed_is in
      elim (cases_lt n (count_of_steps old.block.size label)) [
        | inr all ↦ inl (after (cut.after all) ∙ sym (one_with_all os c n true (omega (arith, steps_is))))
        | inl short ↦ elim (cases_lt (n + 1) (count_of_steps old.block.size label)) [
          | inl lt ↦ inr (before (cut.before lt) ∙ sym (one_goes os c n (omega (arith, steps_is))))
          | inr ge ↦
              let last : n + 1 ≡ count_of_steps old.block.size label = omega arith in
              elim (cut.either last) [
                | inl e ↦ inr (before e ∙ sym (one_goes os c n (omega (arith, steps_is))))
                | inr e ↦ inl (after e ∙ sym (one_stays os c n (last ∙ sym steps_is)))
              ]
        ]
      ]

  -- ---- its words

  abbrev rows : Rows
  rows = rows_of areas

  abbrev own : List Step
  own = area_steps old.words.kept uuid label

  row_is : row_at rows m ≡ Some old.words.kept
  row_is = get_or_from_slice_get rows m (Some old.words.kept) None (slice_get-map (λ area. option_map (λ w. w.kept) (words_of area)) areas m ∙ ap (option_map (λ area. option_map (λ w. w.kept) (words_of area))) at)

  steps_are : all_steps rows (c ∷ []) ≡ map (in_area m) own
  unfolding all_steps
  steps_are = append_nil (map (in_area m) (row_steps (row_at rows m) c)) ∙ ap (λ (row : Option (List ℕ)). map (in_area m) (row_steps row c)) row_is

  rows_are : all_rows rows (c ∷ []) ≡ slice_set rows m (Some (after (settled old.words.kept) own).kept)
  unfolding all_rows
  rows_are = ap (λ (row : Option (List ℕ)). slice_set rows m (row_after row c)) row_is

  old_settled : old.words ≡ settled old.words.kept
  old_settled = held_settled areas held m old at

  new_is : new.words ≡ after (settled old.words.kept) (allowed fuse own)
  new_is = h.makes.words ∙ ap (λ (w : Words). after w (allowed fuse own)) old_settled

  words_are : map words_of (slice_set areas m (Ready new)) ≡ after_all (all_settled rows) (front fuse (all_steps rows (c ∷ [])))
  words_are =
      let there : slice_get (map words_of areas) m ≡ Some (Some old.words) = slice_get-map words_of areas m ∙ ap (option_map words_of) at in
      let first : after_all (map words_of areas) (map (in_area m) (allowed fuse own)) ≡ slice_set (map words_of areas) m (Some (after old.words (allowed fuse own))) =
      after_one m (allowed fuse own) (map words_of areas) old.words there in
      map-set words_of areas m (Ready new) ∙ ap (λ (w : Words). slice_set (map words_of areas) m (Some w)) h.makes.words ∙ sym first
      ∙ ap (λ (ws : List (Option Words)). after_all ws (map (in_area m) (allowed fuse own))) (held_words areas held)
      ∙ ap (after_all (all_settled rows)) (sym (front_map (in_area m) fuse own (allowed fuse own) (allowed_front fuse own)) ∙ ap (front fuse) (sym steps_are))

  made_all : MakesAll rows (map words_of (slice_set areas m (Ready new))) fuse left (all_steps rows (c ∷ [])) made
  made_all =
      let count : length (all_steps rows (c ∷ [])) ≡ length own = ap length steps_are ∙ length-map own (in_area m) in
      record { words = words_are; fuse_left = h.makes.fuse_left ∙ ap (burnt fuse) (sym count); all_made = h.makes.all_made ∙ ap (lasts fuse) (sym count) }

  rows_then : made ≡ true → rows_of (slice_set areas m (Ready new)) ≡ all_rows rows (c ∷ [])
  rows_then e =
      let all : allowed fuse own ≡ own = allowed_all fuse own (sym e ∙ h.makes.all_made) in
      map-set (λ area. option_map (λ w. w.kept) (words_of area)) areas m (Ready new)
      ∙ ap (λ (w : Words). slice_set rows m (Some w.kept)) (new_is ∙ ap (after (settled old.words.kept)) all) ∙ sym rows_are

  -- one change
  pub went_one : Went areas (slice_set areas m (Ready new)) fuse left (c ∷ []) made
  unfolding all_changed
  went_one = record {
    made = h.made_is ∙ ap (lasts fuse) (sym all_is);
    left_is = h.left_is ∙ ap (burnt fuse) (sym all_is);
    makes = made_all;
    rows = rows_then;
    held = λ e. All-set IsHeld areas m (Ready new) (h.ready e) held;
    done = λ e. done_is ∙ ap (λ (s : SeenArea). slice_set os m (Some s)) (h.done e) ∙ sym changed_is;
    cut = λ n is rows left. let (values, here, shown) = left_with areas m old new rows held at left in cut_is n values (areas_shown rows) (h.cut n is values here) shown;
    beside = same_with unready areas m (Ready old) (Ready new) at refl;
    sizes = same_with size_of areas m (Ready old) (Ready new) at h.size;
  }

-- no changes
pub went_none : (areas : List Area) (fuse : Option ℕ) → AreHeld areas → Went areas areas fuse fuse [] true
unfolding all_changed steps_of_all after_steps all_steps all_rows
went_none areas fuse held = record {
  made = lasts_none fuse;
  left_is = burnt_none fuse;
  makes = subst (λ (ws : List (Option Words)). MakesAll (rows_of areas) ws fuse fuse [] true) (sym (held_words areas held)) (made_none (rows_of areas) fuse (lasts_none fuse) (burnt_none fuse));
  rows = λ e. refl;
  held = λ e. held;
  done = λ e. refl;
  cut = λ n is rows left. inl (left_shown areas rows held left);
  beside = refl;
  sizes = refl;
}

-- the words by some changes, all made, and then by others
made_then : (old mid new : List Area) (fuse left last : Option ℕ) (xs ys : List Change) (whole : Bool) → MakesAll (rows_of old) (map words_of mid) fuse left (all_steps (rows_of old) xs) true → AreHeld mid
    → rows_of mid ≡ all_rows (rows_of old) xs → MakesAll (rows_of mid) (map words_of new) left last (all_steps (rows_of mid) ys) whole
    → MakesAll (rows_of old) (map words_of new) fuse last (all_steps (rows_of old) (xs ++ ys)) whole
made_then old mid new fuse left last xs ys whole first held is second =
    let first' : MakesAll (rows_of old) (all_settled (rows_of mid)) fuse left (all_steps (rows_of old) xs) true =
    subst (λ (ws : List (Option Words)). MakesAll (rows_of old) ws fuse left (all_steps (rows_of old) xs) true) (held_words mid held) first in
    let both = made_both (rows_of old) (rows_of mid) (map words_of new) fuse left last (all_steps (rows_of old) xs) (all_steps (rows_of mid) ys) whole first' second in
    subst (λ (ss : List AreaStep). MakesAll (rows_of old) (map words_of new) fuse last ss whole)
    (ap (λ (rs : Rows). all_steps (rows_of old) xs ++ all_steps rs ys) is ∙ sym (steps_both_in xs ys (rows_of old))) both

-- some changes, all made, and then others
pub went_both : (old mid new : List Area) (fuse left last : Option ℕ) (xs ys : List Change) (whole : Bool) → Went old mid fuse left xs true → Went mid new left last ys whole
    → Went old new fuse last (xs ++ ys) whole
went_both old mid new fuse left last xs ys whole a b =
    let os : Seens = areas_seen old in
    let s : ℕ = steps_of_all os xs in
    let mid_is : areas_seen mid ≡ all_changed os xs = a.done refl in
    let both : steps_of_all os (xs ++ ys) ≡ s + steps_of_all (areas_seen mid) ys = steps_both xs ys os ∙ ap (λ (x : Seens). s + steps_of_all x ys) (sym mid_is) in
    let t : ℕ = steps_of_all (areas_seen mid) ys in
    record {
      made = b.made ∙ ap (λ (f : Option ℕ). lasts f t) a.left_is ∙ lasts_both fuse s t (sym a.made) ∙ ap (lasts fuse) (sym both);
      left_is = b.left_is ∙ ap (λ (f : Option ℕ). burnt f t) a.left_is ∙ burnt_both fuse s t ∙ ap (burnt fuse) (sym both);
      makes = made_then old mid new fuse left last xs ys whole a.makes (a.held refl) (a.rows refl) b.makes;
      rows = λ e. b.rows e ∙ ap (λ (rs : Rows). all_rows rs ys) (a.rows refl) ∙ sym (rows_both xs ys (rows_of old));
      held = b.held;
      done = λ e. b.done e ∙ ap (λ (x : Seens). all_changed x ys) mid_is ∙ sym (changed_both xs ys os);
      cut = λ n is rows row_left.
          let le : s ≤ n = leb-true s n (ap (λ (f : Option ℕ). lasts f s) (sym is) ∙ sym a.made) in
          let rest : left ≡ Some (n - s) = a.left_is ∙ ap (λ (f : Option ℕ). burnt f s) is in
          let as_both : (stays : Bool) → after_steps (areas_seen mid) ys (n - s) stays ≡ after_steps os (xs ++ ys) n stays =
          λ stays. ap (λ (x : Seens). after_steps x ys (n - s) stays) mid_is ∙ sym (after_both xs ys os n stays le) in
          elim (b.cut (n - s) rest rows row_left) [ inl e ↦ inl (e ∙ as_both true) | inr e ↦ inr (e ∙ as_both false) ];
      beside = b.beside ∙ a.beside;
      sizes = b.sizes ∙ a.sizes;
    }

-- power was cut in some changes, and so the others never began
cut_steps : (fuse left : Option ℕ) (s t : ℕ) → false ≡ lasts fuse s → left ≡ burnt fuse s → (false ≡ lasts fuse (s + t)) × (left ≡ burnt fuse (s + t))
cut_steps None left s t short is = absurd (false≢true short)
cut_steps (Some n) left s t short is =
    let lt : n < s = leb-false s n (sym short) in
    (sym (lt-leb (s + t) n (omega arith)), is ∙ ap Some (omega arith))

pub went_cut : (old new : List Area) (fuse left : Option ℕ) (xs ys : List Change) → Went old new fuse left xs false → Went old new fuse left (xs ++ ys) false
went_cut old new fuse left xs ys a =
    let os : Seens = areas_seen old in
    let s : ℕ = steps_of_all os xs in
    let t : ℕ = steps_of_all (all_changed os xs) ys in
    let short = cut_steps fuse left s t a.made a.left_is in
    let both : steps_of_all os (xs ++ ys) ≡ s + t = steps_both xs ys os in
    record {
      made = short.0 ∙ ap (lasts fuse) (sym both);
      left_is = short.1 ∙ ap (burnt fuse) (sym both);
      makes = subst (λ (ss : List AreaStep). MakesAll (rows_of old) (map words_of new) fuse left ss false) (sym (steps_both_in xs ys (rows_of old)))
          (made_cut (rows_of old) (map words_of new) fuse left (all_steps (rows_of old) xs) (all_steps (all_rows (rows_of old) xs) ys) a.makes);
      rows = λ e. absurd (false≢true e);
      held = λ e. absurd (false≢true e);
      done = λ e. absurd (false≢true e);
      cut = λ n is rows row_left.
          let lt : n < s = leb-false s n (ap (λ (f : Option ℕ). lasts f s) (sym is) ∙ sym a.made) in
          elim (a.cut n is rows row_left) [
            | inl e ↦ inl (e ∙ sym (after_first xs ys os n true lt))
            | inr e ↦ inr (e ∙ sym (after_first xs ys os n false lt))
          ];
      beside = a.beside;
      sizes = a.sizes;
    }

-- ---- where the module's area is ready

pub there : (areas : List Area) (m : ℕ) → IsSome (area_at (areas_seen areas) m) → (a : AreaState) × (slice_get areas m ≡ Some (Ready a))
there [] m some = absurd (false≢true some)
there (Absent ∷ areas) zero some = absurd (false≢true some)
there (Refused r ∷ areas) zero some = absurd (false≢true some)
there (Ready a ∷ areas) zero some = (a, refl)
there (a ∷ areas) (suc m) some = there areas m some
