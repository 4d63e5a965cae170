-- The words of modules of which one was stored and not flushed, and what is left of them.
use Rattle.std.proofs.Common.{◌≡◌, ℕ, zero, suc, ◌+◌, ◌<◌, Bool, true, cond, List, [], ◌∷◌, length, map, get_or, replicate, Option, Some, None, refl, sym, ap, ◌∙◌, subst, inl, arith}
use Rattle.std.proofs.Math.ListN.{set}
use Rattle.std.proofs.lemmas.List.{length-map, length-replicate, length-set, map-set}
use Rattle.nfit_reader.specs.declared.table.Mapping.{Mapping}
use Rattle.cut_words.specs.Words.{Words, IsLeft, Step, after, keep, settled, store, stepped}
use Rattle.cut_words.specs.Fuses.{Makes}
use Rattle.cut_words.specs.Leaving.{LeavesFrom}
use Rattle.cut_words.proofs.ByWord.{is_left}
use Rattle.arena_open.proofs.Written.{one_write}
use Rattle.power_cut.specs.Left.{Each, InTurn, LeavesWords}
use Rattle.power_cut.specs.Namespace.{HasRows, IsLaid, Namespace, beside_of, over, row_of, words_of}
use Rattle.power_cut.proofs.Beside.{beside_same}
use Rattle.power_cut.proofs.Spread.{IsWordOf, makes_words, row_here, stores, keeps}

pub none_left : (rows : List (List ℕ)) → Each IsLeft (map settled rows) rows
none_left [] = refl
none_left (row ∷ rows) = (row, rows, refl, record { same_length = refl; each = λ i. inl refl }, none_left rows)

-- ---- one row of words

module _ {C : Type 0} (picks : C → ℕ → Bool → C → Type 0) where
  -- of words of which none is pending nothing is asked
  none_from : (i : ℕ) (values : List ℕ) (c : C) → LeavesFrom picks i values (replicate (length values) None) values c c
  none_from i [] c = (refl, refl)
  none_from i (v ∷ values) c = (v, c, (refl, refl), (values, refl, none_from (i + 1) values c))

  -- for a single pending one the chooser is asked once
  one_from : (i : ℕ) (values : List ℕ) (k v : ℕ) (answer : Bool) (c c' : C) → k < length values → picks c (i + k) answer c'
      → LeavesFrom picks i values (set (replicate (length values) None) k (Some v)) (set values k (cond answer v (get_or values k 0))) c c'
  one_from i [] k v answer c c' lt picked = absurd (omega arith)
  one_from i (x ∷ values) zero v answer c c' lt picked =
      (cond answer v x, c', (answer, subst (λ (n : ℕ). picks c n answer c') (let e : i + 0 ≡ i = omega arith in e) picked, refl), (values, refl, none_from (i + 1) values c'))
  one_from i (x ∷ values) (suc k) v answer c c' lt picked = (
    x,
    c,
    (refl, refl),
    (
      set values k (cond answer v (get_or values k 0)),
      refl,
      one_from (i + 1) values k v answer c c' (omega (arith, lt)) (subst (λ (n : ℕ). picks c n answer c') (let e : i + suc k ≡ i + 1 + k = omega arith in e) picked),
    ),
  )

  -- ---- all rows

  pub none_asked : (rows : List (List ℕ)) (c : C) → InTurn (LeavesWords picks) (map settled rows) rows c c
  none_asked [] c = (refl, refl)
  none_asked (row ∷ rows) c = (row, rows, c, refl, none_from 0 row c, none_asked rows c)

  pub one_asked : (rows : List (List ℕ)) (which k v : ℕ) (answer : Bool) (c c' : C) → which < length rows → k < length (get_or rows which []) → picks c k answer c'
      → InTurn (LeavesWords picks) (set (map settled rows) which (stepped (settled (get_or rows which [])) (store k v)))
      (set rows which (set (get_or rows which []) k (cond answer v (get_or (get_or rows which []) k 0)))) c c'
  one_asked [] which k v answer c c' there inside picked = absurd (omega arith)
  one_asked (row ∷ rows) zero k v answer c c' there inside picked =
      (set row k (cond answer v (get_or row k 0)), rows, c', refl, one_from 0 row k v answer c c' inside (subst (λ (n : ℕ). picks c n answer c') (let e : k ≡ 0 + k = omega arith in e) picked), none_asked rows c')
  one_asked (row ∷ rows) (suc which) k v answer c c' there inside picked = (
    row,
    set rows which (set (get_or rows which []) k (cond answer v (get_or (get_or rows which []) k 0))),
    c,
    refl,
    none_from 0 row c,
    one_asked rows which k v answer c c' (omega (arith, there)) inside picked,
  )

  pub one_left : (rows : List (List ℕ)) (which k v : ℕ) (answer : Bool) (c c' : C) → which < length rows → k < length (get_or rows which []) → picks c k answer c'
      → Each IsLeft (set (map settled rows) which (stepped (settled (get_or rows which [])) (store k v)))
      (set rows which (set (get_or rows which []) k (cond answer v (get_or (get_or rows which []) k 0))))
  one_left [] which k v answer c c' there inside picked = absurd (omega arith)
  one_left (row ∷ rows) zero k v answer c c' there inside picked = (
    set row k (cond answer v (get_or row k 0)),
    rows,
    refl,
    is_left picks (stepped (settled row) (store k v)) (set row k (cond answer v (get_or row k 0))) c c'
        (length-set (replicate {A = Option ℕ} (length row) None) k (Some v) ∙ length-replicate {A = Option ℕ} (length row) None) (one_from 0 row k v answer c c' inside (subst (λ (n : ℕ). picks c n answer c') (let e : k ≡ 0 + k = omega arith in e) picked)),
    none_left rows,
  )
  one_left (row ∷ rows) (suc which) k v answer c c' there inside picked = (
    row,
    set rows which (set (get_or rows which []) k (cond answer v (get_or (get_or rows which []) k 0))),
    refl,
    record { same_length = refl; each = λ i. inl refl },
    one_left rows which k v answer c c' (omega (arith, there)) inside picked,
  )

-- ---- the words of a namespace

settled_row : (rows : List (List ℕ)) (which : ℕ) → row_of (map settled rows) which ≡ settled (get_or rows which [])
settled_row [] which = refl
settled_row (row ∷ rows) zero = refl
settled_row (row ∷ rows) (suc which) = settled_row rows which

kept_all : (rows : List (List ℕ)) → map (λ (w : Words). w.kept) (map settled rows) ≡ rows
kept_all [] = refl
kept_all (row ∷ rows) = ap (λ rs. row ∷ rs) (kept_all rows)

-- rows that are settled are known by their words
pub settled_same : (xs ys : List (List ℕ)) → map settled xs ≡ map settled ys → xs ≡ ys
settled_same xs ys e = sym (kept_all xs) ∙ ap (map (λ (w : Words). w.kept)) e ∙ kept_all ys

one_made : (row : Words) (s : Step) → Makes row (stepped row s) None None (s ∷ []) true
unfolding after
one_made row s = record { words = refl; fuse_left = refl; all_made = refl }

module _ (ms : List Mapping) (offset raw : ℕ) (rows : List (List ℕ)) (laid : (modules : List Words) → IsLaid (over ms offset raw modules)) (has : HasRows ms (map settled rows))
    (i which k v : ℕ) (is : IsWordOf (over ms offset raw (map settled rows)) i which k) where
  abbrev base : Namespace
  base = over ms offset raw (map settled rows)

  abbrev row : List ℕ
  row = get_or rows which []

  abbrev pub pending : List Words
  pending = set (map settled rows) which (stepped (settled (get_or rows which [])) (store k v))

  pub there : which < length rows
  there = omega (arith, is.there, length-map rows settled)

  pub inside : k < length (get_or rows which [])
  inside = subst (λ (w : Words). k < length w.kept) (settled_row rows which) is.inside

  row_is : row_of (map settled rows) which ≡ settled (get_or rows which [])
  row_is = settled_row rows which

  stored_made : Makes (row_of (map settled rows) which) (stepped (settled (get_or rows which [])) (store k v)) None None (store k v ∷ []) true
  stored_made = subst (λ (w : Words). Makes w (stepped (settled (get_or rows which [])) (store k v)) None None (store k v ∷ []) true) (sym row_is) (one_made (settled (get_or rows which [])) (store k v))

  -- the word is pending in the namespace
  pub pending_words : words_of (over ms offset raw pending) ≡ stepped (words_of base) (store i v)
  unfolding after
  pending_words =
      (makes_words base i which k (store i v) (store k v) (stepped (settled row) (store k v)) None None true (laid (map settled rows)) is (stores v) stored_made).words

  pub pending_beside : beside_of (over ms offset raw pending) ≡ beside_of base
  pending_beside = beside_same base i which k (store i v) (store k v) (stepped (settled row) (store k v)) None None true (laid (map settled rows)) is (stores v) stored_made

  -- flushed, it is written
  abbrev pub flushed : List (List ℕ)
  flushed = set rows which (set (get_or rows which []) k v)

  abbrev next : Namespace
  next = over ms offset raw pending

  next_row : row_of pending which ≡ stepped (settled (get_or rows which [])) (store k v)
  next_row = row_here (map settled rows) which (stepped (settled (get_or rows which [])) (store k v)) is.there

  next_is : IsWordOf next i which k
  next_is = record {
    at = record { below = is.at.below; lies = is.at.lies };
    there = omega (arith, is.there, length-set (map settled rows) which (stepped (settled (get_or rows which [])) (store k v)));
    inside = subst (λ (w : Words). k < length w.kept) (sym next_row) inside;
    row = ap (λ (w : Words). length w.stored) next_row ∙ length-set (replicate {A = Option ℕ} (length row) None) k (Some v) ∙ length-replicate {A = Option ℕ} (length row) None
        ∙ sym (ap (λ (w : Words). length w.kept) next_row);
  }

  kept_made : Makes (row_of pending which) (settled (set row k v)) None None (keep k ∷ []) true
  kept_made =
      subst (λ (w : Words). Makes w (settled (set row k v)) None None (keep k ∷ []) true) (sym next_row)
      (subst (λ (w : Words). Makes (stepped (settled row) (store k v)) w None None (keep k ∷ []) true) (one_write row k v) (one_made (stepped (settled row) (store k v)) (keep k)))

  set_twice : {A : Type 0} (xs : List A) (n : ℕ) (x y : A) → set (set xs n x) n y ≡ set xs n y
  set_twice [] n x y = refl
  set_twice (z ∷ xs) zero x y = refl
  set_twice (z ∷ xs) (suc n) x y = ap (λ rest. z ∷ rest) (set_twice xs n x y)

  flushed_rows : set pending which (settled (set row k v)) ≡ map settled flushed
  flushed_rows = set_twice (map settled rows) which (stepped (settled row) (store k v)) (settled (set row k v)) ∙ sym (map-set settled rows which (set row k v))

  pub flushed_words : words_of (over ms offset raw (map settled flushed)) ≡ stepped (stepped (words_of base) (store i v)) (keep i)
  unfolding after
  flushed_words =
      ap (λ ws. words_of (over ms offset raw ws)) (sym flushed_rows)
      ∙ (makes_words next i which k (keep i) (keep k) (settled (set row k v)) None None true (laid pending) next_is keeps kept_made).words
      ∙ ap (λ w. stepped w (keep i)) pending_words

  pub flushed_beside : beside_of (over ms offset raw (map settled flushed)) ≡ beside_of base
  flushed_beside =
      ap (λ ws. beside_of (over ms offset raw ws)) (sym flushed_rows)
      ∙ beside_same next i which k (keep i) (keep k) (settled (set row k v)) None None true (laid pending) next_is keeps kept_made ∙ pending_beside
