-- The words after a crash, one after another.
use Rattle.std.proofs.Common.{◌≡◌, ℕ, ◌+◌, ◌<◌, ◌≤◌, Bool, false, cond, List, [], ◌∷◌, ◌++◌, length, get_or, take, drop, Option, Some, None, refl, sym, ap, ◌∙◌, subst, arith, append-nil, append_assoc}
use Rattle.std.proofs.Math.ListN.{set, drop_of_length-le}
use Rattle.std.proofs.lemmas.List.{drop_more, drop-drop, get_or-drop, get_or_read, get_or-set_same, length-set, take_all, take_more, take-set, drop-set-lt}
use Rattle.cut_words.specs.Words.{Words}
use Rattle.cut_words.specs.Leaving.{LeavesOne, LeavesFrom}
use Rattle.cut_words.proofs.Since.{option_at, length_options}
use Rattle.cut_words.proofs.OneStep.{words_of}

-- the words from word i on are that word and the rest
pub leaves_on : {C : Type 0} (picks : C → ℕ → Bool → C → Type 0) (kept : List ℕ) (stored : List (Option ℕ)) (i value : ℕ) (rest : List ℕ) (c c' c'' : C)
    → i < length kept → i < length stored → LeavesOne picks i (get_or kept i 0) (get_or stored i None) value c c'
    → LeavesFrom picks (i + 1) (drop (i + 1) kept) (drop (i + 1) stored) rest c' c'' → LeavesFrom picks i (drop i kept) (drop i stored) (value ∷ rest) c c''
leaves_on picks kept stored i value rest c c' c'' in_kept in_stored one others =
    subst (λ (ks : List ℕ). LeavesFrom picks i ks (drop i stored) (value ∷ rest) c c'') (sym (drop_more kept i 0 in_kept))
    (subst (λ (os : List (Option ℕ)). LeavesFrom picks i (get_or kept i 0 ∷ drop (i + 1) kept) os (value ∷ rest) c c'') (sym (drop_more stored i None in_stored))
    (value, c', one, (rest, refl, others)))

pub leaves_end : {C : Type 0} (picks : C → ℕ → Bool → C → Type 0) (kept : List ℕ) (stored : List (Option ℕ)) (i : ℕ) (c : C) → length kept ≤ i
    → LeavesFrom picks i (drop i kept) (drop i stored) [] c c
leaves_end picks kept stored i c le = rw (drop_of_length-le kept le) (refl, refl)

-- ---- in terms of the fields of a value and its view

read_in_drop : (xs ys : List ℕ) (i : ℕ) → drop i xs ≡ drop i ys → get_or xs i 0 ≡ get_or ys i 0
read_in_drop xs ys i same =
    ap (λ (k : ℕ). get_or xs k 0) (omega arith) ∙ sym (get_or-drop i xs 0 0) ∙ ap (λ (zs : List ℕ). get_or zs 0 0) same
    ∙ get_or-drop i ys 0 0 ∙ ap (λ (k : ℕ). get_or ys k 0) (omega arith)

pub left_one : {C : Type 0} (picks : C → ℕ → Bool → C → Type 0) (kept now : List ℕ) (flags : List Bool) (values : List ℕ) (view : Words) (i x y : ℕ) (got : Bool) (value : ℕ) (c c' : C)
    → words_of kept flags values ≡ view → length values ≡ length kept → length flags ≡ length kept → i < length view.kept → length now ≡ length view.kept
    → drop i now ≡ drop i view.kept → x ≡ get_or now i x → y ≡ get_or values i 0 → got ≡ get_or flags i false
    → LeavesOne picks i x (cond got (Some y) None) value c c' → LeavesOne picks i (get_or view.kept i 0) (get_or view.stored i None) value c c'
left_one picks kept now flags values view i x y got value c c' is sized flagged lt now_sized untouched read_kept read_value read_flag one =
    let flag_lt : i < length flags = omega (arith, ap (λ (w : Words). length w.kept) is, flagged) in
    let value_lt : i < length values = omega (arith, ap (λ (w : Words). length w.kept) is, sized) in
    let kept_is : x ≡ get_or view.kept i 0 = get_or_read now i x (omega (arith, now_sized)) read_kept 0 ∙ read_in_drop now view.kept i untouched in
    let stored_is : cond got (Some y) None ≡ get_or view.stored i None =
    ap (λ (b : Bool). cond b (Some y) None) read_flag
    ∙ ap (λ (v : ℕ). cond (get_or flags i false) (Some v) None) read_value
    ∙ sym (option_at flags values i flag_lt value_lt) ∙ ap (λ (w : Words). get_or w.stored i None) is in
    subst (λ (o : Option ℕ). LeavesOne picks i (get_or view.kept i 0) o value c c') stored_is
    (subst (λ (k : ℕ). LeavesOne picks i k (cond got (Some y) None) value c c') kept_is one)

-- the invariant of the loop that asks for one word after another
pub record Asked {C : Type 0} (picks : C → ℕ → Bool → C → Type 0) (view : Words) (now : List ℕ) (i : ℕ) (first c : C) : Type 0 where
  pub sized : length now ≡ length view.kept
  pub untouched : drop i now ≡ drop i view.kept
  pub so_far : (rest : List ℕ) (last : C) → LeavesFrom picks i (drop i view.kept) (drop i view.stored) rest c last
      → LeavesFrom picks 0 view.kept view.stored (take i now ++ rest) first last

pub asked_none : {C : Type 0} (picks : C → ℕ → Bool → C → Type 0) (view : Words) (now : List ℕ) (first : C) → now ≡ view.kept → Asked picks view now 0 first first
asked_none picks view now first is = record {
  sized = ap length is;
  untouched = is;
  so_far = λ rest last left. left;
}

set_front : (xs : List ℕ) (i v : ℕ) (rest : List ℕ) → i < length xs → take i xs ++ v ∷ rest ≡ take (i + 1) (set xs i v) ++ rest
set_front xs i v rest lt =
    sym (ap (λ (t : List ℕ). t ++ rest) (take_more (set xs i v) i v (omega (arith, length-set xs i v))
    ∙ ap (λ (t : List ℕ). t ++ get_or (set xs i v) i v ∷ []) (take-set xs i v) ∙ ap (λ (x : ℕ). take i xs ++ x ∷ []) (get_or-set_same xs i v v lt))
    ∙ append_assoc (take i xs) (v ∷ []) rest)

one_further : (xs ys : List ℕ) (i : ℕ) → drop i xs ≡ drop i ys → drop (i + 1) xs ≡ drop (i + 1) ys
one_further xs ys i same = sym (drop-drop 1 i xs) ∙ ap (drop 1) same ∙ drop-drop 1 i ys

pub asked_more : {C : Type 0} (picks : C → ℕ → Bool → C → Type 0) (view : Words) (now : List ℕ) (i value : ℕ) (first c c' : C) → length view.stored ≡ length view.kept
    → i < length view.kept → LeavesOne picks i (get_or view.kept i 0) (get_or view.stored i None) value c c' → Asked picks view now i first c
    → Asked picks view (set now i value) (i + 1) first c'
asked_more picks view now i value first c c' stored_sized lt one before = record {
  sized = length-set now i value ∙ before.sized;
  untouched = drop-set-lt (i + 1) now i value (omega arith) ∙ one_further now view.kept i before.untouched;
  so_far = λ rest last left.
      subst (λ (all : List ℕ). LeavesFrom picks 0 view.kept view.stored all first last) (set_front now i value rest (omega (arith, before.sized)))
      (before.so_far (value ∷ rest) last (leaves_on picks view.kept view.stored i value rest c c' last lt (omega (arith, stored_sized)) one left));
}

pub asked_all : {C : Type 0} (picks : C → ℕ → Bool → C → Type 0) (view : Words) (now : List ℕ) (i : ℕ) (first c : C) → length now ≤ i → Asked picks view now i first c
    → LeavesFrom picks 0 view.kept view.stored now first c
asked_all picks view now i first c le before =
    subst (λ (all : List ℕ). LeavesFrom picks 0 view.kept view.stored all first c) (append-nil (take i now) ∙ take_all i now le)
    (before.so_far [] c (leaves_end picks view.kept view.stored i c (omega (arith, before.sized))))

-- a view has a slot for a stored value for each word
pub stored_sized : (kept : List ℕ) (flags : List Bool) (values : List ℕ) (view : Words) → words_of kept flags values ≡ view → length values ≡ length kept → length flags ≡ length kept
    → length view.stored ≡ length view.kept
stored_sized kept flags values view is sized flagged =
    sym (ap (λ (w : Words). length w.stored) is) ∙ length_options flags values (flagged ∙ sym sized) ∙ sized ∙ ap (λ (w : Words). length w.kept) is
