-- A row after a power cut, word after word.
use Rattle.std.proofs.Common.{◌≡◌, ℕ, ◌+◌, ◌*◌, ◌<◌, ◌≤◌, Bool, false, cond, if◌then◌else◌, List, [], ◌∷◌, ◌++◌, length, get_or, take, drop, slice_set, Option, Some, None, sym, ap, ◌∙◌, subst, arith, append-nil, append_assoc, get_or-set_other, get_or-set_same, length-set}
use Rattle.std.proofs.lemmas.List.{get_or-drop, get_or-take, length-drop, length-take-le, take_more, take-set}
use Rattle.cut_words.specs.Leaving.{LeavesOne, LeavesFrom}
use Rattle.cut_words.proofs.Since.{option_at, length_options}
use Rattle.cut_words.proofs.Left.{leaves_on, leaves_end}
use Rattle.lane_core.specs.Rows.{RowWords, words_in}

module _ (row : RowWords) (size : 2 * length row.pending ≤ length row.words) where
  abbrev n : ℕ
  n = length row.pending

  pub kept_length : length (words_in row).kept ≡ n
  kept_length = length-take-le n (drop n row.words) (omega (arith, length-drop n row.words, size))

  seen_length : length (take n row.words) ≡ n
  seen_length = length-take-le n row.words (omega (arith, size))

  pub stored_length : length (words_in row).stored ≡ n
  stored_length = length_options row.pending (take n row.words) (sym seen_length) ∙ seen_length

  pub kept_at : (i : ℕ) → i < n → get_or (words_in row).kept i 0 ≡ get_or row.words (n + i) 0
  kept_at i lt = get_or-take n (drop n row.words) i 0 lt ∙ get_or-drop n row.words i 0

  pub stored_at : (i : ℕ) → i < n → get_or (words_in row).stored i None ≡ cond (get_or row.pending i false) (Some (get_or row.words i 0)) None
  stored_at i lt = option_at row.pending (take n row.words) i lt (omega (arith, seen_length, lt)) ∙ ap (λ v. cond (get_or row.pending i false) (Some v) None) (get_or-take n row.words i 0 lt)

-- the words in the loop that asks for them
pub record Leaving {C : Type 0} (picks : C → ℕ → Bool → C → Type 0) (row : RowWords) (now : List ℕ) (i : ℕ) (first c : C) : Type 0 where
  pub sized : length now ≡ length row.words
  pub enough : 2 * length row.pending ≤ length now
  pub untouched : (j : ℕ) → i ≤ j → get_or now j 0 ≡ get_or row.words j 0
  pub so_far : (rest : List ℕ) (last : C) → LeavesFrom picks i (drop i (words_in row).kept) (drop i (words_in row).stored) rest c last
      → LeavesFrom picks 0 (words_in row).kept (words_in row).stored (take i now ++ rest) first last

pub leaving_none : {C : Type 0} (picks : C → ℕ → Bool → C → Type 0) (row : RowWords) (now : List ℕ) (first : C) → 2 * length row.pending ≤ length row.words → now ≡ row.words → Leaving picks row now 0 first first
leaving_none picks row now first size is = record {
  sized = ap length is;
  enough = subst (λ ws. 2 * length row.pending ≤ length ws) (sym is) size;
  untouched = λ j le. ap (λ ws. get_or ws j 0) is;
  so_far = λ rest last left. left;
}

set_front : (xs : List ℕ) (i v : ℕ) (rest : List ℕ) → i < length xs → take i xs ++ v ∷ rest ≡ take (i + 1) (slice_set xs i v) ++ rest
set_front xs i v rest lt =
    sym (ap (λ (t : List ℕ). t ++ rest) (take_more (slice_set xs i v) i v (omega (arith, length-set xs i v))
    ∙ ap (λ (t : List ℕ). t ++ get_or (slice_set xs i v) i v ∷ []) (take-set xs i v) ∙ ap (λ (x : ℕ). take i xs ++ x ∷ []) (get_or-set_same xs i v v lt))
    ∙ append_assoc (take i xs) (v ∷ []) rest)

pub leaving_more : {C : Type 0} (picks : C → ℕ → Bool → C → Type 0) (row : RowWords) (now : List ℕ) (i value kept seen : ℕ) (flag : Bool) (first c c' : C) → 2 * length row.pending ≤ length row.words → i < length row.pending
    → kept ≡ get_or now (length row.pending + i) 0 → seen ≡ get_or now i 0 → flag ≡ get_or row.pending i false → LeavesOne picks i kept (if flag then Some seen else None) value c c'
    → Leaving picks row now i first c → Leaving picks row (slice_set now i value) (i + 1) first c'
leaving_more picks row now i value kept seen flag first c c' size lt ek es ef one before = record {
  sized = length-set now i value ∙ before.sized;
  enough = subst (λ m. 2 * length row.pending ≤ m) (sym (length-set now i value)) before.enough;
  untouched = λ j le. get_or-set_other now i j value 0 (omega arith) ∙ before.untouched j (omega arith);
  so_far = λ rest last left.
      subst (λ (all : List ℕ). LeavesFrom picks 0 (words_in row).kept (words_in row).stored all first last) (set_front now i value rest (omega (arith, before.enough, lt)))
      (before.so_far (value ∷ rest) last (leaves_on picks (words_in row).kept (words_in row).stored i value rest c c' last (omega (arith, kept_length row size, lt)) (omega (arith, stored_length row size, lt)) here left));
}
  where
    k_is : kept ≡ get_or (words_in row).kept i 0
    k_is = ek ∙ before.untouched (length row.pending + i) (omega arith) ∙ sym (kept_at row size i lt)

    s_is : cond flag (Some seen) None ≡ get_or (words_in row).stored i None
    s_is = ap (λ b. cond b (Some seen) None) ef ∙ ap (λ v. cond (get_or row.pending i false) (Some v) None) (es ∙ before.untouched i (omega arith)) ∙ sym (stored_at row size i lt)

    here : LeavesOne picks i (get_or (words_in row).kept i 0) (get_or (words_in row).stored i None) value c c'
    here = subst (λ (o : Option ℕ). LeavesOne picks i (get_or (words_in row).kept i 0) o value c c') s_is (subst (λ (k : ℕ). LeavesOne picks i k (cond flag (Some seen) None) value c c') k_is one)

pub leaving_all : {C : Type 0} (picks : C → ℕ → Bool → C → Type 0) (row : RowWords) (now : List ℕ) (i : ℕ) (first c : C) → 2 * length row.pending ≤ length row.words → i ≡ length row.pending → Leaving picks row now i first c
    → LeavesFrom picks 0 (words_in row).kept (words_in row).stored (take (length row.pending) now) first c
leaving_all picks row now i first c size e before =
    subst (λ (all : List ℕ). LeavesFrom picks 0 (words_in row).kept (words_in row).stored all first c) (append-nil (take i now) ∙ ap (λ j. take j now) e)
    (before.so_far [] c (leaves_end picks (words_in row).kept (words_in row).stored i c (omega (arith, kept_length row size, e))))
