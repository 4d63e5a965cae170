-- The words that a format writes, in its order.
use Rattle.std.proofs.Common.{◌≡◌, ℕ, zero, suc, ◌+◌, ◌-◌, ◌*◌, ◌/◌, ◌<◌, ◌≤◌, List, [], ◌∷◌, ◌++◌, length, take, drop, get_or, refl, sym, ap, ◌∙◌, inl, inr, arith}
use Rattle.std.proofs.Math.ListN.{set}
use Rattle.std.proofs.lemmas.Bool.{cases_lt, le-ltb, lt-ltb}
use Rattle.std.proofs.lemmas.List.{ext_get_or, get_or-append_right, get_or_append_left, length-append, length-take-le, take_more}
use Rattle.cut_words.specs.Words.{Words, Step, after, settled, stepped, store}
use Rattle.cut_words.specs.WordBytes.{put_at}
use Rattle.cut_words.proofs.Put.{length_put, put_outside}
use Rattle.arena_layout.specs.declared.layout.Layout.{Layout}
use Rattle.arena_layout.specs.Layout.{IsLayout}
use Rattle.arena_open.specs.Areas.{new_log, new_map}
use Rattle.arena_open.specs.Format.{area_writes, log_count, map_count}
use Rattle.arena_open.specs.Writes.{Write, run_at, write_steps, written_over}
use Rattle.arena_open.proofs.Counts.{length_log, length_map}
use Rattle.arena_open.proofs.Runs.{counted, over_misses, over_run, run_misses}
use Rattle.arena_open.proofs.Written.{length_over, length_run, no_write, one_write, over-append, run_index}
use Rattle.format_patch.specs.Format.{count_behind, place_of_write, words_behind}

-- ---- runs of writes

run-append : (base : ℕ) (xs ys : List ℕ) → run_at base (xs ++ ys) ≡ run_at base xs ++ run_at (base + length xs) ys
run-append base [] ys = ap (λ (n : ℕ). run_at n ys) (let e : base ≡ base + 0 = omega arith in e)
run-append base (x ∷ xs) ys =
    ap (λ (rest : List Write). record { place = base; value = x } ∷ rest)
    (run-append (base + 1) xs ys ∙ ap (λ (n : ℕ). run_at (base + 1) xs ++ run_at n ys) (let e : base + 1 + length xs ≡ base + suc (length xs) = omega arith in e))

take_run : (k base : ℕ) (xs : List ℕ) → take k (run_at base xs) ≡ run_at base (take k xs)
take_run zero base xs = refl
take_run (suc k) base [] = refl
take_run (suc k) base (x ∷ xs) = ap (λ (rest : List Write). record { place = base; value = x } ∷ rest) (take_run k (base + 1) xs)

take_both : {A : Type 0} (k : ℕ) (xs ys : List A) → take k (xs ++ ys) ≡ take k xs ++ take (k - length xs) ys
take_both zero [] ys = refl
take_both (suc k) [] ys = ap (λ (n : ℕ). take n ys) (let e : suc k ≡ suc k - 0 = omega arith in e)
take_both zero (x ∷ xs) ys = ap (λ (n : ℕ). take n ys) (let e : 0 ≡ 0 - suc (length xs) = omega arith in e)
take_both (suc k) (x ∷ xs) ys = ap (λ rest. x ∷ rest) (take_both k xs ys ∙ ap (λ (n : ℕ). take k xs ++ take n ys) (let e : k - length xs ≡ suc k - suc (length xs) = omega arith in e))

-- a run puts its values
pub run_put : (words : List ℕ) (base : ℕ) (values : List ℕ) → base + length values ≤ length words → written_over words (run_at base values) ≡ put_at words base values
run_put words base values fits =
    ext_get_or 0 (written_over words (run_at base values)) (put_at words base values) (length_over words (run_at base values) ∙ sym (length_put words base values fits)) (λ i lt.
    elim (cases_lt i base) [
      | inl before ↦ over_misses words (run_at base values) i (run_misses base values i (inl before)) ∙ sym (put_outside words base values i fits (inl before))
      | inr from ↦ elim (cases_lt i (base + length values)) [
        | inl within ↦
            ap (λ (n : ℕ). get_or (written_over words (run_at base values)) n 0) (let e : i ≡ base + (i - base) = omega (arith, from) in e)
            ∙ over_run words base values (i - base) fits (omega (arith, within, from))
            ∙ sym (ap (λ (n : ℕ). get_or (put_at words base values) n 0) (let e : i ≡ base + (i - base) = omega (arith, from) in e)
            ∙ in_put words base values (i - base) fits (omega (arith, within, from)))
        | inr past ↦ over_misses words (run_at base values) i (run_misses base values i (inr past)) ∙ sym (put_outside words base values i fits (inr past))
      ]
    ])
  where
    in_put : (ws : List ℕ) (at : ℕ) (others : List ℕ) (j : ℕ) → at + length others ≤ length ws → j < length others → get_or (put_at ws at others) (at + j) 0 ≡ get_or others j 0
    in_put ws at others j room less =
        get_or-append_right (take at ws) (others ++ drop (at + length others) ws) at (at + j) 0 (length-take-le at ws (omega (arith, room))) (omega arith)
        ∙ ap (λ (n : ℕ). get_or (others ++ drop (at + length others) ws) n 0) (let e : at + j - at ≡ j = omega arith in e)
        ∙ get_or_append_left others (drop (at + length others) ws) 0 j less

-- ---- the order of a format

module _ (l : Layout) (ok : IsLayout l) (block : List ℕ) (long : length block ≡ 512) where
  pub behind_long : length (words_behind l block) ≡ count_behind l
  behind_long =
      length-append (new_map l.external (map_count l)) (new_log l.external l.lanes (log_count l) ++ block)
      ∙ omega (arith, length-append (new_log l.external l.lanes (log_count l)) block, length_map l.external (map_count l), length_log l.external l.lanes (log_count l), long)

  -- the first three areas lie one behind the other
  pub areas_are : area_writes 0 l block ≡ run_at (l.map_off / 8) (words_behind l block) ++ run_at 0 block
  areas_are =
      let m : List ℕ = new_map l.external (map_count l) in
      let g : List ℕ = new_log l.external l.lanes (log_count l) in
      let counts = counted l ok in
      let rest : run_at (0 + l.flog_off / 8) g ++ (run_at (0 + l.info_off / 8) block ++ run_at 0 block) ≡ run_at (l.map_off / 8 + length m) (g ++ block) ++ run_at 0 block =
      sym (assoc (run_at (0 + l.flog_off / 8) g) (run_at (0 + l.info_off / 8) block) (run_at 0 block))
      ∙ ap (λ (ws : List Write). ws ++ run_at 0 block)
      ((λ i. run_at (let e : 0 + l.flog_off / 8 ≡ l.map_off / 8 + length m = omega (arith, counts.map_is, length_map l.external (map_count l)) in e i) g
      ++ run_at (let e : 0 + l.info_off / 8 ≡ l.map_off / 8 + length m + length g = omega (arith, counts.map_is, counts.log_is, length_map l.external (map_count l), length_log l.external l.lanes (log_count l)) in e i) block)
      ∙ sym (run-append (l.map_off / 8 + length m) g block)) in
      (λ i. run_at (let e : 0 + l.map_off / 8 ≡ l.map_off / 8 = omega arith in e i) m ++ rest i)
      ∙ sym (assoc (run_at (l.map_off / 8) m) (run_at (l.map_off / 8 + length m) (g ++ block)) (run_at 0 block))
      ∙ ap (λ (ws : List Write). ws ++ run_at 0 block) (sym (run-append (l.map_off / 8) m (g ++ block)))
    where
      assoc : (xs ys zs : List Write) → (xs ++ ys) ++ zs ≡ xs ++ (ys ++ zs)
      assoc [] ys zs = refl
      assoc (x ∷ xs) ys zs = ap (λ rest. x ∷ rest) (assoc xs ys zs)

  -- the words after the first k of them
  module _ (k : ℕ) (words : List ℕ) (room : l.size / 8 ≤ length words) where
    abbrev behind : List ℕ
    behind = take k (words_behind l block)

    abbrev front : List ℕ
    front = take (k - count_behind l) block

    take_fits : (n : ℕ) (xs : List ℕ) → length (take n xs) ≤ length xs
    take_fits zero xs = omega arith
    take_fits (suc n) [] = omega arith
    take_fits (suc n) (x ∷ xs) = omega (arith, take_fits n xs)

    pub behind_fits : l.map_off / 8 + length (take k (words_behind l block)) ≤ length words
    behind_fits = let counts = counted l ok in omega (arith, take_fits k (words_behind l block), behind_long, counts.map_is, counts.log_is, ok.size_is, ok.info_whole, room)

    pub front_fits : 0 + length (take (k - count_behind l) block) ≤ length (put_at words (l.map_off / 8) (take k (words_behind l block)))
    front_fits =
        let counts = counted l ok in
        omega (arith, take_fits (k - count_behind l) block, long, counts.map_is, counts.log_is, ok.size_is, ok.info_whole, room, length_put words (l.map_off / 8) behind behind_fits)

    pub first_written : written_over words (take k (area_writes 0 l block)) ≡ put_at (put_at words (l.map_off / 8) (take k (words_behind l block))) 0 (take (k - count_behind l) block)
    first_written =
        ap (λ (ws : List Write). written_over words (take k ws)) areas_are
        ∙ ap (written_over words) (take_both k (run_at (l.map_off / 8) (words_behind l block)) (run_at 0 block))
        ∙ over-append words (take k (run_at (l.map_off / 8) (words_behind l block))) (take (k - length (run_at (l.map_off / 8) (words_behind l block))) (run_at 0 block))
        ∙ (λ i. written_over (written_over words (take_run k (l.map_off / 8) (words_behind l block) i))
        (take (k - (length_run (l.map_off / 8) (words_behind l block) ∙ behind_long) i) (run_at 0 block)))
        ∙ (λ i. written_over (run_put words (l.map_off / 8) behind behind_fits i) (take_run (k - count_behind l) 0 block i))
        ∙ run_put (put_at words (l.map_off / 8) behind) 0 front front_fits

  -- the place of each
  pub write_place : (i : ℕ) → i < count_behind l + 512 → (get_or (area_writes 0 l block) i no_write).place ≡ place_of_write l i
  write_place i lt = ap (λ (ws : List Write). (get_or ws i no_write).place) areas_are ∙ elim (cases_lt i (count_behind l)) [
    | inl before ↦
        ap (λ (w : Write). w.place) (get_or_append_left (run_at (l.map_off / 8) (words_behind l block)) (run_at 0 block) no_write i (omega (arith, before, length_run (l.map_off / 8) (words_behind l block), behind_long))
        ∙ run_index (l.map_off / 8) (words_behind l block) i (omega (arith, before, behind_long)))
        ∙ sym (rw (lt-ltb i (count_behind l) before) refl)
    | inr after ↦
        ap (λ (w : Write). w.place) (get_or-append_right (run_at (l.map_off / 8) (words_behind l block)) (run_at 0 block) (count_behind l) i no_write (length_run (l.map_off / 8) (words_behind l block) ∙ behind_long) after
        ∙ run_index 0 block (i - count_behind l) (omega (arith, lt, after, long)))
        ∙ (let e : 0 + (i - count_behind l) ≡ i - count_behind l = omega arith in e)
        ∙ sym (rw (le-ltb i (count_behind l) after) refl)
  ]

  pub areas_long : length (area_writes 0 l block) ≡ count_behind l + 512
  areas_long =
      ap (λ (ws : List Write). length ws) areas_are ∙ length-append (run_at (l.map_off / 8) (words_behind l block)) (run_at 0 block)
      ∙ omega (arith, length_run (l.map_off / 8) (words_behind l block), behind_long, length_run 0 block, long)

-- ---- after some of the steps

-- an even number: so many words are written and none is pending
pub even_after : (old : List ℕ) (writes : List Write) (k : ℕ) → after (settled old) (take (2 * k) (write_steps writes)) ≡ settled (written_over old (take k writes))
unfolding after
even_after old writes zero = refl
even_after old [] (suc k) = ap (λ (ss : List Step). after (settled old) ss) (none (2 * suc k))
  where
    none : (n : ℕ) → take {A = Step} n [] ≡ []
    none zero = refl
    none (suc n) = refl
even_after old (w ∷ writes) (suc k) =
    ap (λ (n : ℕ). after (settled old) (take n (write_steps (w ∷ writes)))) (let e : 2 * suc k ≡ suc (suc (2 * k)) = omega arith in e)
    ∙ ap (λ (ws : Words). after ws (take (2 * k) (write_steps writes))) (one_write old w.place w.value)
    ∙ even_after (set old w.place w.value) writes k

-- an odd one: the next word is stored
pub odd_after : (old : List ℕ) (writes : List Write) (k : ℕ) → k < length writes
    → after (settled old) (take (2 * k + 1) (write_steps writes)) ≡ stepped (settled (written_over old (take k writes))) (store (get_or writes k no_write).place (get_or writes k no_write).value)
unfolding after
odd_after old [] k lt = absurd (omega arith)
odd_after old (w ∷ writes) zero lt = refl
odd_after old (w ∷ writes) (suc k) lt =
    ap (λ (n : ℕ). after (settled old) (take n (write_steps (w ∷ writes)))) (let e : 2 * suc k + 1 ≡ suc (suc (2 * k + 1)) = omega arith in e)
    ∙ ap (λ (ws : Words). after ws (take (2 * k + 1) (write_steps writes))) (one_write old w.place w.value)
    ∙ odd_after (set old w.place w.value) writes k (omega (arith, lt))

-- and flushed it is written
pub next_written : (old : List ℕ) (writes : List Write) (k : ℕ) → k < length writes
    → written_over old (take (k + 1) writes) ≡ set (written_over old (take k writes)) (get_or writes k no_write).place (get_or writes k no_write).value
next_written old writes k lt = ap (written_over old) (take_more writes k no_write lt) ∙ over-append old (take k writes) (get_or writes k no_write ∷ [])
