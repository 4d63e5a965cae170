-- The words of bytes into which runs are put.
use Rattle.std.proofs.Common.{◌≡◌, ℕ, ◌+◌, ◌-◌, ◌*◌, ◌/◌, ◌%◌, ◌^◌, ◌<◌, ◌≤◌, ◌⊎◌, inl, inr, true, false, eqb, List, [], ◌∷◌, ◌++◌, length, get_or, sym, ap, ◌∙◌, subst, arith}
use Rattle.std.specs.Int.{w32, to_le_bytes}
use Rattle.std.proofs.lemmas.Bool.{cases_eq, cases_lt, eq-eqb, ne_eqb}
use Rattle.std.proofs.lemmas.List.{ext_get_or}
use Rattle.nvd_words.specs.Bytes.{AreBytes}
use Rattle.nvd_words.proofs.ByteLists.{four_bytes}
use Rattle.cut_words.specs.WordBytes.{put_at, words_in}
use Rattle.cut_words.proofs.Put.{length_put, put_outside}
use Rattle.arena_layout.specs.declared.layout.Layout.{Layout}
use Rattle.arena_layout.specs.Layout.{IsLayout}
use Rattle.map_table.specs.Entry.{normal_of, with_entry}
use Rattle.arena_open.proofs.Apart.{ordered}
use Rattle.arena_open.proofs.Bytes.{length_words}
use Rattle.namespace_bytes.specs.declared.runs.Run.{Run}
use Rattle.namespace_bytes.specs.Putting.{put_entry}
use Rattle.namespace_bytes.specs.Runs.{entry_run, run_byte, runs_byte}
use Rattle.namespace_bytes.proofs.ByteWords.{at_changed, changed, changed_twice, changed_words, length_changed, word_by, word_is, words_same}
use Rattle.namespace_bytes.proofs.MapWords.{half_by, half_of, halves_below, halves_same, two_halves}
use Rattle.namespace_bytes.proofs.One.{map_place, put_inside}
use Rattle.namespace_bytes.proofs.RunBytes.{run_before, run_behind, run_inside}

-- ---- one run after another

pub none_changed : (row : List ℕ) → changed (runs_byte []) row ≡ row
none_changed row = ext_get_or 0 (changed (runs_byte []) row) row (length_changed (runs_byte []) row) (λ i lt. at_changed (runs_byte []) row i (omega (arith, lt, length_changed (runs_byte []) row)))

pub more_changed : (run : Run) (runs : List Run) (row : List ℕ) → changed (runs_byte (run ∷ runs)) row ≡ changed (runs_byte runs) (changed (run_byte run) row)
more_changed run runs row = sym (changed_twice (run_byte run) (runs_byte runs) row)

pub all_changed : (runs more : List Run) (row : List ℕ) → changed (runs_byte (runs ++ more)) row ≡ changed (runs_byte more) (changed (runs_byte runs) row)
all_changed [] more row = ap (changed (runs_byte more)) (sym (none_changed row))
all_changed (run ∷ runs) more row =
    more_changed run (runs ++ more) row ∙ all_changed runs more (changed (run_byte run) row) ∙ ap (changed (runs_byte more)) (sym (more_changed run runs row))

-- bytes stay bytes
pub stays_byte : (run : Run) (row : List ℕ) (i : ℕ) → i < length row → get_or row i 0 < 256 → AreBytes run.bytes → get_or (changed (run_byte run) row) i 0 < 256
stays_byte run row i lt small are =
    subst (λ (b : ℕ). b < 256) (sym (at_changed (run_byte run) row i lt)) (elim (cases_lt i run.first) [
      | inl before ↦ subst (λ (b : ℕ). b < 256) (sym (run_before run i (get_or row i 0) before)) small
      | inr after ↦ elim (cases_lt i (run.first + length run.bytes)) [
        | inl within ↦
            subst (λ (b : ℕ). b < 256) (sym (run_inside run i (i - run.first) (get_or row i 0) (omega (arith, after)) (omega (arith, within, after)))) (are.each (i - run.first))
        | inr past ↦ subst (λ (b : ℕ). b < 256) (sym (run_behind run i (get_or row i 0) past)) small
      ]
    ])

-- a byte outside a run stays
pub stays_there : (run : Run) (row : List ℕ) (i : ℕ) → i < length row → (i < run.first) ⊎ (run.first + length run.bytes ≤ i) → get_or (changed (run_byte run) row) i 0 ≡ get_or row i 0
stays_there run row i lt out = at_changed (run_byte run) row i lt ∙ elim out [
  | inl before ↦ run_before run i (get_or row i 0) before
  | inr behind ↦ run_behind run i (get_or row i 0) behind
]

-- ---- a run of whole words

module _ (run : Run) (row : List ℕ) (at count : ℕ) (first : run.first ≡ 8 * at) (long : length run.bytes ≡ 8 * count) (fits : run.first + length run.bytes ≤ length row) where
  abbrev values : List ℕ
  values = words_in run.bytes

  values_long : length values ≡ count
  values_long = length_words run.bytes ∙ omega (arith, long)

  in_words : at + length values ≤ length (words_in row)
  in_words = omega (arith, values_long, length_words row, first, long, fits)

  each : (k : ℕ) → 8 * k + 8 ≤ length row → word_by (λ j. run_byte run (8 * k + j) (get_or row (8 * k + j) 0)) ≡ get_or (put_at (words_in row) at values) k 0
  each k in_row = elim (cases_lt k at) [
    | inl before ↦
        words_same (λ j. run_byte run (8 * k + j) (get_or row (8 * k + j) 0)) (λ j. get_or row (8 * k + j) 0)
        (λ j less. run_before run (8 * k + j) (get_or row (8 * k + j) 0) (omega (arith, before, less, first)))
        ∙ sym (put_outside (words_in row) at values k in_words (inl before) ∙ word_is row k in_row)
    | inr after ↦ elim (cases_lt k (at + count)) [
      | inl within ↦
          words_same (λ j. run_byte run (8 * k + j) (get_or row (8 * k + j) 0)) (λ j. get_or run.bytes (8 * (k - at) + j) 0)
          (λ j less. run_inside run (8 * k + j) (8 * (k - at) + j) (get_or row (8 * k + j) 0) (omega (arith, after, first)) (omega (arith, within, after, less, long)))
          ∙ sym (ap (λ (n : ℕ). get_or (put_at (words_in row) at values) n 0) (let e : k ≡ at + (k - at) = omega (arith, after) in e)
          ∙ put_inside (words_in row) at values (k - at) in_words (omega (arith, within, after, values_long))
          ∙ word_is run.bytes (k - at) (omega (arith, within, after, long)))
      | inr past ↦
          words_same (λ j. run_byte run (8 * k + j) (get_or row (8 * k + j) 0)) (λ j. get_or row (8 * k + j) 0)
          (λ j less. run_behind run (8 * k + j) (get_or row (8 * k + j) 0) (omega (arith, past, first, long)))
          ∙ sym (put_outside (words_in row) at values k in_words (inr (omega (arith, past, values_long))) ∙ word_is row k in_row)
    ]
  ]

  pub whole_run : words_in (changed (run_byte run) row) ≡ put_at (words_in row) at (words_in run.bytes)
  whole_run =
      changed_words (run_byte run) row (put_at (words_in row) at values) (length_put (words_in row) at values in_words ∙ length_words row) each

-- ---- a map entry

with_even : (word own entry low high : ℕ) → own % 2 ≡ 0 → word ≡ low + 4294967296 * high → low < 2 ^ 32 → with_entry word own entry ≡ entry + 4294967296 * high
unfolding with_entry
with_even word own entry low high even is small =
    let e : eqb (own % 2) 0 ≡ true = eq-eqb (own % 2) 0 even in
    rw e (omega (arith, is, small))

with_odd : (word own entry low high : ℕ) → own % 2 ≡ 1 → word ≡ low + 4294967296 * high → low < 2 ^ 32 → with_entry word own entry ≡ low + 4294967296 * entry
unfolding with_entry
with_odd word own entry low high odd is small =
    let e : eqb (own % 2) 0 ≡ false = ne_eqb (own % 2) 0 (λ z. omega (arith, odd, z)) in
    rw e (omega (arith, is, small))

even_or_odd : (own : ℕ) → (own % 2 ≡ 0) ⊎ (own % 2 ≡ 1)
even_or_odd own = elim (cases_eq (own % 2) 0) [
  | inl even ↦ inl even
  | inr other ↦ inr (omega (arith, other))
]

-- the bytes of an entry, for sector `own` of the arena whose first word is `at`
abbrev pub value_run : ℕ → Layout → ℕ → ℕ → Run
value_run at l own entry = record { first = 8 * at + l.map_off + 4 * own; bytes = to_le_bytes w32 entry }

module _ (at : ℕ) (l : Layout) (own entry : ℕ) (row : List ℕ) (ok : IsLayout l) (lt : own < l.external) (entry_small : entry < 2 ^ 32) (inside : at + l.size / 8 ≤ length (words_in row))
    (small : (j : ℕ) → j < 8 → get_or row (8 * (at + l.map_off / 8 + own / 2) + j) 0 < 256) where
  abbrev w : ℕ
  w = map_place at l own

  abbrev run : Run
  run = value_run at l own entry

  w_in : w + 1 ≤ length (words_in row)
  w_in = omega (arith, inside, ordered l ok, lt)

  first_is : 8 * at + l.map_off + 4 * own ≡ 8 * w + 4 * (own % 2)
  first_is = omega (arith, ok.map_whole)

  abbrev old : ℕ → ℕ
  old j = get_or row (8 * w + j) 0

  abbrev new : ℕ → ℕ
  new j = run_byte run (8 * w + j) (old j)

  old_word : get_or (words_in row) w 0 ≡ half_by old + 4294967296 * half_by (λ j. old (4 + j))
  old_word = word_is row w (omega (arith, w_in, length_words row)) ∙ two_halves old

  low_small : half_by old < 2 ^ 32
  low_small = halves_below old (λ j less. small j (omega (arith, less)))

  entry_bytes : half_by (λ j. get_or (to_le_bytes w32 entry) j 0) ≡ entry
  entry_bytes = half_of entry entry_small

  even_word : own % 2 ≡ 0 → word_by new ≡ with_entry (get_or (words_in row) w 0) own entry
  even_word even =
      let low : half_by new ≡ entry =
      halves_same new (λ j. get_or (to_le_bytes w32 entry) j 0) (λ j less. run_inside run (8 * w + j) j (old j) (omega (arith, first_is, even)) less) ∙ entry_bytes in
      let high : half_by (λ j. new (4 + j)) ≡ half_by (λ j. old (4 + j)) =
      halves_same (λ j. new (4 + j)) (λ j. old (4 + j)) (λ j less. run_behind run (8 * w + (4 + j)) (old (4 + j)) (omega (arith, first_is, even))) in
      two_halves new ∙ (λ i. low i + 4294967296 * high i)
      ∙ sym (with_even (get_or (words_in row) w 0) own entry (half_by old) (half_by (λ j. old (4 + j))) even old_word low_small)

  odd_word : own % 2 ≡ 1 → word_by new ≡ with_entry (get_or (words_in row) w 0) own entry
  odd_word odd =
      let low : half_by new ≡ half_by old =
      halves_same new old (λ j less. run_before run (8 * w + j) (old j) (omega (arith, first_is, odd, less))) in
      let high : half_by (λ j. new (4 + j)) ≡ entry =
      halves_same (λ j. new (4 + j)) (λ j. get_or (to_le_bytes w32 entry) j 0) (λ j less. run_inside run (8 * w + (4 + j)) j (old (4 + j)) (omega (arith, first_is, odd)) less) ∙ entry_bytes in
      two_halves new ∙ (λ i. low i + 4294967296 * high i)
      ∙ sym (with_odd (get_or (words_in row) w 0) own entry (half_by old) (half_by (λ j. old (4 + j))) odd old_word low_small)

  abbrev put : List ℕ
  put = put_at (words_in row) w (with_entry (get_or (words_in row) w 0) own entry ∷ [])

  each_word : (k : ℕ) → 8 * k + 8 ≤ length row → word_by (λ j. run_byte run (8 * k + j) (get_or row (8 * k + j) 0)) ≡ get_or put k 0
  each_word k in_row = elim (cases_eq k w) [
    | inl here ↦
        ap (λ (n : ℕ). word_by (λ j. run_byte run (8 * n + j) (get_or row (8 * n + j) 0))) here
        ∙ elim (even_or_odd own) [ inl even ↦ even_word even | inr odd ↦ odd_word odd ]
        ∙ sym (ap (λ (n : ℕ). get_or put n 0) (here ∙ (let e : w ≡ w + 0 = omega arith in e))
        ∙ put_inside (words_in row) w (with_entry (get_or (words_in row) w 0) own entry ∷ []) 0 w_in (omega arith))
    | inr there ↦
        words_same (λ j. run_byte run (8 * k + j) (get_or row (8 * k + j) 0)) (λ j. get_or row (8 * k + j) 0)
        (λ j less. elim (cases_lt k w) [
          | inl before ↦ run_before run (8 * k + j) (get_or row (8 * k + j) 0) (omega (arith, before, less, first_is))
          | inr after ↦ run_behind run (8 * k + j) (get_or row (8 * k + j) 0) (omega (arith, after, there, less, first_is))
        ])
        ∙ sym (put_outside (words_in row) w (with_entry (get_or (words_in row) w 0) own entry ∷ []) k w_in
        (elim (cases_lt k w) [ inl before ↦ inl before | inr after ↦ inr (omega (arith, after, there)) ])
        ∙ word_is row k in_row)
  ]

  pub value_put : words_in (changed (run_byte (value_run at l own entry)) row) ≡ put_at (words_in row) (at + l.map_off / 8 + own / 2) (with_entry (get_or (words_in row) (at + l.map_off / 8 + own / 2) 0) own entry ∷ [])
  value_put =
      changed_words (run_byte run) row put
      (length_put (words_in row) w (with_entry (get_or (words_in row) w 0) own entry ∷ []) w_in ∙ length_words row) each_word

pub entry_put : (at : ℕ) (l : Layout) (own block : ℕ) (row : List ℕ) → IsLayout l → own < l.external → block < 2 ^ 30 → at + l.size / 8 ≤ length (words_in row)
    → ((j : ℕ) → j < 8 → get_or row (8 * (at + l.map_off / 8 + own / 2) + j) 0 < 256) → words_in (changed (run_byte (entry_run at l own block)) row) ≡ put_entry at l own block (words_in row)
entry_put at l own block row ok lt block_small inside small = value_put at l own (normal_of block) row ok lt (omega (arith, block_small)) inside small

pub entry_bytes_small : (at : ℕ) (l : Layout) (own block : ℕ) → AreBytes (entry_run at l own block).bytes
entry_bytes_small at l own block = four_bytes (normal_of block)
