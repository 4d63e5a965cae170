-- The runs of bytes that repair an arena, as the words that they make: a page that is copied, and the entries of a map.
use Rattle.std.proofs.Common.{◌≡◌, ℕ, suc, ◌+◌, ◌-◌, ◌*◌, ◌/◌, ◌^◌, ◌<◌, ◌≤◌, List, [], ◌∷◌, ◌++◌, length, take, drop, get_or, refl, sym, ap, ◌∙◌, subst, inl, inr, arith, append_assoc}
use Rattle.std.specs.Int.{w32, to_le_bytes}
use Rattle.std.specs.List.{All, flat_map}
use Rattle.std.proofs.Math.ListN.{set}
use Rattle.std.proofs.Math.Seq.{take-add}
use Rattle.std.proofs.lemmas.Bool.{cases_lt}
use Rattle.std.proofs.lemmas.List.{drop-drop, drop-set-add, ext_get_or, get_or-append_right, get_or-drop, get_or_append_left, length-append, set_split, take-append-drop, take-set-le}
use Rattle.std.proofs.lemmas.List.Elements.{All-head, All-tail}
use Rattle.nvd_words.specs.Bytes.{AreBytes}
use Rattle.nvd_words.proofs.ByteLists.{both_bytes, four_bytes, no_bytes}
use Rattle.cut_words.specs.WordBytes.{put_at, words_in}
use Rattle.arena_layout.specs.declared.layout.Layout.{Layout}
use Rattle.arena_layout.specs.Layout.{IsLayout}
use Rattle.map_table.specs.Entry.{with_entry}
use Rattle.arena_open.specs.Places.{map_word, value_at, word_of}
use Rattle.arena_open.proofs.Apart.{ordered}
use Rattle.arena_open.proofs.Bytes.{length_words}
use Rattle.namespace_bytes.specs.declared.runs.Run.{Run}
use Rattle.namespace_bytes.specs.Runs.{run_byte}
use Rattle.namespace_bytes.proofs.ByteWords.{changed, changed_same, changed_twice, length_changed}
use Rattle.namespace_bytes.proofs.RunBytes.{run_before, run_behind, run_inside}
use Rattle.namespace_bytes.proofs.RunWords.{stays_byte, stays_there, value_put, value_run, whole_run}
use Rattle.namespace_words.specs.Source.{IsMapOfBytes}
use Rattle.arena_repair.specs.Repair.{with_map}
use Rattle.shell_check.specs.Reading.{map_run}

-- ---- words that are put behind others

-- words that are put behind the first `at` ones
put_behind : (words : List ℕ) (at to : ℕ) (others : List ℕ) → put_at words (at + to) others ≡ take at words ++ put_at (drop at words) to others
put_behind words at to others =
    let rest : drop (at + to + length others) words ≡ drop (to + length others) (drop at words) =
    ap (λ (n : ℕ). drop n words) (let e : at + to + length others ≡ at + (to + length others) = omega arith in e) ∙ sym (drop-drop (to + length others) at words) in
    (λ i. take-add at to words i ++ (others ++ rest i))
    ∙ append_assoc (take at words) (take to (drop at words)) (others ++ drop (to + length others) (drop at words))

-- one word that is put
one_word : (words : List ℕ) (p v : ℕ) → p < length words → put_at words p (v ∷ []) ≡ set words p v
one_word words p v fits =
    ap (λ (n : ℕ). take p words ++ v ∷ drop n words) (let e : p + 1 ≡ suc p = omega arith in e) ∙ sym (set_split words p v fits)

-- ---- a page

pub page_put : (row bytes : List ℕ) (at from to : ℕ) → length bytes ≡ 4096 → words_in bytes ≡ take 512 (drop from (drop at (words_in row))) → at + to + 512 ≤ length (words_in row)
    → words_in (changed (run_byte (record { first = 8 * (at + to); bytes = bytes })) row)
    ≡ take at (words_in row) ++ put_at (drop at (words_in row)) to (take 512 (drop from (drop at (words_in row))))
page_put row bytes at from to long is fits =
    whole_run (record { first = 8 * (at + to); bytes = bytes }) row (at + to) 512 refl (omega (arith, long)) (omega (arith, long, fits, length_words row))
    ∙ ap (put_at (words_in row) (at + to)) is
    ∙ put_behind (words_in row) at to (take 512 (drop from (drop at (words_in row))))

-- ---- the bytes of entries

-- one byte after two runs, of which the second begins where the first ends
joined_byte : (first : ℕ) (xs ys : List ℕ) (i old : ℕ)
    → run_byte (record { first = first; bytes = xs ++ ys }) i old ≡ run_byte (record { first = first + length xs; bytes = ys }) i (run_byte (record { first = first; bytes = xs }) i old)
joined_byte first xs ys i old =
    let all : Run = record { first = first; bytes = xs ++ ys } in
    let front : Run = record { first = first; bytes = xs } in
    let back : Run = record { first = first + length xs; bytes = ys } in
    let long : length (xs ++ ys) ≡ length xs + length ys = length-append xs ys in
    elim (cases_lt i first) [
      | inl before ↦
          run_before all i old before
          ∙ sym (run_before back i (run_byte front i old) (omega (arith, before)) ∙ run_before front i old before)
      | inr after ↦ elim (cases_lt i (first + length xs)) [
        | inl within ↦
            run_inside all i (i - first) old (omega (arith, after)) (omega (arith, after, within, long))
            ∙ get_or_append_left xs ys 0 (i - first) (omega (arith, after, within))
            ∙ sym (run_before back i (run_byte front i old) within ∙ run_inside front i (i - first) old (omega (arith, after)) (omega (arith, after, within)))
        | inr further ↦ elim (cases_lt i (first + length xs + length ys)) [
          | inl inside ↦
              run_inside all i (i - first) old (omega (arith, after)) (omega (arith, after, inside, long))
              ∙ get_or-append_right xs ys (length xs) (i - first) 0 refl (omega (arith, further))
              ∙ sym (run_inside back i (i - first - length xs) (run_byte front i old) (omega (arith, further)) (omega (arith, further, inside)))
          | inr past ↦
              run_behind all i old (omega (arith, past, long))
              ∙ sym (run_behind back i (run_byte front i old) past ∙ run_behind front i old further)
        ]
      ]
    ]

-- a run is its front and then the rest
joined_runs : (first next : ℕ) (xs ys row : List ℕ) → first + length xs ≡ next
    → changed (run_byte (record { first = first; bytes = xs ++ ys })) row ≡ changed (run_byte (record { first = next; bytes = ys })) (changed (run_byte (record { first = first; bytes = xs })) row)
joined_runs first next xs ys row e =
    let front : Run = record { first = first; bytes = xs } in
    let back : Run = record { first = first + length xs; bytes = ys } in
    changed_same (run_byte (record { first = first; bytes = xs ++ ys })) (λ i old. run_byte back i (run_byte front i old)) row
    (λ i lt. joined_byte first xs ys i (get_or row i 0))
    ∙ sym (changed_twice (run_byte front) (run_byte back) row)
    ∙ ap (λ (n : ℕ). changed (run_byte (record { first = n; bytes = ys })) (changed (run_byte front) row)) e

-- a run of no bytes
none_put : (first : ℕ) (row : List ℕ) → changed (run_byte (record { first = first; bytes = [] })) row ≡ row
none_put first row =
    let run : Run = record { first = first; bytes = [] } in
    ext_get_or 0 (changed (run_byte run) row) row (length_changed (run_byte run) row) (λ i lt.
    stays_there run row i (omega (arith, lt, length_changed (run_byte run) row)) (elim (cases_lt i first) [
      | inl before ↦ inl before
      | inr after ↦ inr (omega (arith, after))
    ]))

pub map_bytes_small : (at : ℕ) (l : Layout) (entries : List ℕ) → AreBytes (map_run at l entries).bytes
map_bytes_small at l [] = no_bytes
map_bytes_small at l (entry ∷ entries) = both_bytes (to_le_bytes w32 entry) (flat_map (to_le_bytes w32) entries) (four_bytes entry) (map_bytes_small at l entries)

-- ---- a map

module _ (at : ℕ) (l : Layout) (ok : IsLayout l) where
  -- the bytes of these entries, from a sector on
  abbrev entries_run : ℕ → List ℕ → Run
  entries_run sector entries = record { first = 8 * at + l.map_off + 4 * sector; bytes = flat_map (to_le_bytes w32) entries }

  -- the arena's words with the entry of a sector
  abbrev with_one : List ℕ → ℕ → ℕ → List ℕ
  with_one words sector entry = set words (word_of l (map_word (sector / 2))) (with_entry (value_at l words (map_word (sector / 2))) sector entry)

  module _ (sector entry : ℕ) (row : List ℕ) (lt : sector < l.external) (inside : at + l.size / 8 ≤ length (words_in row)) (small : IsMapOfBytes row at l) where
    abbrev next : List ℕ
    next = changed (run_byte (value_run at l sector entry)) row

    -- the word of the sector's entry
    abbrev word : ℕ
    word = with_entry (value_at l (drop at (words_in row)) (map_word (sector / 2))) sector entry

    put_one : entry < 2 ^ 32 → words_in next ≡ set (words_in row) (at + word_of l (map_word (sector / 2))) word
    put_one entry_small =
        let place : at + l.map_off / 8 + sector / 2 ≡ at + (l.map_off / 8 + sector / 2) = omega arith in
        let here : get_or (words_in row) (at + l.map_off / 8 + sector / 2) 0 ≡ value_at l (drop at (words_in row)) (map_word (sector / 2)) =
        ap (λ (n : ℕ). get_or (words_in row) n 0) place ∙ sym (get_or-drop at (words_in row) (l.map_off / 8 + sector / 2) 0) in
        let bytes : (j : ℕ) → j < 8 → get_or row (8 * (at + l.map_off / 8 + sector / 2) + j) 0 < 256 = λ j less.
        subst (λ (n : ℕ). get_or row n 0 < 256) (let e : 8 * at + (l.map_off + (8 * (sector / 2) + j)) ≡ 8 * (at + l.map_off / 8 + sector / 2) + j = omega (arith, ok.map_whole) in e)
        (small (l.map_off + (8 * (sector / 2) + j)) (omega arith) (omega (arith, less, lt))) in
        value_put at l sector entry row ok lt entry_small inside bytes
        ∙ one_word (words_in row) (at + l.map_off / 8 + sector / 2) (with_entry (get_or (words_in row) (at + l.map_off / 8 + sector / 2) 0) sector entry) (omega (arith, inside, ordered l ok, lt))
        ∙ (λ i. set (words_in row) (place i) (with_entry (here i) sector entry))

    next_long : length (words_in next) ≡ length (words_in row)
    next_long = length_words next ∙ ap (λ (n : ℕ). n / 8) (length_changed (run_byte (value_run at l sector entry)) row) ∙ sym (length_words row)

    next_small : IsMapOfBytes next at l
    next_small i from to =
        stays_byte (value_run at l sector entry) row (8 * at + i) (omega (arith, to, inside, length_words row, ordered l ok, ok.map_whole))
        (small i from to) (four_bytes entry)

    before_one : entry < 2 ^ 32 → take at (words_in next) ≡ take at (words_in row)
    before_one entry_small =
        ap (take at) (put_one entry_small) ∙ take-set-le at (words_in row) (at + word_of l (map_word (sector / 2))) word (omega arith)

    behind_one : entry < 2 ^ 32 → drop at (words_in next) ≡ with_one (drop at (words_in row)) sector entry
    behind_one entry_small = ap (drop at) (put_one entry_small) ∙ drop-set-add at (words_in row) (word_of l (map_word (sector / 2))) word

  entries_put : (entries : List ℕ) (sector : ℕ) (row : List ℕ) → at + l.size / 8 ≤ length (words_in row) → sector + length entries ≤ l.external
      → All (λ entry. entry < 2 ^ 32) entries → IsMapOfBytes row at l
      → words_in (changed (run_byte (entries_run sector entries)) row) ≡ take at (words_in row) ++ with_map l (drop at (words_in row)) sector entries
  entries_put [] sector row inside few below small =
      ap words_in (none_put (8 * at + l.map_off + 4 * sector) row) ∙ sym (take-append-drop at (words_in row))
  entries_put (entry ∷ entries) sector row inside few below small =
      let lt : sector < l.external = omega (arith, few) in
      let entry_small : entry < 2 ^ 32 = All-head (λ entry. entry < 2 ^ 32) entry entries below in
      ap words_in (joined_runs (8 * at + l.map_off + 4 * sector) (8 * at + l.map_off + 4 * (sector + 1)) (to_le_bytes w32 entry) (flat_map (to_le_bytes w32) entries) row (omega arith))
      ∙ entries_put entries (sector + 1) (changed (run_byte (value_run at l sector entry)) row)
      (omega (arith, inside, next_long sector entry row lt inside small)) (omega (arith, few))
      (All-tail (λ entry. entry < 2 ^ 32) entry entries below) (next_small sector entry row lt inside small)
      ∙ (λ i. before_one sector entry row lt inside small entry_small i ++ with_map l (behind_one sector entry row lt inside small entry_small i) (sector + 1) entries)

pub map_put : (row : List ℕ) (at : ℕ) (l : Layout) (entries : List ℕ) → IsLayout l → at + l.size / 8 ≤ length (words_in row) → length entries ≡ l.external
    → All (λ entry. entry < 2 ^ 32) entries → IsMapOfBytes row at l
    → words_in (changed (run_byte (map_run at l entries)) row) ≡ take at (words_in row) ++ with_map l (drop at (words_in row)) 0 entries
map_put row at l entries ok inside long below small =
    ap (λ (n : ℕ). words_in (changed (run_byte (record { first = n; bytes = flat_map (to_le_bytes w32) entries })) row)) (let e : 8 * at + l.map_off ≡ 8 * at + l.map_off + 4 * 0 = omega arith in e)
    ∙ entries_put at l ok entries 0 row inside (omega (arith, long)) below small
