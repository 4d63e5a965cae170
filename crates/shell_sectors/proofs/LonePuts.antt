-- The runs of a write make the words that a write by lane 0 leaves.
use Rattle.std.proofs.Common.{◌≡◌, ℕ, ◌+◌, ◌-◌, ◌*◌, ◌/◌, ◌%◌, ◌^◌, ◌<◌, ◌≤◌, List, [], ◌∷◌, length, get_or, take, drop, Ok, refl, sym, ap, ◌∙◌, subst, inl, inr, arith, append_assoc}
use Rattle.std.proofs.Math.ListN.{set}
use Rattle.std.specs.Prelude.{IsTrue}
use Rattle.std.proofs.lemmas.Bool.{cases_eq, cases_lt, eq-eqb, ne_eqb}
use Rattle.std.proofs.lemmas.Nat.{from_le_bytes-to_le_bytes_8}
use Rattle.nvd_words.specs.Ring.{successor_of}
use Rattle.std.proofs.lemmas.List.{ext_get_or, get_or-drop, get_or-map, get_or-set_other, get_or-set_same, get_or-take, length-drop, length-map, length-set, length-take-le}
use Rattle.std.proofs.lemmas.List.FromFn.{get_or-map-range_with_len}
use Rattle.cut_words.specs.WordBytes.{bytes_of, put_at, words_in}
use Rattle.cut_words.proofs.Put.{length_put, put_outside}
use Rattle.arena_layout.specs.declared.layout.Layout.{Layout}
use Rattle.arena_layout.specs.Layout.{IsLayout, is_sector}
use Rattle.flog.specs.declared.half.Half.{Half}
use Rattle.flog.specs.Group.{other_side, place_of, words_of_half}
use Rattle.map_table.specs.Entry.{entry_of, normal_of, with_entry}
use Rattle.arena_open.specs.declared.opened.LaneState.{LaneState}
use Rattle.arena_open.specs.declared.state.ArenaState.{ArenaState}
use Rattle.arena_open.specs.Chain.{Link, state_at}
use Rattle.arena_open.specs.Moves.{IsOpenState, lane_of, recovered, with_all_made}
use Rattle.arena_open.specs.Places.{map_word, value_at}
use Rattle.arena_open.specs.Reading.{entry_at, opening}
use Rattle.arena_open.proofs.Again.{opens_all}
use Rattle.arena_open.proofs.Bytes.{length_words}
use Rattle.arena_open.proofs.Opening.{Parts, parts}
use Rattle.arena_open.proofs.States.{open_state, own_map}
use Rattle.lane_core.specs.Arenas.{no_group}
use Rattle.lane_alone.specs.Lone.{block_place, half_place, lane_zero, lone_words, map_place, move_half, moved_word, no_lane, with_run}
use Rattle.lane_alone.proofs.Facts.{block_end, block_ends, block_small, free_small, half_end, half_is_at, map_end, seq_high, some_lane}
use Rattle.namespace_bytes.specs.declared.runs.Run.{Run}
use Rattle.namespace_bytes.specs.Putting.{put_entry}
use Rattle.namespace_bytes.specs.Runs.{entry_run, run_byte, runs_byte}
use Rattle.namespace_bytes.specs.SectorBytes.{HasMapOfBytes}
use Rattle.namespace_bytes.proofs.ByteWords.{changed, length_changed}
use Rattle.namespace_bytes.proofs.One.{put_inside}
use Rattle.namespace_bytes.proofs.RunWords.{entry_put, more_changed, none_changed, stays_there, whole_run}
use Rattle.shell_sectors.specs.LoneRuns.{half_next, half_run, lane_group, lone_runs, value_run}

-- ---- words that are put into a part of others

run_is : (words : List ℕ) (at : ℕ) (values : List ℕ) → with_run words at values ≡ put_at words at values
run_is words at values = append_assoc (take at words) values (drop (at + length values) words)

one_word : (words : List ℕ) (p v : ℕ) → p + 1 ≤ length words → set words p v ≡ put_at words p (v ∷ [])
one_word words p v fits =
    ext_get_or 0 (set words p v) (put_at words p (v ∷ [])) (length-set words p v ∙ sym (length_put words p (v ∷ []) fits)) (λ i lt. elim (cases_eq i p) [
      | inl here ↦
          ap (λ (n : ℕ). get_or (set words p v) n 0) here ∙ get_or-set_same words p v 0 (omega (arith, fits))
          ∙ sym (ap (λ (n : ℕ). get_or (put_at words p (v ∷ [])) n 0) (here ∙ (let e : p ≡ p + 0 = omega arith in e))
          ∙ put_inside words p (v ∷ []) 0 fits (omega arith))
      | inr there ↦
          get_or-set_other words p i v 0 there
          ∙ sym (put_outside words p (v ∷ []) i fits (elim (cases_lt i p) [ inl low ↦ inl low | inr high ↦ inr (omega (arith, high, there)) ]))
    ])

-- a put within a part
module _ (words : List ℕ) (p : ℕ) (part : List ℕ) (k : ℕ) (values : List ℕ) (fits : p + length part ≤ length words) (inside : k + length values ≤ length part) where
  inner : List ℕ
  inner = put_at part k values

  inner_long : length (put_at part k values) ≡ length part
  inner_long = length_put part k values inside

  outer_long : length (put_at words p part) ≡ length words
  outer_long = length_put words p part fits

  fits_inner : p + length (put_at part k values) ≤ length words
  fits_inner = omega (arith, fits, inner_long)

  fits_outer : p + k + length values ≤ length (put_at words p part)
  fits_outer = omega (arith, fits, inside, outer_long)

  at_word : (i : ℕ) → get_or (put_at words p (put_at part k values)) i 0 ≡ get_or (put_at (put_at words p part) (p + k) values) i 0
  at_word i = elim (cases_lt i p) [
    | inl low ↦
        put_outside words p (put_at part k values) i fits_inner (inl low)
        ∙ sym (put_outside (put_at words p part) (p + k) values i fits_outer (inl (omega (arith, low))) ∙ put_outside words p part i fits (inl low))
    | inr from ↦ elim (cases_lt i (p + length part)) [
      | inr past ↦
          put_outside words p (put_at part k values) i fits_inner (inr (omega (arith, past, inner_long)))
          ∙ sym (put_outside (put_at words p part) (p + k) values i fits_outer (inr (omega (arith, past, inside))) ∙ put_outside words p part i fits (inr past))
      | inl to ↦
          let here : i ≡ p + (i - p) = omega (arith, from) in
          let less : i - p < length part = omega (arith, from, to) in
          ap (λ (n : ℕ). get_or (put_at words p (put_at part k values)) n 0) here
          ∙ put_inside words p (put_at part k values) (i - p) fits_inner (omega (arith, less, inner_long))
          ∙ elim (cases_lt (i - p) k) [
            | inl before ↦
                put_outside part k values (i - p) inside (inl before)
                ∙ sym (put_outside (put_at words p part) (p + k) values i fits_outer (inl (omega (arith, before, from)))
                ∙ ap (λ (n : ℕ). get_or (put_at words p part) n 0) here ∙ put_inside words p part (i - p) fits less)
            | inr after ↦ elim (cases_lt (i - p) (k + length values)) [
              | inl within ↦
                  ap (λ (n : ℕ). get_or (put_at part k values) n 0) (let e : i - p ≡ k + (i - p - k) = omega (arith, after) in e)
                  ∙ put_inside part k values (i - p - k) inside (omega (arith, within, after))
                  ∙ sym (ap (λ (n : ℕ). get_or (put_at (put_at words p part) (p + k) values) n 0) (let e : i ≡ p + k + (i - p - k) = omega (arith, from, after) in e)
                  ∙ put_inside (put_at words p part) (p + k) values (i - p - k) fits_outer (omega (arith, within, after)))
              | inr behind ↦
                  put_outside part k values (i - p) inside (inr behind)
                  ∙ sym (put_outside (put_at words p part) (p + k) values i fits_outer (inr (omega (arith, behind, from)))
                  ∙ ap (λ (n : ℕ). get_or (put_at words p part) n 0) here ∙ put_inside words p part (i - p) fits less)
            ]
          ]
    ]
  ]

  pub put_within : put_at words p (put_at part k values) ≡ put_at (put_at words p part) (p + k) values
  put_within =
      ext_get_or 0 (put_at words p (put_at part k values)) (put_at (put_at words p part) (p + k) values)
      (length_put words p (put_at part k values) fits_inner ∙ sym (length_put (put_at words p part) (p + k) values fits_outer ∙ outer_long)) (λ i lt. at_word i)

-- words that are there
put_back : (words : List ℕ) (p n : ℕ) → p + n ≤ length words → put_at words p (take n (drop p words)) ≡ words
put_back words p n fits =
    let long : length (take n (drop p words)) ≡ n = length-take-le n (drop p words) (omega (arith, fits, length-drop p words)) in
    ext_get_or 0 (put_at words p (take n (drop p words))) words (length_put words p (take n (drop p words)) (omega (arith, fits, long))) (λ i lt. elim (cases_lt i p) [
      | inl low ↦ put_outside words p (take n (drop p words)) i (omega (arith, fits, long)) (inl low)
      | inr from ↦ elim (cases_lt i (p + n)) [
        | inl to ↦
            ap (λ (k : ℕ). get_or (put_at words p (take n (drop p words))) k 0) (let e : i ≡ p + (i - p) = omega (arith, from) in e)
            ∙ put_inside words p (take n (drop p words)) (i - p) (omega (arith, fits, long)) (omega (arith, from, to, long))
            ∙ get_or-take n (drop p words) (i - p) 0 (omega (arith, from, to)) ∙ get_or-drop p words (i - p) 0
            ∙ ap (λ (k : ℕ). get_or words k 0) (let e : p + (i - p) ≡ i = omega (arith, from) in e)
        | inr past ↦ put_outside words p (take n (drop p words)) i (omega (arith, fits, long)) (inr (omega (arith, past, long)))
      ]
    ])

-- ---- the two words of a half

succ_few : (s : ℕ) → s ≤ 3 → successor_of s ≤ 3
succ_few s le = elim (cases_eq s 3) [
  | inl e ↦ rw (eq-eqb s 3 e) (omega arith)
  | inr ne ↦ rw (ne_eqb s 3 ne) (omega (arith, ne, le))
]

half_back : (f : Half) → f.lba < 2 ^ 32 → f.old < 2 ^ 30 → f.new < 2 ^ 30 → f.seq ≤ 3 → words_in (bytes_of (words_of_half f)) ≡ words_of_half f
half_back f lba old new seq =
    λ i. from_le_bytes-to_le_bytes_8 (f.lba + 2 ^ 32 * f.old) (omega (arith, lba, old)) i ∷ (from_le_bytes-to_le_bytes_8 (f.new + 2 ^ 32 * f.seq) (omega (arith, new, seq)) i ∷ [])

-- a sector has whole words
whole_sector : (bytes : ℕ) → IsTrue (is_sector bytes) → bytes % 8 ≡ 0
unfolding is_sector
whole_sector bytes is = grind arith

-- ---- a write

module _ (link : Link) (old uuid : List ℕ) (opens : opening (drop link.at old) uuid ≡ Ok link.opened) where
  abbrev state : ArenaState
  state = state_at old link

  abbrev l : Layout
  l = link.opened.info.layout

  h : IsOpenState (state_at old link)
  h = open_state (drop link.at old) uuid link.opened opens

  ok : IsLayout link.opened.info.layout
  ok = h.sound.layout

  -- the lane
  group_there : 0 < length link.opened.groups
  group_there = let n = length-map link.opened.groups lane_of in omega (arith, some_lane state h, n)

  lane_is : lane_zero state ≡ lane_of (lane_group link)
  lane_is = get_or-map lane_of link.opened.groups 0 no_group no_lane group_there

  free_is : (lane_zero state).free ≡ (lane_group link).half.old
  free_is = ap (λ (a : LaneState). a.free) lane_is

  -- the block of a sector
  entry_is : (own : ℕ) → own < link.opened.info.layout.external → entry_at link.opened.info.layout state.words own ≡ get_or link.opened.entries own 0
  entry_is own lt =
      let p : Parts (recovered (drop link.at old) link.opened) uuid (with_all_made link.opened) =
      parts (recovered (drop link.at old) link.opened) uuid (with_all_made link.opened) (opens_all (drop link.at old) uuid link.opened opens) in
      sym (get_or-map-range_with_len (entry_at link.opened.info.layout state.words) 0 link.opened.info.layout.external own own 0 lt (omega arith))
      ∙ ap (λ (es : List ℕ). get_or es own 0) (own_map link.opened.info.layout (recovered (drop link.at old) link.opened) ok ∙ sym p.entries_is)

  half_same : (own : ℕ) → own < link.opened.info.layout.external → move_half state own ≡ half_next link own
  half_same own lt = λ i. record {
    lba = own;
    old = (entry_of (entry_is own lt i) own).block;
    new = free_is i;
    seq = successor_of (lane_is i).group.half.seq;
  }

  pub values_count : (value : List ℕ) → length value ≡ link.opened.info.layout.sector → length (words_in value) ≡ (state_at old link).info.layout.sector / 8
  values_count value fits = length_words value ∙ ap (λ (n : ℕ). n / 8) fits

  module _ (row : List ℕ) (own : ℕ) (value : List ℕ) (inside : own < link.opened.info.layout.external) (fits : length value ≡ link.opened.info.layout.sector)
      (room : link.at + link.opened.info.layout.size / 8 ≤ length (words_in row)) (words_are : take (link.opened.info.layout.size / 8) (drop link.at (words_in row)) ≡ state.words)
      (small : HasMapOfBytes row link) where
    abbrev W : List ℕ
    W = words_in row

    abbrev values : List ℕ
    values = words_in value

    abbrev pair : List ℕ
    pair = words_of_half (move_half state own)

    eights : link.opened.info.layout.sector ≡ 8 * (link.opened.info.layout.sector / 8)
    eights = omega (arith, whole_sector link.opened.info.layout.sector ok.sector)

    values_long : length values ≡ link.opened.info.layout.sector / 8
    values_long = length_words value ∙ ap (λ (n : ℕ). n / 8) fits

    words_long : length state.words ≡ link.opened.info.layout.size / 8
    words_long = h.count

    -- ---- the three runs, as words

    value_first : (value_run link value).first ≡ 8 * (link.at + block_place state)
    value_first =
        let place : (lane_group link).half.old * link.opened.info.layout.inner ≡ 8 * ((lane_group link).half.old * (link.opened.info.layout.inner / 8)) =
        ap (λ (n : ℕ). (lane_group link).half.old * n) (let e : link.opened.info.layout.inner ≡ 8 * (link.opened.info.layout.inner / 8) = omega (arith, ok.inner_whole) in e) ∙ omega arith in
        let same : block_place state ≡ link.opened.info.layout.data_off / 8 + ((lane_group link).half.old * (link.opened.info.layout.inner / 8) + 0) =
        ap (λ (b : ℕ). link.opened.info.layout.data_off / 8 + (b * (link.opened.info.layout.inner / 8) + 0)) free_is in
        omega (arith, place, same, ok.data_whole)

    half_first : (half_run link own).first ≡ 8 * (link.at + half_place state)
    half_first =
        let same : half_place state ≡ link.opened.info.layout.flog_off / 8 + (8 * 0 + place_of (other_side (lane_group link).side)) =
        ap (λ (a : LaneState). link.opened.info.layout.flog_off / 8 + (8 * 0 + place_of (other_side a.group.side))) lane_is in
        omega (arith, same, ok.flog_whole)

    block_room : block_place state + length values ≤ length state.words
    block_room = omega (arith, block_ends state h, values_long)

    half_room : half_place state + 2 ≤ length state.words
    half_room = half_end state h

    long_words : (r : Run) (xs : List ℕ) → length (words_in (changed (run_byte r) xs)) ≡ length (words_in xs)
    long_words r xs = length_words (changed (run_byte r) xs) ∙ ap (λ (n : ℕ). n / 8) (length_changed (run_byte r) xs) ∙ sym (length_words xs)

    abbrev filled : List ℕ
    filled = changed (run_byte (value_run link value)) row

    filled_is : words_in filled ≡ put_at W (link.at + block_place state) values
    filled_is =
        whole_run (value_run link value) row (link.at + block_place state) (link.opened.info.layout.sector / 8) value_first (fits ∙ eights)
        (omega (arith, value_first, fits, eights, block_room, values_long, words_long, room, length_words row))

    pair_bytes : words_in (bytes_of (words_of_half (half_next link own))) ≡ pair
    pair_bytes =
        ap (λ (f : Half). words_in (bytes_of (words_of_half f))) (sym (half_same own inside))
        ∙ half_back (move_half state own) (omega (arith, inside, ok.internal_is, ok.internal_few)) (block_small state h own inside) (free_small state h) (succ_few (lane_zero state).group.half.seq (seq_high state h))

    abbrev logged : List ℕ
    logged = changed (run_byte (half_run link own)) filled

    logged_is : words_in logged ≡ put_at (words_in filled) (link.at + half_place state) pair
    logged_is =
        whole_run (half_run link own) filled (link.at + half_place state) 2 half_first refl
        (omega (arith, half_first, half_room, words_long, room, length_words row, length_changed (run_byte (value_run link value)) row))
        ∙ ap (put_at (words_in filled) (link.at + half_place state)) pair_bytes

    -- ---- the map word

    abbrev q : ℕ
    q = link.at + link.opened.info.layout.map_off / 8 + own / 2

    q_is : q ≡ link.at + map_place state own
    q_is = omega arith

    before_log : map_place state own < half_place state
    before_log = omega (arith, map_end state h own inside, half_is_at state h)

    after_block : block_place state + length values ≤ map_place state own
    after_block = omega (arith, block_end state h, values_long)

    q_room : q + 1 ≤ length W
    q_room = omega (arith, q_is, before_log, half_room, words_long, room)

    small_logged : (j : ℕ) → j < 8 → get_or logged (8 * q + j) 0 < 256
    small_logged j less =
        let filled_long : length filled ≡ length row = length_changed (run_byte (value_run link value)) row in
        let in_row : 8 * q + j < length row = omega (arith, less, q_room, length_words row) in
        let one : get_or logged (8 * q + j) 0 ≡ get_or filled (8 * q + j) 0 =
        stays_there (half_run link own) filled (8 * q + j) (omega (arith, in_row, filled_long)) (inl (omega (arith, half_first, before_log, less, q_is))) in
        let two : get_or filled (8 * q + j) 0 ≡ get_or row (8 * q + j) 0 =
        stays_there (value_run link value) row (8 * q + j) in_row (inr (omega (arith, value_first, fits, eights, after_block, values_long, q_is))) in
        let here : 8 * q + j ≡ 8 * link.at + (link.opened.info.layout.map_off + (8 * (own / 2) + j)) = omega (arith, ok.map_whole) in
        let row_small : get_or row (8 * q + j) 0 < 256 =
        subst (λ (n : ℕ). get_or row n 0 < 256) (sym here) (small (link.opened.info.layout.map_off + (8 * (own / 2) + j)) (omega arith) (omega (arith, less, inside))) in
        omega (arith, one, two, row_small)

    free_few : (lane_group link).half.old < 2 ^ 30
    free_few = omega (arith, free_small state h, free_is)

    entry_is_put : words_in (changed (run_byte (entry_run link.at link.opened.info.layout own (lane_group link).half.old)) logged) ≡ put_entry link.at link.opened.info.layout own (lane_group link).half.old (words_in logged)
    entry_is_put =
        entry_put link.at link.opened.info.layout own (lane_group link).half.old logged ok inside free_few
        (omega (arith, room, long_words (half_run link own) filled, long_words (value_run link value) row)) small_logged

    -- ---- in the words of the arena

    abbrev X : List ℕ
    X = state.words

    abbrev d : ℕ
    d = block_place state

    abbrev g : ℕ
    g = half_place state

    abbrev m : ℕ
    m = map_place state own

    abbrev mw : ℕ
    mw = moved_word state own

    first_long : length (put_at X d values) ≡ length X
    first_long = length_put X d values block_room

    second_long : length (put_at (put_at X d values) g pair) ≡ length X
    second_long = length_put (put_at X d values) g pair (omega (arith, half_room, first_long)) ∙ first_long

    left_is : lone_words state own values ≡ put_at (put_at (put_at X d values) g pair) m (mw ∷ [])
    left_is =
        (λ i. set (with_run (run_is X d values i) g pair) m mw)
        ∙ (λ i. set (run_is (put_at X d values) g pair i) m mw)
        ∙ one_word (put_at (put_at X d values) g pair) m mw (omega (arith, second_long, before_log, half_room))

    room_first : link.at + length X ≤ length W
    room_first = omega (arith, words_long, room)

    all_put : put_at W link.at (lone_words state own values) ≡ put_at (put_at (put_at W (link.at + d) values) (link.at + g) pair) (link.at + m) (mw ∷ [])
    all_put =
        ap (put_at W link.at) left_is
        ∙ put_within W link.at (put_at (put_at X d values) g pair) m (mw ∷ []) (omega (arith, room_first, second_long)) (omega (arith, second_long, before_log, half_room))
        ∙ ap (λ (ws : List ℕ). put_at ws (link.at + m) (mw ∷ []))
        (put_within W link.at (put_at X d values) g pair (omega (arith, room_first, first_long)) (omega (arith, first_long, half_room))
        ∙ ap (λ (ws : List ℕ). put_at ws (link.at + g) pair)
        (put_within W link.at X d values room_first block_room
        ∙ ap (λ (ws : List ℕ). put_at ws (link.at + d) values)
        (ap (put_at W link.at) (sym words_are) ∙ put_back W link.at (link.opened.info.layout.size / 8) room)))

    -- the map word that the write finds
    word_same : get_or (words_in logged) q 0 ≡ value_at link.opened.info.layout state.words (map_word (own / 2))
    word_same =
        ap (λ (ws : List ℕ). get_or ws q 0) logged_is
        ∙ put_outside (words_in filled) (link.at + g) pair q (omega (arith, half_room, words_long, room, long_words (value_run link value) row)) (inl (omega (arith, q_is, before_log)))
        ∙ ap (λ (ws : List ℕ). get_or ws q 0) filled_is
        ∙ put_outside W (link.at + d) values q (omega (arith, block_room, words_long, room)) (inr (omega (arith, q_is, after_block)))
        ∙ ap (λ (n : ℕ). get_or W n 0) q_is
        ∙ sym (get_or-drop link.at W m 0)
        ∙ sym (get_or-take (link.opened.info.layout.size / 8) (drop link.at W) m 0 (omega (arith, before_log, half_room, words_long)))
        ∙ ap (λ (ws : List ℕ). get_or ws m 0) words_are

    pub lone_put : words_in (changed (runs_byte (lone_runs link own value)) row) ≡ put_at (words_in row) link.at (lone_words (state_at old link) own (words_in value))
    lone_put =
        let free_back : (lane_group link).half.old ≡ (lane_zero state).free = sym free_is in
        ap words_in (more_changed (value_run link value) (half_run link own ∷ entry_run link.at link.opened.info.layout own (lane_group link).half.old ∷ []) row
        ∙ more_changed (half_run link own) (entry_run link.at link.opened.info.layout own (lane_group link).half.old ∷ []) filled
        ∙ more_changed (entry_run link.at link.opened.info.layout own (lane_group link).half.old) [] logged
        ∙ none_changed (changed (run_byte (entry_run link.at link.opened.info.layout own (lane_group link).half.old)) logged))
        ∙ entry_is_put
        ∙ (λ i. put_at (words_in logged) (q_is i) (with_entry (word_same i) own (normal_of (free_back i)) ∷ []))
        ∙ ap (λ (ws : List ℕ). put_at ws (link.at + m) (mw ∷ [])) (logged_is ∙ ap (λ (ws : List ℕ). put_at ws (link.at + g) pair) filled_is)
        ∙ sym all_put
