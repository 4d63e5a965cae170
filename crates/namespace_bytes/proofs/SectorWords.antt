-- The bytes of an arena that `arena_byte` changes, each by itself, make the words of `put_arena`.
use Rattle.std.proofs.Common.{◌≡◌, ◌≢◌, ◌⊎◌, ℕ, ◌+◌, ◌-◌, ◌*◌, ◌/◌, ◌%◌, ◌^◌, ◌<◌, ◌≤◌, List, length, get_or, drop, Option, Some, None, refl, sym, ap, ◌∙◌, subst, inl, inr, arith}
use Rattle.std.specs.Prelude.{if◌then◌else◌, nat_lt, IsTrue}
use Rattle.std.specs.Int.{w32, to_le_bytes}
use Rattle.std.proofs.lemmas.Bool.{cases_eq, cases_lt, cond_above, cond_below}
use Rattle.std.proofs.lemmas.List.{get_or-drop, get_or-take}
use Rattle.std.proofs.lemmas.Nat.{div-add-mod', mod_below}
use Rattle.cut_words.specs.WordBytes.{words_in}
use Rattle.arena_layout.specs.Layout.{IsLayout, is_sector}
use Rattle.map_table.specs.Entry.{entry_in, normal_of}
use Rattle.arena_open.specs.declared.opened.Opened.{Opened}
use Rattle.arena_open.proofs.Apart.{ordered}
use Rattle.arena_open.proofs.Bytes.{length_words}
use Rattle.namespace_bytes.specs.Putting.{arena_bytes, block_at, piece, put_arena}
use Rattle.namespace_bytes.specs.SectorBytes.{arena_byte, block_byte, data_byte, map_byte, owner_of}
use Rattle.namespace_bytes.proofs.All.{Beside, So, all_put, none_put, piece_long}
use Rattle.namespace_bytes.proofs.ByteWords.{changed, changed_words, in_blocks, word_by, word_is, words_same}
use Rattle.namespace_bytes.proofs.MapWords.{MapSo, all_maps, bytes_below, half_by, half_of, halves_same, map_before, odd_of_bytes, two_entries, two_halves}
use Rattle.namespace_bytes.proofs.One.{block_inside, block_place, blocks_apart, map_place}
use Rattle.namespace_bytes.proofs.Owners.{no_owner, owner_is}

-- ---- tests

pub pick_below : (a b x y : ℕ) → a < b → (if nat_lt a b then x else y) ≡ x
pick_below a b x y lt = sym (cond_below a b x y lt)

pub pick_above : (a b x y : ℕ) → b ≤ a → (if nat_lt a b then x else y) ≡ y
pick_above a b x y le = sym (cond_above a b x y y le refl)

-- a sector has whole words
whole_sector : (bytes : ℕ) → IsTrue (is_sector bytes) → bytes % 8 ≡ 0
unfolding is_sector
whole_sector bytes is = grind arith

some_sector : (bytes : ℕ) → IsTrue (is_sector bytes) → 0 < bytes
unfolding is_sector
some_sector bytes is = grind arith

-- ---- byte i of an arena

before_data : (o : Opened) (bytes : List ℕ) (i old : ℕ) → i < o.info.layout.data_off → arena_byte o bytes i old ≡ old
before_data o bytes i old lt = pick_below i o.info.layout.data_off old _ lt

in_data : (o : Opened) (bytes : List ℕ) (i old : ℕ) → o.info.layout.data_off ≤ i → i < o.info.layout.map_off → arena_byte o bytes i old ≡ data_byte o bytes (i - o.info.layout.data_off) old
in_data o bytes i old le lt = pick_above i o.info.layout.data_off old _ le ∙ pick_below i o.info.layout.map_off (data_byte o bytes (i - o.info.layout.data_off) old) _ lt

in_map : (o : Opened) (bytes : List ℕ) (i old : ℕ) → o.info.layout.data_off ≤ i → o.info.layout.map_off ≤ i → i < o.info.layout.flog_off → arena_byte o bytes i old ≡ map_byte o (i - o.info.layout.map_off) old
in_map o bytes i old past le lt =
    pick_above i o.info.layout.data_off old _ past
    ∙ pick_above i o.info.layout.map_off (data_byte o bytes (i - o.info.layout.data_off) old) _ le
    ∙ pick_below i o.info.layout.flog_off (map_byte o (i - o.info.layout.map_off) old) old lt

behind_map : (o : Opened) (bytes : List ℕ) (i old : ℕ) → o.info.layout.data_off ≤ i → o.info.layout.map_off ≤ i → o.info.layout.flog_off ≤ i → arena_byte o bytes i old ≡ old
behind_map o bytes i old past le high =
    pick_above i o.info.layout.data_off old _ past
    ∙ pick_above i o.info.layout.map_off (data_byte o bytes (i - o.info.layout.data_off) old) _ le
    ∙ pick_above i o.info.layout.flog_off (map_byte o (i - o.info.layout.map_off) old) old high

-- ---- byte i of a namespace with one arena

-- the arena begins at this word
abbrev pub byte_of_arena : ℕ → Opened → List ℕ → ℕ → ℕ → ℕ
byte_of_arena at o bytes i old = if nat_lt i (8 * at + o.info.layout.size) then if nat_lt i (8 * at) then old else arena_byte o bytes (i - 8 * at) old else old

pub inside_arena : (at : ℕ) (o : Opened) (bytes : List ℕ) (i k old : ℕ) → i ≡ 8 * at + k → k < o.info.layout.size → byte_of_arena at o bytes i old ≡ arena_byte o bytes k old
inside_arena at o bytes i k old is lt =
    pick_below i (8 * at + o.info.layout.size) (if nat_lt i (8 * at) then old else arena_byte o bytes (i - 8 * at) old) old (omega (arith, is, lt))
    ∙ pick_above i (8 * at) old (arena_byte o bytes (i - 8 * at) old) (omega (arith, is))
    ∙ ap (λ (n : ℕ). arena_byte o bytes n old) (let e : i - 8 * at ≡ k = omega (arith, is) in e)

pub before_arena : (at : ℕ) (o : Opened) (bytes : List ℕ) (i old : ℕ) → i < 8 * at → byte_of_arena at o bytes i old ≡ old
before_arena at o bytes i old lt =
    pick_below i (8 * at + o.info.layout.size) (if nat_lt i (8 * at) then old else arena_byte o bytes (i - 8 * at) old) old (omega (arith, lt))
    ∙ pick_below i (8 * at) old (arena_byte o bytes (i - 8 * at) old) lt

pub behind_arena : (at : ℕ) (o : Opened) (bytes : List ℕ) (i old : ℕ) → 8 * at + o.info.layout.size ≤ i → byte_of_arena at o bytes i old ≡ old
behind_arena at o bytes i old le = pick_above i (8 * at + o.info.layout.size) (if nat_lt i (8 * at) then old else arena_byte o bytes (i - 8 * at) old) old le

-- ---- the words

module _ (at : ℕ) (o : Opened) (row bytes : List ℕ) (ok : IsLayout o.info.layout) (inside : at + o.info.layout.size / 8 ≤ length (words_in row)) (fits : length bytes ≡ arena_bytes o)
    (entries_long : length o.entries ≡ o.info.layout.external)
    (below : (own : ℕ) → own < o.info.layout.external → block_at o.entries own < o.info.layout.internal)
    (apart : (a b : ℕ) → a < o.info.layout.external → b < o.info.layout.external → a ≢ b → block_at o.entries a ≢ block_at o.entries b)
    (small : (i : ℕ) → o.info.layout.map_off ≤ i → i < o.info.layout.map_off + 8 * ((o.info.layout.external + 1) / 2) → get_or row (8 * at + i) 0 < 256) where
  abbrev now : List ℕ
  now = put_arena at o bytes (words_in row)

  so : So at o bytes (words_in row) o.info.layout.external (put_arena at o bytes (words_in row))
  so = all_put at o bytes (words_in row) ok inside fits below apart o.info.layout.external 0 (words_in row) (omega arith) (none_put at o bytes (words_in row))

  -- byte j of word k
  abbrev old_byte : ℕ → ℕ → ℕ
  old_byte k j = get_or row (8 * k + j) 0

  abbrev new_byte : ℕ → ℕ → ℕ
  new_byte k j = byte_of_arena at o bytes (8 * k + j) (get_or row (8 * k + j) 0)

  room : 8 * at + o.info.layout.size ≤ length row
  room = omega (arith, inside, length_words row, ok.size_is, ok.info_whole)

  -- a word whose bytes stay
  same_word : (k : ℕ) → 8 * k + 8 ≤ length row → Beside at o bytes (words_in row) o.info.layout.external k → ((j : ℕ) → j < 8 → new_byte k j ≡ old_byte k j)
      → word_by (new_byte k) ≡ get_or now k 0
  same_word k in_row b same = words_same (new_byte k) (old_byte k) same ∙ sym (so.rest k b ∙ word_is row k in_row)

  -- a word beside the map and the data area
  beside_both : (k : ℕ) → (k < at + o.info.layout.data_off / 8) ⊎ (at + o.info.layout.flog_off / 8 ≤ k) → Beside at o bytes (words_in row) o.info.layout.external k
  beside_both k out = record {
    no_map = λ own lt e. elim out [
      | inl low ↦ omega (arith, low, e, ordered o.info.layout ok)
      | inr high ↦ omega (arith, high, e, lt, ordered o.info.layout ok)
    ];
    no_block = λ own lt. elim out [
      | inl low ↦ inl (omega (arith, low))
      | inr high ↦ inr (omega (arith, high, block_inside at o.info.layout (block_at o.entries own) ok (below own lt), ok.inner_enough, ordered o.info.layout ok))
    ];
  }

  before_word : (k : ℕ) → 8 * k + 8 ≤ length row → k < at + o.info.layout.data_off / 8 → word_by (new_byte k) ≡ get_or now k 0
  before_word k in_row lt =
      same_word k in_row (beside_both k (inl lt)) (λ j less. elim (cases_lt (8 * k + j) (8 * at)) [
        | inl before ↦ before_arena at o bytes (8 * k + j) (old_byte k j) before
        | inr after ↦
            let here : 8 * k + j - 8 * at < o.info.layout.data_off = omega (arith, lt, less, after, ok.data_whole) in
            inside_arena at o bytes (8 * k + j) (8 * k + j - 8 * at) (old_byte k j) (omega (arith, after)) (omega (arith, here, ordered o.info.layout ok))
            ∙ before_data o bytes (8 * k + j - 8 * at) (old_byte k j) here
      ])

  behind_word : (k : ℕ) → 8 * k + 8 ≤ length row → at + o.info.layout.flog_off / 8 ≤ k → word_by (new_byte k) ≡ get_or now k 0
  behind_word k in_row le =
      same_word k in_row (beside_both k (inr le)) (λ j less. elim (cases_lt (8 * k + j) (8 * at + o.info.layout.size)) [
        | inl before ↦
            let past : o.info.layout.flog_off ≤ 8 * k + j - 8 * at = omega (arith, le, ok.flog_whole) in
            inside_arena at o bytes (8 * k + j) (8 * k + j - 8 * at) (old_byte k j) (omega (arith, le)) (omega (arith, before, le))
            ∙ behind_map o bytes (8 * k + j - 8 * at) (old_byte k j) (omega (arith, past, ok.after_map, ok.after_data)) (omega (arith, past, ok.after_map)) past
        | inr after ↦ behind_arena at o bytes (8 * k + j) (old_byte k j) after
      ])

  -- ---- a word of the data area, number q there

  eighths : o.info.layout.inner ≡ 8 * (o.info.layout.inner / 8)
  eighths = omega (arith, ok.inner_whole)

  some_wide : 0 < o.info.layout.inner / 8
  some_wide = omega (arith, ok.inner_whole, ok.inner_enough, some_sector o.info.layout.sector ok.sector)

  module _ (k q : ℕ) (in_row : 8 * k + 8 ≤ length row) (k_is : k ≡ at + o.info.layout.data_off / 8 + q) (in_area : k < at + o.info.layout.map_off / 8) where
    -- its block, and its number there
    abbrev block : ℕ
    block = q / (o.info.layout.inner / 8)

    abbrev c : ℕ
    c = q % (o.info.layout.inner / 8)

    new_data : (j : ℕ) → j < 8 → new_byte k j ≡ block_byte o.info.layout bytes (owner_of o block) (8 * c + j) (old_byte k j)
    new_data j less =
        let e = in_blocks q (o.info.layout.inner / 8) j some_wide less in
        inside_arena at o bytes (8 * k + j) (o.info.layout.data_off + (8 * q + j)) (old_byte k j) (omega (arith, k_is, ok.data_whole)) (omega (arith, less, k_is, in_area, ordered o.info.layout ok, ok.data_whole))
        ∙ in_data o bytes (o.info.layout.data_off + (8 * q + j)) (old_byte k j) (omega arith) (omega (arith, less, k_is, in_area, ok.map_whole, ok.data_whole))
        ∙ ap (λ (n : ℕ). data_byte o bytes n (old_byte k j)) (let z : o.info.layout.data_off + (8 * q + j) - o.info.layout.data_off ≡ 8 * q + j = omega arith in z)
        ∙ ap (λ (n : ℕ). block_byte o.info.layout bytes (owner_of o ((8 * q + j) / n)) ((8 * q + j) % n) (old_byte k j)) eighths
        ∙ ap (λ (n : ℕ). block_byte o.info.layout bytes (owner_of o n) ((8 * q + j) % (8 * (o.info.layout.inner / 8))) (old_byte k j)) e.0
        ∙ ap (λ (n : ℕ). block_byte o.info.layout bytes (owner_of o block) n (old_byte k j)) e.1

    -- it is word c of this block
    place : block_place at o.info.layout block + c ≡ k
    place = omega (arith, k_is, div-add-mod' q (o.info.layout.inner / 8))

    -- a word of no sector
    beside_data : ((own : ℕ) → own < o.info.layout.external → block_at o.entries own ≡ block → o.info.layout.sector / 8 ≤ c)
        → Beside at o bytes (words_in row) o.info.layout.external k
    beside_data free = record {
      no_map = λ own lt e. omega (arith, e, in_area);
      no_block = λ own lt. elim (cases_eq (block_at o.entries own) block) [
        | inl same ↦
            let place_is : block_place at o.info.layout (block_at o.entries own) ≡ block_place at o.info.layout block = ap (block_place at o.info.layout) same in
            inr (omega (arith, place, place_is, free own lt same))
        | inr ne ↦ elim (blocks_apart at o.info.layout (block_at o.entries own) block ne) [
          | inl low ↦ inr (omega (arith, low, place, ok.inner_enough))
          | inr high ↦ inl (omega (arith, high, place, mod_below q (o.info.layout.inner / 8) some_wide))
        ]
      ];
    }

    -- a word of a sector
    value_word : (own : ℕ) → own < o.info.layout.external → block_at o.entries own ≡ block → c < o.info.layout.sector / 8
        → word_by (λ j. block_byte o.info.layout bytes (Some own) (8 * c + j) (old_byte k j)) ≡ get_or now k 0
    value_word own lt same in_sector =
        let whole : o.info.layout.sector % 8 ≡ 0 = whole_sector o.info.layout.sector ok.sector in
        let long : length (piece o.info.layout.sector own bytes) ≡ o.info.layout.sector = piece_long o.info.layout.sector o.info.layout.external own bytes fits lt in
        let there : block_place at o.info.layout (block_at o.entries own) + c ≡ k =
        ap (λ (b : ℕ). block_place at o.info.layout b + c) same ∙ place in
        words_same (λ j. block_byte o.info.layout bytes (Some own) (8 * c + j) (old_byte k j)) (λ j. get_or (piece o.info.layout.sector own bytes) (8 * c + j) 0) (λ j less.
        let in' : 8 * c + j < o.info.layout.sector = omega (arith, less, in_sector, whole) in
        pick_below (8 * c + j) o.info.layout.sector (get_or bytes (own * o.info.layout.sector + (8 * c + j)) 0) (old_byte k j) in'
        ∙ sym (get_or-take o.info.layout.sector (drop (own * o.info.layout.sector) bytes) (8 * c + j) 0 in'
        ∙ get_or-drop (own * o.info.layout.sector) bytes (8 * c + j) 0))
        ∙ sym (word_is (piece o.info.layout.sector own bytes) c (omega (arith, in_sector, whole, long)))
        ∙ sym (so.values own c lt in_sector)
        ∙ ap (λ (i : ℕ). get_or now i 0) there

    -- a word behind a sector, in its block
    spare_word : (own : ℕ) → own < o.info.layout.external → o.info.layout.sector / 8 ≤ c
        → ((j : ℕ) → j < 8 → new_byte k j ≡ block_byte o.info.layout bytes (Some own) (8 * c + j) (old_byte k j))
        → word_by (new_byte k) ≡ get_or now k 0
    spare_word own lt past is =
        let whole : o.info.layout.sector % 8 ≡ 0 = whole_sector o.info.layout.sector ok.sector in
        same_word k in_row (beside_data (λ own' lt' e. past)) (λ j less.
        is j less
        ∙ pick_above (8 * c + j) o.info.layout.sector (get_or bytes (own * o.info.layout.sector + (8 * c + j)) 0) (old_byte k j) (omega (arith, past, whole)))

    by_owner : (found : Option ℕ) → owner_of o block ≡ found → word_by (new_byte k) ≡ get_or now k 0
    by_owner None is =
        same_word k in_row (beside_data (λ own lt e. absurd (no_owner o block is own (omega (arith, lt, entries_long)) e)))
        (λ j less. new_data j less ∙ ap (λ (w : Option ℕ). block_byte o.info.layout bytes w (8 * c + j) (old_byte k j)) is)
    by_owner (Some own) is =
        let found = owner_is o block own is in
        let lt : own < o.info.layout.external = omega (arith, found.0, entries_long) in
        elim (cases_lt c (o.info.layout.sector / 8)) [
          | inl in_sector ↦
              words_same (new_byte k) (λ j. block_byte o.info.layout bytes (Some own) (8 * c + j) (old_byte k j))
              (λ j less. new_data j less ∙ ap (λ (w : Option ℕ). block_byte o.info.layout bytes w (8 * c + j) (old_byte k j)) is)
              ∙ value_word own lt found.1 in_sector
          | inr past ↦
              spare_word own lt past
              (λ j less. new_data j less ∙ ap (λ (w : Option ℕ). block_byte o.info.layout bytes w (8 * c + j) (old_byte k j)) is)
        ]

    data_word : word_by (new_byte k) ≡ get_or now k 0
    data_word = by_owner (owner_of o block) refl

  -- ---- a word of the map, number v there

  map_bytes : (v j : ℕ) → 2 * v < o.info.layout.external → j < 8 → get_or row (8 * (at + o.info.layout.map_off / 8 + v) + j) 0 < 256
  map_bytes v j lt less =
      subst (λ (i : ℕ). get_or row i 0 < 256) (let e : 8 * at + (o.info.layout.map_off + (8 * v + j)) ≡ 8 * (at + o.info.layout.map_off / 8 + v) + j = omega (arith, ok.map_whole) in e)
      (small (o.info.layout.map_off + (8 * v + j)) (omega arith) (omega (arith, lt, less)))

  map_in_row : (v : ℕ) → 2 * v < o.info.layout.external → 8 * (at + o.info.layout.map_off / 8 + v) + 8 ≤ length row
  map_in_row v lt = omega (arith, lt, room, ordered o.info.layout ok, ok.map_whole)

  map_so : MapSo at o bytes (words_in row) o.info.layout.external now
  map_so =
      all_maps at o bytes (words_in row) ok inside fits below apart o.info.layout.external 0 (words_in row) (omega arith) (none_put at o bytes (words_in row))
      (map_before at o bytes (words_in row) (λ own lt.
      subst (λ (w : ℕ). w < 2 ^ 64) (sym (word_is row (map_place at o.info.layout own) (map_in_row (own / 2) (omega (arith, lt)))))
      (bytes_below (λ j. get_or row (8 * map_place at o.info.layout own + j) 0) (λ j less. map_bytes (own / 2) j (omega (arith, lt)) less))))

  module _ (k v : ℕ) (in_row : 8 * k + 8 ≤ length row) (k_is : k ≡ at + o.info.layout.map_off / 8 + v) (in_area : k < at + o.info.layout.flog_off / 8) where
    new_map : (j : ℕ) → j < 8 → new_byte k j ≡ map_byte o (8 * v + j) (old_byte k j)
    new_map j less =
        inside_arena at o bytes (8 * k + j) (o.info.layout.map_off + (8 * v + j)) (old_byte k j) (omega (arith, k_is, ok.map_whole)) (omega (arith, less, k_is, in_area, ordered o.info.layout ok, ok.map_whole))
        ∙ in_map o bytes (o.info.layout.map_off + (8 * v + j)) (old_byte k j) (omega (arith, ok.after_data)) (omega arith) (omega (arith, less, k_is, in_area, ok.map_whole, ok.flog_whole))
        ∙ ap (λ (n : ℕ). map_byte o n (old_byte k j)) (let z : o.info.layout.map_off + (8 * v + j) - o.info.layout.map_off ≡ 8 * v + j = omega arith in z)

    -- a byte of the entry of a sector
    entry_byte : (own i j : ℕ) → own < o.info.layout.external → 8 * v + j ≡ 4 * own + i → i < 4 → j < 8 → new_byte k j ≡ get_or (to_le_bytes w32 (normal_of (block_at o.entries own))) i 0
    entry_byte own i j lt is four less =
        let sector : (8 * v + j) / 4 ≡ own = omega (arith, is, four) in
        let part : (8 * v + j) % 4 ≡ i = omega (arith, is, four) in
        new_map j less
        ∙ pick_below ((8 * v + j) / 4) o.info.layout.external (get_or (to_le_bytes w32 (normal_of (block_at o.entries ((8 * v + j) / 4)))) ((8 * v + j) % 4) 0) (old_byte k j) (omega (arith, sector, lt))
        ∙ ap (λ (n : ℕ). get_or (to_le_bytes w32 (normal_of (block_at o.entries n))) ((8 * v + j) % 4) 0) sector
        ∙ ap (λ (n : ℕ). get_or (to_le_bytes w32 (normal_of (block_at o.entries own))) n 0) part

    -- a byte behind the entries
    later_byte : (j : ℕ) → j < 8 → o.info.layout.external ≤ (8 * v + j) / 4 → new_byte k j ≡ old_byte k j
    later_byte j less past =
        new_map j less
        ∙ pick_above ((8 * v + j) / 4) o.info.layout.external (get_or (to_le_bytes w32 (normal_of (block_at o.entries ((8 * v + j) / 4)))) ((8 * v + j) % 4) 0) (old_byte k j) past

    entry_small : (own : ℕ) → own < o.info.layout.external → normal_of (block_at o.entries own) < 2 ^ 32
    entry_small own lt = omega (arith, below own lt, ok.internal_few)

    -- the map word of a sector is this one
    map_here : (own : ℕ) → own / 2 ≡ v → map_place at o.info.layout own ≡ k
    map_here own half = omega (arith, half, k_is)

    module _ (lt : 2 * v < o.info.layout.external) where
      word_small : get_or now k 0 < 2 ^ 64
      word_small = subst (λ (i : ℕ). get_or now i 0 < 2 ^ 64) (map_here (2 * v) (omega arith)) (map_so.small (2 * v) lt)

      entry_here : (own : ℕ) → own < o.info.layout.external → own / 2 ≡ v → entry_in (get_or now k 0) own ≡ normal_of (block_at o.entries own)
      entry_here own lt' half = ap (λ (i : ℕ). entry_in (get_or now i 0) own) (sym (map_here own half)) ∙ so.entries own lt'

      -- the four bytes of an entry
      low_half : half_by (new_byte k) ≡ normal_of (block_at o.entries (2 * v))
      low_half =
          halves_same (new_byte k) (λ i. get_or (to_le_bytes w32 (normal_of (block_at o.entries (2 * v)))) i 0) (λ i four. entry_byte (2 * v) i i lt (omega arith) four (omega (arith, four)))
          ∙ half_of (normal_of (block_at o.entries (2 * v))) (entry_small (2 * v) lt)

      -- those of the odd sector, or the old ones
      high_half : half_by (λ i. new_byte k (4 + i)) ≡ entry_in (get_or now k 0) (2 * v + 1)
      high_half = elim (cases_lt (2 * v + 1) o.info.layout.external) [
        | inl two ↦
            halves_same (λ i. new_byte k (4 + i)) (λ i. get_or (to_le_bytes w32 (normal_of (block_at o.entries (2 * v + 1)))) i 0)
            (λ i four. entry_byte (2 * v + 1) i (4 + i) two (omega arith) four (omega (arith, four)))
            ∙ half_of (normal_of (block_at o.entries (2 * v + 1))) (entry_small (2 * v + 1) two)
            ∙ sym (entry_here (2 * v + 1) two (omega arith))
        | inr one ↦
            halves_same (λ i. new_byte k (4 + i)) (λ i. old_byte k (4 + i)) (λ i four. later_byte (4 + i) (omega (arith, four)) (omega (arith, one, four)))
            ∙ sym (odd_of_bytes (old_byte k) v (λ j less. subst (λ (n : ℕ). get_or row (8 * n + j) 0 < 256) (sym k_is) (map_bytes v j lt less)))
            ∙ ap (λ (w : ℕ). entry_in w (2 * v + 1)) (sym (word_is row k in_row))
            ∙ sym (ap (λ (i : ℕ). entry_in (get_or now i 0) (2 * v + 1)) (sym (map_here (2 * v + 1) (omega arith)))
            ∙ map_so.others (2 * v + 1) one
            ∙ ap (λ (i : ℕ). entry_in (get_or (words_in row) i 0) (2 * v + 1)) (map_here (2 * v + 1) (omega arith)))
      ]

      both_word : word_by (new_byte k) ≡ get_or now k 0
      both_word =
          two_halves (new_byte k)
          ∙ ap (λ (n : ℕ). n + 4294967296 * half_by (λ i. new_byte k (4 + i))) low_half
          ∙ ap (λ (n : ℕ). normal_of (block_at o.entries (2 * v)) + 4294967296 * n) high_half
          ∙ sym (two_entries (get_or now k 0) v (normal_of (block_at o.entries (2 * v))) (entry_in (get_or now k 0) (2 * v + 1))
          word_small (entry_here (2 * v) lt (omega arith)) refl)

    -- a word behind the entries
    past_word : o.info.layout.external ≤ 2 * v → word_by (new_byte k) ≡ get_or now k 0
    past_word past =
        same_word k in_row
        (record {
          no_map = λ own lt e. omega (arith, e, k_is, lt, past);
          no_block = λ own lt. inr (omega (arith, k_is, block_inside at o.info.layout (block_at o.entries own) ok (below own lt), ok.inner_enough));
        })
        (λ j less. later_byte j less (omega (arith, past)))

    map_word : word_by (new_byte k) ≡ get_or now k 0
    map_word = elim (cases_lt (2 * v) o.info.layout.external) [ inl lt ↦ both_word lt | inr past ↦ past_word past ]

  -- ---- all words

  each_word : (k : ℕ) → 8 * k + 8 ≤ length row → word_by (new_byte k) ≡ get_or now k 0
  each_word k in_row = elim (cases_lt k (at + o.info.layout.data_off / 8)) [
    | inl before ↦ before_word k in_row before
    | inr past ↦ elim (cases_lt k (at + o.info.layout.map_off / 8)) [
      | inl in_area ↦ data_word k (k - (at + o.info.layout.data_off / 8)) in_row (omega (arith, past)) in_area
      | inr maps ↦ elim (cases_lt k (at + o.info.layout.flog_off / 8)) [
        | inl in_area ↦ map_word k (k - (at + o.info.layout.map_off / 8)) in_row (omega (arith, maps)) in_area
        | inr behind ↦ behind_word k in_row behind
      ]
    ]
  ]

  pub arena_words : words_in (changed (byte_of_arena at o bytes) row) ≡ put_arena at o bytes (words_in row)
  arena_words = changed_words (byte_of_arena at o bytes) row (put_arena at o bytes (words_in row)) (so.size ∙ length_words row) each_word
