-- One sector's bytes are put into an arena in a namespace's words.
use Rattle.std.proofs.Common.{◌≡◌, ◌≢◌, ◌⊎◌, ℕ, ◌+◌, ◌*◌, ◌/◌, ◌^◌, ◌<◌, ◌≤◌, List, [], ◌∷◌, ◌++◌, length, get_or, take, drop, sym, ap, ◌∙◌, inl, inr, arith}
use Rattle.std.proofs.Math.Nat.{mul-le-mul_left}
use Rattle.std.proofs.lemmas.Bool.{cases_eq, cases_order}
use Rattle.std.proofs.lemmas.List.{get_or-append_right, get_or_append_left, length-take-le}
use Rattle.cut_words.specs.WordBytes.{put_at}
use Rattle.cut_words.proofs.Put.{length_put, put_outside}
use Rattle.arena_layout.specs.declared.layout.Layout.{Layout}
use Rattle.arena_layout.specs.Layout.{IsLayout}
use Rattle.map_table.specs.Entry.{entry_in, normal_of, with_entry}
use Rattle.map_table.proofs.Entries.{other_stays, put_back}
use Rattle.arena_open.proofs.Apart.{ordered}
use Rattle.namespace_bytes.specs.Putting.{put_sector}

-- ---- words that are put

pub put_inside : (words : List ℕ) (at : ℕ) (others : List ℕ) (i : ℕ) → at + length others ≤ length words → i < length others → get_or (put_at words at others) (at + i) 0 ≡ get_or others i 0
put_inside words at others i fits lt =
    get_or-append_right (take at words) (others ++ drop (at + length others) words) at (at + i) 0 (length-take-le at words (omega arith)) (omega arith)
    ∙ ap (λ (k : ℕ). get_or (others ++ drop (at + length others) words) k 0) (omega arith)
    ∙ get_or_append_left others (drop (at + length others) words) 0 i lt

-- ---- the places

module _ (at : ℕ) (l : Layout) where
  -- the first word of a block
  abbrev pub block_place : ℕ → ℕ
  block_place block = at + l.data_off / 8 + block * (l.inner / 8)

  -- the map word of a sector
  abbrev pub map_place : ℕ → ℕ
  map_place own = at + l.map_off / 8 + own / 2

pub block_inside : (at : ℕ) (l : Layout) (block : ℕ) → IsLayout l → block < l.internal → block_place at l block + l.inner / 8 ≤ at + l.map_off / 8
block_inside at l block ok lt =
    let up : l.inner / 8 * (block + 1) ≤ l.inner / 8 * l.internal = mul-le-mul_left (l.inner / 8) (let le : block + 1 ≤ l.internal = omega arith in le) in
    omega (arith, up, ordered l ok)

pub blocks_apart : (at : ℕ) (l : Layout) (a b : ℕ) → a ≢ b → (block_place at l a + l.inner / 8 ≤ block_place at l b) ⊎ (block_place at l b + l.inner / 8 ≤ block_place at l a)
blocks_apart at l a b ne = elim (cases_order a b) [
  | inl e ↦ absurd (ne e)
  | inr (inl lt) ↦ let up : l.inner / 8 * (a + 1) ≤ l.inner / 8 * b = mul-le-mul_left (l.inner / 8) (let le : a + 1 ≤ b = omega arith in le) in inl (omega (arith, up))
  | inr (inr gt) ↦ let up : l.inner / 8 * (b + 1) ≤ l.inner / 8 * a = mul-le-mul_left (l.inner / 8) (let le : b + 1 ≤ a = omega arith in le) in inr (omega (arith, up))
]

-- ---- the words afterwards

module _ (at : ℕ) (l : Layout) (ok : IsLayout l) (own block : ℕ) (value words : List ℕ) (lt : own < l.external) (block_lt : block < l.internal) (fits : length value ≡ l.sector / 8) (inside : at + l.size / 8 ≤ length words) where
  abbrev p : ℕ
  p = block_place at l block

  abbrev q : ℕ
  q = map_place at l own

  short : l.sector / 8 ≤ l.inner / 8
  short = omega (arith, ok.inner_enough)

  room : p + length value ≤ at + l.map_off / 8
  room = omega (arith, block_inside at l block ok block_lt, short, fits)

  in_words : p + length value ≤ length words
  in_words = omega (arith, room, ordered l ok, inside)

  q_in : q + 1 ≤ at + l.flog_off / 8
  q_in = omega (arith, ordered l ok, lt)

  abbrev mid : List ℕ
  mid = put_at words p value

  mid_long : length mid ≡ length words
  mid_long = length_put words p value in_words

  word : ℕ
  word = with_entry (get_or mid q 0) own (normal_of block)

  abbrev now : List ℕ
  now = put_sector at l own block value words

  q_words : q + 1 ≤ length mid
  q_words = omega (arith, mid_long, q_in, ordered l ok, inside)

  pub size_now : length now ≡ length words
  size_now = length_put mid q (with_entry (get_or mid q 0) own (normal_of block) ∷ []) q_words ∙ mid_long

  past_map : (i : ℕ) → i ≢ q → get_or now i 0 ≡ get_or mid i 0
  past_map i ne = put_outside mid q (with_entry (get_or mid q 0) own (normal_of block) ∷ []) i q_words (elim (cases_order i q) [
    | inl e ↦ absurd (ne e)
    | inr (inl low) ↦ inl low
    | inr (inr high) ↦ inr (omega (arith, high))
  ])

  pub else_now : (i : ℕ) → i ≢ q → (i < p) ⊎ (p + l.sector / 8 ≤ i) → get_or now i 0 ≡ get_or words i 0
  else_now i ne out = past_map i ne ∙ put_outside words p value i in_words (elim out [ inl low ↦ inl low | inr high ↦ inr (omega (arith, high, fits)) ])

  pub value_now : (k : ℕ) → k < l.sector / 8 → get_or now (p + k) 0 ≡ get_or value k 0
  value_now k in' = past_map (p + k) (λ e. omega (arith, e, room, fits, in')) ∙ put_inside words p value k in_words (omega (arith, in', fits))

  pub word_now : get_or now q 0 ≡ with_entry (get_or words q 0) own (normal_of block)
  word_now =
      ap (λ (i : ℕ). get_or now i 0) (let e : q ≡ q + 0 = omega arith in e)
      ∙ put_inside mid q (with_entry (get_or mid q 0) own (normal_of block) ∷ []) 0 q_words (omega arith)
      ∙ ap (λ (w : ℕ). with_entry w own (normal_of block)) (put_outside words p value q in_words (inr (omega (arith, room))))

  small : normal_of block < 2 ^ 32
  small = omega (arith, block_lt, ok.internal_few)

  pub entry_now : entry_in (get_or now q 0) own ≡ normal_of block
  entry_now = ap (λ (w : ℕ). entry_in w own) word_now ∙ put_back (get_or words q 0) own (normal_of block) small

  pub entry_else : (other : ℕ) → other ≢ own → entry_in (get_or now (map_place at l other) 0) other ≡ entry_in (get_or words (map_place at l other) 0) other
  entry_else other ne = elim (cases_eq (other / 2) (own / 2)) [
    | inl same ↦
        let there : map_place at l other ≡ q = omega (arith, same) in
        ap (λ (i : ℕ). entry_in (get_or now i 0) other) there ∙ ap (λ (w : ℕ). entry_in w other) word_now
        ∙ other_stays (get_or words q 0) own (normal_of block) other small (λ e. ne (omega (arith, e, same)))
        ∙ ap (λ (i : ℕ). entry_in (get_or words i 0) other) (sym there)
    | inr apart ↦ ap (λ (w : ℕ). entry_in w other) (else_now (map_place at l other) (λ e. apart (omega (arith, e))) (inr (omega (arith, room, fits))))
  ]
