-- The bytes of all sectors are put into an arena in a namespace's words.
use Rattle.std.proofs.Common.{◌≡◌, ◌≢◌, ◌⊎◌, ℕ, zero, suc, ◌+◌, ◌*◌, ◌/◌, ◌<◌, ◌≤◌, List, length, get_or, drop, refl, sym, ap, ◌∙◌, subst, inl, inr, arith}
use Rattle.std.specs.List.{range_with_len}
use Rattle.std.proofs.Math.Nat.{mul-le-mul_left}
use Rattle.std.proofs.lemmas.Bool.{cases_eq}
use Rattle.std.proofs.lemmas.List.{length-drop, length-take-le}
use Rattle.cut_words.specs.WordBytes.{words_in}
use Rattle.arena_layout.specs.Layout.{IsLayout}
use Rattle.map_table.specs.Entry.{entry_in, normal_of}
use Rattle.arena_open.specs.declared.opened.Opened.{Opened}
use Rattle.arena_open.proofs.Bytes.{length_words}
use Rattle.namespace_bytes.specs.Putting.{arena_bytes, block_at, piece, put_sector, put_sectors}
use Rattle.namespace_bytes.proofs.One.{block_inside, block_place, blocks_apart, else_now, entry_else, entry_now, map_place, size_now, value_now}

-- ---- the bytes of a sector

pub piece_fits : (size external own : ℕ) (bytes : List ℕ) → length bytes ≡ external * size → own < external → own * size + size ≤ length bytes
piece_fits size external own bytes long lt =
    let up : size * (own + 1) ≤ size * external = mul-le-mul_left size (let le : own + 1 ≤ external = omega arith in le) in
    omega (arith, up, long)

pub piece_long : (size external own : ℕ) (bytes : List ℕ) → length bytes ≡ external * size → own < external → length (piece size own bytes) ≡ size
piece_long size external own bytes long lt =
    length-take-le size (drop (own * size) bytes) (omega (arith, length-drop (own * size) bytes, piece_fits size external own bytes long lt))

module _ (at : ℕ) (o : Opened) (bytes words : List ℕ) where
  -- word i is none of the words of the first n sectors, and none of their map words
  pub record Beside (n i : ℕ) : Type 0 where
    pub no_map : (own : ℕ) → own < n → i ≢ map_place at o.info.layout own
    pub no_block : (own : ℕ) → own < n → (i < block_place at o.info.layout (block_at o.entries own)) ⊎ (block_place at o.info.layout (block_at o.entries own) + o.info.layout.sector / 8 ≤ i)

  -- the words once the first n sectors were put
  pub record So (n : ℕ) (now : List ℕ) : Type 0 where
    pub size : length now ≡ length words
    pub rest : (i : ℕ) → Beside n i → get_or now i 0 ≡ get_or words i 0
    pub values : (own k : ℕ) → own < n → k < o.info.layout.sector / 8 → get_or now (block_place at o.info.layout (block_at o.entries own) + k) 0 ≡ get_or (words_in (piece o.info.layout.sector own bytes)) k 0
    pub entries : (own : ℕ) → own < n → entry_in (get_or now (map_place at o.info.layout own) 0) own ≡ normal_of (block_at o.entries own)

  pub none_put : So 0 words
  none_put = record {
    size = refl;
    rest = λ i b. refl;
    values = λ own k lt in'. absurd (omega (arith, lt));
    entries = λ own lt. absurd (omega (arith, lt));
  }

  module _ (ok : IsLayout o.info.layout) (inside : at + o.info.layout.size / 8 ≤ length words) (fits : length bytes ≡ arena_bytes o)
      (below : (own : ℕ) → own < o.info.layout.external → block_at o.entries own < o.info.layout.internal)
      (apart : (a b : ℕ) → a < o.info.layout.external → b < o.info.layout.external → a ≢ b → block_at o.entries a ≢ block_at o.entries b) where
    pub value_long : (own : ℕ) → own < o.info.layout.external → length (words_in (piece o.info.layout.sector own bytes)) ≡ o.info.layout.sector / 8
    value_long own lt = length_words (piece o.info.layout.sector own bytes) ∙ ap (λ (n : ℕ). n / 8) (piece_long o.info.layout.sector o.info.layout.external own bytes fits lt)

    module _ (n : ℕ) (now : List ℕ) (lt : n < o.info.layout.external) (s : So n now) where
      in_now : at + o.info.layout.size / 8 ≤ length now
      in_now = omega (arith, inside, s.size)

      abbrev next : List ℕ
      next = put_sector at o.info.layout n (block_at o.entries n) (words_in (piece o.info.layout.sector n bytes)) now

      else_next : (i : ℕ) → i ≢ map_place at o.info.layout n → (i < block_place at o.info.layout (block_at o.entries n)) ⊎ (block_place at o.info.layout (block_at o.entries n) + o.info.layout.sector / 8 ≤ i)
          → get_or next i 0 ≡ get_or now i 0
      else_next = else_now at o.info.layout ok n (block_at o.entries n) (words_in (piece o.info.layout.sector n bytes)) now lt (below n lt) (value_long n lt) in_now

      -- the words of another sector's block
      in_other : (own k : ℕ) → own < n → k < o.info.layout.sector / 8 → get_or next (block_place at o.info.layout (block_at o.entries own) + k) 0 ≡ get_or now (block_place at o.info.layout (block_at o.entries own) + k) 0
      in_other own k lt' in' =
          else_next (block_place at o.info.layout (block_at o.entries own) + k)
          (λ e. omega (arith, e, in', ok.inner_enough, block_inside at o.info.layout (block_at o.entries own) ok (below own (omega (arith, lt, lt')))))
          (elim (blocks_apart at o.info.layout (block_at o.entries own) (block_at o.entries n) (apart own n (omega (arith, lt, lt')) lt (λ e. omega (arith, e, lt')))) [
            | inl low ↦ inl (omega (arith, low, in', ok.inner_enough))
            | inr high ↦ inr (omega (arith, high, ok.inner_enough))
          ])

      values_next : (own k : ℕ) → own < n + 1 → k < o.info.layout.sector / 8 → get_or next (block_place at o.info.layout (block_at o.entries own) + k) 0 ≡ get_or (words_in (piece o.info.layout.sector own bytes)) k 0
      values_next own k lt' in' = elim (cases_eq own n) [
        | inl same ↦
            ap (λ (j : ℕ). get_or next (block_place at o.info.layout (block_at o.entries j) + k) 0) same
            ∙ value_now at o.info.layout ok n (block_at o.entries n) (words_in (piece o.info.layout.sector n bytes)) now lt (below n lt) (value_long n lt) in_now k in'
            ∙ ap (λ (j : ℕ). get_or (words_in (piece o.info.layout.sector j bytes)) k 0) (sym same)
        | inr ne ↦ let before : own < n = omega (arith, lt', ne) in in_other own k before in' ∙ s.values own k before in'
      ]

      entries_next : (own : ℕ) → own < n + 1 → entry_in (get_or next (map_place at o.info.layout own) 0) own ≡ normal_of (block_at o.entries own)
      entries_next own lt' = elim (cases_eq own n) [
        | inl same ↦
            ap (λ (j : ℕ). entry_in (get_or next (map_place at o.info.layout j) 0) j) same
            ∙ entry_now at o.info.layout ok n (block_at o.entries n) (words_in (piece o.info.layout.sector n bytes)) now lt (below n lt) (value_long n lt) in_now
            ∙ ap (λ (j : ℕ). normal_of (block_at o.entries j)) (sym same)
        | inr ne ↦
            entry_else at o.info.layout ok n (block_at o.entries n) (words_in (piece o.info.layout.sector n bytes)) now lt (below n lt) (value_long n lt) in_now own ne
            ∙ s.entries own (omega (arith, lt', ne))
      ]

      pub one_more : So (n + 1) (put_sector at o.info.layout n (block_at o.entries n) (words_in (piece o.info.layout.sector n bytes)) now)
      one_more = record {
        size = size_now at o.info.layout ok n (block_at o.entries n) (words_in (piece o.info.layout.sector n bytes)) now lt (below n lt) (value_long n lt) in_now ∙ s.size;
        rest = λ i b. else_next i (b.no_map n (omega arith)) (b.no_block n (omega arith))
            ∙ s.rest i (record { no_map = λ own lt'. b.no_map own (omega (arith, lt')); no_block = λ own lt'. b.no_block own (omega (arith, lt')) });
        values = values_next;
        entries = entries_next;
      }

    pub all_put : (m n : ℕ) (now : List ℕ) → n + m ≡ o.info.layout.external → So n now → So o.info.layout.external (put_sectors at o bytes (range_with_len n m) now)
    all_put zero n now sum s = subst (λ (k : ℕ). So k now) (let e : n ≡ o.info.layout.external = omega (arith, sum) in e) s
    all_put (suc m) n now sum s =
        all_put m (n + 1) (put_sector at o.info.layout n (block_at o.entries n) (words_in (piece o.info.layout.sector n bytes)) now) (omega (arith, sum)) (one_more n now (omega (arith, sum)) s)
