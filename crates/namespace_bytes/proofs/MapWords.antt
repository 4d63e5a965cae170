-- The map words of an arena whose sectors' bytes were put: they have no more than 64 bits, and the entries beside the sectors' stay.
use Rattle.std.proofs.Common.{◌≡◌, ◌≢◌, ℕ, zero, suc, ◌+◌, ◌*◌, ◌/◌, ◌%◌, ◌^◌, ◌<◌, ◌≤◌, Bool, true, false, eqb, List, length, get_or, refl, sym, ap, ◌∙◌, subst, inl, inr, arith}
use Rattle.std.specs.List.{range_with_len}
use Rattle.std.proofs.lemmas.Bool.{cases_eq, eq-eqb, ne_eqb}
use Rattle.std.proofs.lemmas.Nat.{from_le_bytes-to_le_bytes_4}
use Rattle.std.specs.Int.{w32, byte_worth, sum_through, to_le_bytes}
use Rattle.cut_words.specs.WordBytes.{words_in}
use Rattle.arena_layout.specs.Layout.{IsLayout}
use Rattle.map_table.specs.Entry.{entry_in, normal_of, with_entry}
use Rattle.arena_open.specs.declared.opened.Opened.{Opened}
use Rattle.namespace_bytes.specs.Putting.{arena_bytes, block_at, piece, put_sector, put_sectors}
use Rattle.namespace_bytes.proofs.All.{So, one_more, value_long}
use Rattle.namespace_bytes.proofs.ByteWords.{sums_same, word_by}
use Rattle.namespace_bytes.proofs.One.{block_inside, else_now, entry_else, map_place, word_now}

-- ---- a word of two entries

small_by : (even : Bool) (word own entry : ℕ) → word < 2 ^ 64 → entry < 2 ^ 32 → eqb (own % 2) 0 ≡ even → with_entry word own entry < 2 ^ 64
unfolding with_entry
small_by true word own entry small lt e = rw e (omega arith)
small_by false word own entry small lt e = rw e (omega arith)

with_small : (word own entry : ℕ) → word < 2 ^ 64 → entry < 2 ^ 32 → with_entry word own entry < 2 ^ 64
with_small word own entry small lt = small_by (eqb (own % 2) 0) word own entry small lt refl

even_in : (word v : ℕ) → entry_in word (2 * v) ≡ word % 2 ^ 32
unfolding entry_in
even_in word v =
    let even : eqb (2 * v % 2) 0 ≡ true = eq-eqb (2 * v % 2) 0 (omega arith) in
    rw even (omega arith)

odd_in : (word v : ℕ) → entry_in word (2 * v + 1) ≡ word / 2 ^ 32 % 2 ^ 32
unfolding entry_in
odd_in word v =
    let odd : eqb ((2 * v + 1) % 2) 0 ≡ false = ne_eqb ((2 * v + 1) % 2) 0 (λ e. omega arith) in
    rw odd refl

-- a word of 64 bits is its two entries
pub two_entries : (word v low high : ℕ) → word < 2 ^ 64 → entry_in word (2 * v) ≡ low → entry_in word (2 * v + 1) ≡ high → word ≡ low + 4294967296 * high
two_entries word v low high small even odd =
    let l : word % 2 ^ 32 ≡ low = sym (even_in word v) ∙ even in
    let h : word / 2 ^ 32 % 2 ^ 32 ≡ high = sym (odd_in word v) ∙ odd in
    omega (arith, l, h, small)

-- four bytes as a number
abbrev pub half_by : (ℕ → ℕ) → ℕ
half_by byte = sum_through (λ i. byte_worth i (byte i)) 3

pub halves_same : (f g : ℕ → ℕ) → ((i : ℕ) → i < 4 → f i ≡ g i) → half_by f ≡ half_by g
halves_same f g same = sums_same (λ i. byte_worth i (f i)) (λ i. byte_worth i (g i)) 3 (λ i le. ap (byte_worth i) (same i (omega (arith, le))))

-- eight bytes are two halves
pub two_halves : (byte : ℕ → ℕ) → word_by byte ≡ half_by byte + 4294967296 * half_by (λ i. byte (4 + i))
two_halves byte = omega arith

-- the bytes of a number
pub half_of : (n : ℕ) → n < 2 ^ 32 → half_by (λ i. get_or (to_le_bytes w32 n) i 0) ≡ n
half_of n lt = from_le_bytes-to_le_bytes_4 n lt

pub halves_below : (byte : ℕ → ℕ) → ((i : ℕ) → i < 4 → byte i < 256) → half_by byte < 2 ^ 32
halves_below byte small = omega (arith, small 0 (omega arith), small 1 (omega arith), small 2 (omega arith), small 3 (omega arith))

pub bytes_below : (byte : ℕ → ℕ) → ((i : ℕ) → i < 8 → byte i < 256) → word_by byte < 2 ^ 64
bytes_below byte small =
    omega (arith, two_halves byte, halves_below byte (λ i lt. small i (omega (arith, lt))), halves_below (λ i. byte (4 + i)) (λ i lt. small (4 + i) (omega (arith, lt))))

-- the odd entry of a word of bytes
pub odd_of_bytes : (byte : ℕ → ℕ) (v : ℕ) → ((i : ℕ) → i < 8 → byte i < 256) → entry_in (word_by byte) (2 * v + 1) ≡ half_by (λ i. byte (4 + i))
odd_of_bytes byte v small =
    odd_in (word_by byte) v
    ∙ omega (arith, two_halves byte, halves_below byte (λ i lt. small i (omega (arith, lt))), halves_below (λ i. byte (4 + i)) (λ i lt. small (4 + i) (omega (arith, lt))))

-- ---- while sectors are put

module _ (at : ℕ) (o : Opened) (bytes words : List ℕ) where
  -- the map words once the first n sectors were put
  pub record MapSo (n : ℕ) (now : List ℕ) : Type 0 where
    pub small : (own : ℕ) → own < o.info.layout.external → get_or now (map_place at o.info.layout own) 0 < 2 ^ 64
    pub others : (own : ℕ) → n ≤ own → entry_in (get_or now (map_place at o.info.layout own) 0) own ≡ entry_in (get_or words (map_place at o.info.layout own) 0) own

  pub map_before : ((own : ℕ) → own < o.info.layout.external → get_or words (map_place at o.info.layout own) 0 < 2 ^ 64) → MapSo 0 words
  map_before small = record { small = small; others = λ own le. refl }

  module _ (ok : IsLayout o.info.layout) (inside : at + o.info.layout.size / 8 ≤ length words) (fits : length bytes ≡ arena_bytes o)
      (below : (own : ℕ) → own < o.info.layout.external → block_at o.entries own < o.info.layout.internal)
      (apart : (a b : ℕ) → a < o.info.layout.external → b < o.info.layout.external → a ≢ b → block_at o.entries a ≢ block_at o.entries b) where
    module _ (n : ℕ) (now : List ℕ) (lt : n < o.info.layout.external) (s : So at o bytes words n now) (m : MapSo n now) where
      abbrev next : List ℕ
      next = put_sector at o.info.layout n (block_at o.entries n) (words_in (piece o.info.layout.sector n bytes)) now

      long : length (words_in (piece o.info.layout.sector n bytes)) ≡ o.info.layout.sector / 8
      long = value_long at o bytes words ok inside fits below apart n lt

      in_now : at + o.info.layout.size / 8 ≤ length now
      in_now = omega (arith, inside, s.size)

      entry_small : normal_of (block_at o.entries n) < 2 ^ 32
      entry_small = omega (arith, below n lt, ok.internal_few)

      small_next : (own : ℕ) → own < o.info.layout.external → get_or next (map_place at o.info.layout own) 0 < 2 ^ 64
      small_next own lt' = elim (cases_eq (own / 2) (n / 2)) [
        | inl same ↦
            subst (λ (w : ℕ). w < 2 ^ 64)
            (sym (ap (λ (i : ℕ). get_or next i 0) (let e : map_place at o.info.layout own ≡ map_place at o.info.layout n = omega (arith, same) in e)
            ∙ word_now at o.info.layout ok n (block_at o.entries n) (words_in (piece o.info.layout.sector n bytes)) now lt (below n lt) long in_now))
            (with_small (get_or now (map_place at o.info.layout n) 0) n (normal_of (block_at o.entries n)) (m.small n lt) entry_small)
        | inr ne ↦
            subst (λ (w : ℕ). w < 2 ^ 64)
            (sym (else_now at o.info.layout ok n (block_at o.entries n) (words_in (piece o.info.layout.sector n bytes)) now lt (below n lt) long in_now (map_place at o.info.layout own)
            (λ e. ne (omega (arith, e))) (inr (omega (arith, block_inside at o.info.layout (block_at o.entries n) ok (below n lt), ok.inner_enough)))))
            (m.small own lt')
      ]

      pub map_more : MapSo (n + 1) (put_sector at o.info.layout n (block_at o.entries n) (words_in (piece o.info.layout.sector n bytes)) now)
      map_more = record {
        small = small_next;
        others = λ own le.
            entry_else at o.info.layout ok n (block_at o.entries n) (words_in (piece o.info.layout.sector n bytes)) now lt (below n lt) long in_now own (λ e. omega (arith, e, le))
            ∙ m.others own (omega (arith, le));
      }

    pub all_maps : (m n : ℕ) (now : List ℕ) → n + m ≡ o.info.layout.external → So at o bytes words n now → MapSo n now
        → MapSo o.info.layout.external (put_sectors at o bytes (range_with_len n m) now)
    all_maps zero n now sum s is = subst (λ (k : ℕ). MapSo k now) (let e : n ≡ o.info.layout.external = omega (arith, sum) in e) is
    all_maps (suc m) n now sum s is =
        let lt : n < o.info.layout.external = omega (arith, sum) in
        all_maps m (n + 1) (put_sector at o.info.layout n (block_at o.entries n) (words_in (piece o.info.layout.sector n bytes)) now) (omega (arith, sum))
        (one_more at o bytes words ok inside fits below apart n now lt s)
        (map_more n now lt s is)
