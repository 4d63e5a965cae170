-- Marking the entries of bad sectors: each entry keeps its block, a marked one is Bad, and no other changes.
use Rattle.std.proofs.Common.{◌≡◌, ℕ, zero, suc, ◌+◌, ◌/◌, ◌%◌, ◌^◌, ◌<◌, ◌≤◌, Bool, true, false, cond, eqb, leb, List, [], ◌∷◌, ◌++◌, length, get_or, refl, sym, ap, ◌∙◌, subst, arith}
use Rattle.std.specs.Prelude.{filter}
use Rattle.std.specs.List.{All, range_with_len}
use Rattle.std.proofs.lemmas.Bool.{eq-eqb, ne_eqb, leb-true, leb-false}
use Rattle.std.proofs.lemmas.List.{ext_get_or}
use Rattle.std.proofs.lemmas.List.FromFn.{length-map-range_with_len, get_or-map-range_with_len}
use Rattle.arena_layout.specs.declared.layout.Layout.{Layout}
use Rattle.map_table.specs.declared.kinds.MapEntry.{MapEntry}
use Rattle.map_table.specs.declared.kinds.Kind.TheVariants as kind
use Rattle.map_table.specs.Entry.{entry_of}
use Rattle.map_table.specs.Blocks.{blocks_from, blocks_of}
use Rattle.arena_open.proofs.OnceMore.{block_index, length_blocks}
use Rattle.arena_check.specs.Check.{is_bad_data, bad_sectors}
use Rattle.arena_check.proofs.Clean.{nothing_from}
use Rattle.arena_repair.specs.Repair.{bad_of, marked_entry, marked_map}

-- ---- one entry

pub bad_back : (block sector : ℕ) → block < 2 ^ 30 → entry_of (bad_of block) sector ≡ record { kind = kind.Bad; block = block }
unfolding entry_of
bad_back block sector lt =
    let zero : eqb (bad_of block / 2 ^ 31 % 2) 1 ≡ false = ne_eqb (bad_of block / 2 ^ 31 % 2) 1 (λ e. omega arith) in
    let error : eqb (bad_of block / 2 ^ 30 % 2) 1 ≡ true = eq-eqb (bad_of block / 2 ^ 30 % 2) 1 (omega arith) in
    let bits : bad_of block % 2 ^ 30 ≡ block = omega arith in
    rw (zero, error) (λ i. record { kind = kind.Bad; block = bits i })

module _ (l : Layout) (bad : ℕ → Bool) (sector word : ℕ) (small : (entry_of word sector).block < 2 ^ 30) where
  block_by : (b : Bool) → (entry_of (cond b (bad_of (entry_of word sector).block) word) sector).block ≡ (entry_of word sector).block
  block_by true = ap (λ (e : MapEntry). e.block) (bad_back (entry_of word sector).block sector small)
  block_by false = refl

  pub marked_block : (entry_of (marked_entry l bad sector word) sector).block ≡ (entry_of word sector).block
  marked_block = block_by (is_bad_data l bad (entry_of word sector))

  healed_by : (b : Bool) → is_bad_data l bad (entry_of word sector) ≡ b → is_bad_data l bad (entry_of (cond b (bad_of (entry_of word sector).block) word) sector) ≡ false
  healed_by true is = ap (is_bad_data l bad) (bad_back (entry_of word sector).block sector small)
  healed_by false is = is

  pub marked_healed : is_bad_data l bad (entry_of (marked_entry l bad sector word) sector) ≡ false
  marked_healed = healed_by (is_bad_data l bad (entry_of word sector)) refl

  small_by : (b : Bool) → word < 2 ^ 32 → cond b (bad_of (entry_of word sector).block) word < 2 ^ 32
  small_by true lt = omega (arith, small)
  small_by false lt = lt

  pub marked_small : word < 2 ^ 32 → marked_entry l bad sector word < 2 ^ 32
  marked_small = small_by (is_bad_data l bad (entry_of word sector))

-- ---- all entries

pub block_at : (entries : List ℕ) (k : ℕ) → k < length entries → get_or (blocks_from 0 entries) k 0 ≡ (entry_of (get_or entries k 0) k).block
block_at entries k lt = block_index 0 entries k lt ∙ ap (λ (s : ℕ). (entry_of (get_or entries k 0) s).block) (let p : 0 + k ≡ k = omega arith in p)

pub small_at : (entries : List ℕ) → All (λ b. b < 2 ^ 30) (blocks_from 0 entries) → (k : ℕ) → k < length entries → (entry_of (get_or entries k 0) k).block < 2 ^ 30
small_at entries few k lt = subst (λ (b : ℕ). b < 2 ^ 30) (block_at entries k lt) (few k 0 (omega (arith, lt, length_blocks 0 entries)))

-- a filter of numbers that lets nothing through
head_fails : (p : ℕ → Bool) (x : ℕ) (xs : List ℕ) (b : Bool) → p x ≡ b → cond b (x ∷ filter p xs) (filter p xs) ≡ [] → (p x ≡ false) × (filter p xs ≡ [])
head_fails p x xs true is e = absurd (let f = e in cc)
head_fails p x xs false is e = (is, e)

pub numbers_fail : (p : ℕ → Bool) (a n : ℕ) → filter p (range_with_len a n) ≡ [] → (b : ℕ) → a ≤ b → b < a + n → p b ≡ false
numbers_fail p a zero e b low high = absurd (omega (arith, low, high))
numbers_fail p a (suc n) e b low high =
    let both = head_fails p a (range_with_len (a + 1) n) (p a) refl e in
    elim (leb (a + 1) b) as (λ t. leb (a + 1) b ≡ t → p b ≡ false) [
      | true ↦ λ is. numbers_fail p (a + 1) n both.1 b (leb-true (a + 1) b is) (omega (arith, high))
      | false ↦ λ is. ap p (let same : b ≡ a = omega (arith, low, leb-false (a + 1) b is) in same) ∙ both.0
    ] refl

module _ (l : Layout) (bad : ℕ → Bool) (entries : List ℕ) where
  pub length_marked : length (marked_map l bad entries) ≡ length entries
  length_marked = length-map-range_with_len (λ sector. marked_entry l bad sector (get_or entries sector 0)) 0 (length entries)

  pub marked_at : (k : ℕ) → k < length entries → get_or (marked_map l bad entries) k 0 ≡ marked_entry l bad k (get_or entries k 0)
  marked_at k lt = get_or-map-range_with_len (λ sector. marked_entry l bad sector (get_or entries sector 0)) 0 (length entries) k k 0 lt (omega arith)

  pub marked_small_all : All (λ b. b < 2 ^ 30) (blocks_from 0 entries) → All (λ entry. entry < 2 ^ 32) entries → All (λ entry. entry < 2 ^ 32) (marked_map l bad entries)
  marked_small_all few fit k d lt =
      let lt' : k < length entries = omega (arith, lt, length_marked) in
      let at : get_or (marked_map l bad entries) k d ≡ marked_entry l bad k (get_or entries k 0) =
      get_or-map-range_with_len (λ sector. marked_entry l bad sector (get_or entries sector 0)) 0 (length entries) k k d lt' (omega arith) in
      subst (λ (x : ℕ). x < 2 ^ 32) (sym at) (marked_small l bad k (get_or entries k 0) (small_at entries few k lt') (fit k 0 lt'))

  module _ (few : All (λ b. b < 2 ^ 30) (blocks_from 0 entries)) where
    -- the blocks stay
    pub marked_blocks : blocks_from 0 (marked_map l bad entries) ≡ blocks_from 0 entries
    marked_blocks =
        ext_get_or 0 (blocks_from 0 (marked_map l bad entries)) (blocks_from 0 entries)
        (length_blocks 0 (marked_map l bad entries) ∙ length_marked ∙ sym (length_blocks 0 entries))
        (λ k lt.
        let here : k < length entries = omega (arith, lt, length_blocks 0 (marked_map l bad entries), length_marked) in
        block_at (marked_map l bad entries) k (omega (arith, here, length_marked))
        ∙ ap (λ (w : ℕ). (entry_of w k).block) (marked_at k here)
        ∙ marked_block l bad k (get_or entries k 0) (small_at entries few k here)
        ∙ sym (block_at entries k here))

    pub marked_blocks_of : (free : List ℕ) → blocks_of (marked_map l bad entries) free ≡ blocks_of entries free
    marked_blocks_of free = ap (λ (bs : List ℕ). bs ++ free) marked_blocks

    -- no sector has bad data any more
    pub none_bad : length entries ≡ l.external → bad_sectors l bad (marked_map l bad entries) ≡ []
    none_bad len =
        nothing_from (λ sector. is_bad_data l bad (entry_of (get_or (marked_map l bad entries) sector 0) sector)) 0 l.external
        (λ k low high.
        let here : k < length entries = omega (arith, high, len) in
        ap (λ (w : ℕ). is_bad_data l bad (entry_of w k)) (marked_at k here) ∙ marked_healed l bad k (get_or entries k 0) (small_at entries few k here))

  -- where no sector has bad data, all entries stay
  pub marked_none : length entries ≡ l.external → bad_sectors l bad entries ≡ [] → marked_map l bad entries ≡ entries
  marked_none len none =
      ext_get_or 0 (marked_map l bad entries) entries length_marked
      (λ k lt.
      let here : k < length entries = omega (arith, lt, length_marked) in
      let fine : is_bad_data l bad (entry_of (get_or entries k 0) k) ≡ false =
      numbers_fail (λ sector. is_bad_data l bad (entry_of (get_or entries sector 0) sector)) 0 l.external none k (omega arith) (omega (arith, here, len)) in
      marked_at k here ∙ ap (λ (b : Bool). cond b (bad_of (entry_of (get_or entries k 0) k).block) (get_or entries k 0)) fine)
