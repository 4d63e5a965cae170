-- The bytes of sectors, put into pieces of a namespace.
use Rattle.std.proofs.Common.{◌≡◌, ◌≢◌, ◌⊎◌, ℕ, suc, ◌+◌, ◌-◌, ◌*◌, ◌/◌, ◌%◌, ◌^◌, ◌<◌, ◌≤◌, Bool, true, false, List, ◌∷◌, ◌++◌, length, take, drop, get_or, replicate, Option, Some, None, refl, sym, ap, ◌∙◌, subst, arith, inl, inr}
use Rattle.std.specs.Prelude.{◌==◌, if◌then◌else◌, nat_lt, IsTrue}
use Rattle.std.specs.Int.{w32, to_le_bytes}
use Rattle.std.proofs.Math.ListN.{set}
use Rattle.std.proofs.Math.Nat.{mul-le-mul_left}
use Rattle.std.proofs.Math.Seq.{drop-cons}
use Rattle.std.proofs.lemmas.Bool.{cases_eq, cases_lt}
use Rattle.std.proofs.lemmas.Bool.Decides.{nat_tests}
use Rattle.std.proofs.lemmas.List.{drop_all, ext_get_or, get_or-drop, get_or-replicate, get_or-set_other, get_or-set_same, get_or-take, length-drop, length-take-le}
use Rattle.std.proofs.lemmas.Nat.{div-add-mod', div-mul-add}
use Rattle.map_table.specs.Entry.{normal_of}
use Rattle.arena_layout.specs.declared.layout.Layout.{Layout}
use Rattle.arena_layout.specs.Layout.{IsLayout, is_sector}
use Rattle.arena_open.specs.declared.opened.Opened.{Opened}
use Rattle.namespace_bytes.specs.declared.block_owners.ArenaOwners.{ArenaOwners}
use Rattle.namespace_bytes.specs.Putting.{block_at}
use Rattle.namespace_bytes.specs.SectorBytes.{block_byte, data_byte, map_byte, owner_from, owner_of}
use Rattle.namespace_bytes.specs.Changed.{changed_from, changed_front}
use Rattle.namespace_bytes.specs.SectorPut.{IsOwned, owner_number}
use Rattle.namespace_bytes.proofs.All.{piece_fits}
use Rattle.namespace_bytes.proofs.Owners.{owner_is}
use Rattle.namespace_bytes.proofs.Patched.{at_row, length_row, row_kept}

-- ---- the first bytes of a piece

long_front : (f : ℕ → ℕ → ℕ) (at n : ℕ) (row : List ℕ) → n ≤ length row → length (take n (changed_from f at row)) ≡ n
long_front f at n row le = length-take-le n (changed_from f at row) (omega (arith, le, length_row (λ _ i old. f i old) 0 at row))

at_front : (f : ℕ → ℕ → ℕ) (at n : ℕ) (row : List ℕ) → n ≤ length row → (k : ℕ) → k < n → get_or (take n (changed_from f at row)) k 0 ≡ f (at + k) (get_or row k 0)
at_front f at n row le k lt = get_or-take n (changed_from f at row) k 0 lt ∙ at_row (λ _ i old. f i old) 0 at row k (omega (arith, lt, le))

-- they are these
pub front_is : (f : ℕ → ℕ → ℕ) (at n : ℕ) (row new : List ℕ) → n ≤ length row → length new ≡ n → ((k : ℕ) → k < n → get_or new k 0 ≡ f (at + k) (get_or row k 0))
    → new ++ drop n row ≡ changed_front f at n row
front_is f at n row new le long each =
    ap (λ (xs : List ℕ). xs ++ drop n row)
    (ext_get_or 0 new (take n (changed_from f at row)) (long ∙ sym (long_front f at n row le)) (λ k lt.
    let less : k < n = omega (arith, lt, long) in
    each k less ∙ sym (at_front f at n row le k less)))

-- they have the same values by another rule
pub front_as : (f g : ℕ → ℕ → ℕ) (at there n : ℕ) (row : List ℕ) → n ≤ length row → ((k old : ℕ) → k < n → g (there + k) old ≡ f (at + k) old) → changed_front g there n row ≡ changed_front f at n row
front_as f g at there n row le same =
    front_is f at n row (take n (changed_from g there row)) le (long_front g there n row le)
    (λ k lt. at_front g there n row le k lt ∙ same k (get_or row k 0) lt)

-- they stay
pub front_kept : (f : ℕ → ℕ → ℕ) (at n : ℕ) (row : List ℕ) → n ≤ length row → ((k old : ℕ) → k < n → f (at + k) old ≡ old) → row ≡ changed_front f at n row
front_kept f at n row le same = row_kept (λ _ i old. f i old) 0 at row n le (λ k lt. same k (get_or row k 0) lt)

-- ---- the sector of a block

cases_option : (o : Option ℕ) → (o ≡ None) ⊎ ((n : ℕ) × (o ≡ Some n))
cases_option None = inl refl
cases_option (Some n) = inr (n, refl)

pub if_true : {X : Type 0} (b : Bool) (x y : X) → b ≡ true → (if b then x else y) ≡ x
if_true b x y e = rw e refl

pub if_false : {X : Type 0} (b : Bool) (x y : X) → b ≡ false → (if b then x else y) ≡ y
if_false b x y e = rw e refl

is_same : (a b : ℕ) → a ≡ b → (a == b) ≡ true
is_same a b e = grind (arith, nat_tests)

is_other : (a b : ℕ) → a ≢ b → (a == b) ≡ false
is_other a b ne = grind (arith, nat_tests)

pub less : (a b : ℕ) → a < b → nat_lt a b ≡ true
less a b lt = grind (arith, nat_tests)

pub not_less : (a b : ℕ) → b ≤ a → nat_lt a b ≡ false
not_less a b le = grind (arith, nat_tests)

module _ (a : ArenaOwners) (is : IsOwned a) where
  pub owner_below : (block own : ℕ) → owner_of a.opened block ≡ Some own → (own < a.opened.info.layout.external) × (block < a.opened.info.layout.internal)
  owner_below block own found =
      let here = owner_is a.opened block own found in
      let lt : own < a.opened.info.layout.external = omega (arith, here.0, is.blocks.entries) in
      (lt, subst (λ (b : ℕ). b < a.opened.info.layout.internal) here.1 (is.blocks.below own lt))

  few : (own : ℕ) → own < a.opened.info.layout.external → own < 2 ^ 32 - 1
  few own lt = omega (arith, lt, is.blocks.layout.internal_is, is.blocks.layout.internal_few)

  -- the table has it
  pub some_owner : (block : ℕ) → block < a.opened.info.layout.internal → get_or a.owners block 0 ≢ 2 ^ 32 - 1 → Some (get_or a.owners block 0) ≡ owner_of a.opened block
  some_owner block lt ne = elim (cases_option (owner_of a.opened block)) [
    | inl none ↦ absurd (ne (is.each block lt ∙ ap owner_number none))
    | inr some ↦ ap Some (is.each block lt ∙ ap owner_number some.1) ∙ sym some.1
  ]

  pub no_owner : (block : ℕ) → block < a.opened.info.layout.internal → get_or a.owners block 0 ≡ 2 ^ 32 - 1 → None ≡ owner_of a.opened block
  no_owner block lt e = elim (cases_option (owner_of a.opened block)) [
    | inl none ↦ sym none
    | inr some ↦ absurd (omega (arith, few some.0 (owner_below block some.0 some.1).0, e, is.each block lt ∙ ap owner_number some.1))
  ]

  pub past_owner : (block : ℕ) → a.opened.info.layout.internal ≤ block → None ≡ owner_of a.opened block
  past_owner block le = elim (cases_option (owner_of a.opened block)) [
    | inl none ↦ sym none
    | inr some ↦ absurd (omega (arith, le, (owner_below block some.0 some.1).1))
  ]

pub owner_at : (o : Opened) (at inner : ℕ) (found owner : Option ℕ) → inner ≡ o.info.layout.inner → found ≡ owner_of o (at / inner) → found ≡ owner → owner_of o (at / o.info.layout.inner) ≡ owner
owner_at o at inner found owner same is here = ap (λ (n : ℕ). owner_of o (at / n)) (sym same) ∙ sym is ∙ here

-- ---- the table

-- the entry of one more sector, from the last to the first
pub owners_more : (entries owners : List ℕ) (own : ℕ) → own < length entries
    → ((block : ℕ) → block < length owners → get_or owners block 0 ≡ owner_number (owner_from (own + 1) (drop (own + 1) entries) block))
    → (block : ℕ) → block < length owners → get_or (set owners (block_at entries own) own) block 0 ≡ owner_number (owner_from own (drop own entries) block)
owners_more entries owners own lt each block in' =
    let is : drop own entries ≡ get_or entries own 0 ∷ drop (own + 1) entries = drop-cons entries own 0 lt ∙ ap (λ (n : ℕ). get_or entries own 0 ∷ drop n entries) (let e : suc own ≡ own + 1 = omega arith in e) in
    elim (cases_eq block (block_at entries own)) [
      | inl same ↦
          ap (λ (b : ℕ). get_or (set owners (block_at entries own) own) b 0) same
          ∙ get_or-set_same owners (block_at entries own) own 0 (omega (arith, in', same))
          ∙ sym (ap owner_number (ap (λ (es : List ℕ). owner_from own es block) is
          ∙ if_true (block_at entries own == block) (Some own) (owner_from (own + 1) (drop (own + 1) entries) block) (is_same (block_at entries own) block (sym same))))
      | inr ne ↦
          get_or-set_other owners (block_at entries own) block own 0 ne
          ∙ each block in'
          ∙ sym (ap owner_number (ap (λ (es : List ℕ). owner_from own es block) is
          ∙ if_false (block_at entries own == block) (Some own) (owner_from (own + 1) (drop (own + 1) entries) block) (is_other (block_at entries own) block (λ e. ne (sym e)))))
    ]

-- no entry is read yet
pub owners_none : (entries : List ℕ) (own n block : ℕ) → length entries ≤ own → block < n → get_or (replicate n (2 ^ 32 - 1)) block 0 ≡ owner_number (owner_from own (drop own entries) block)
owners_none entries own n block past lt =
    get_or-replicate n block (2 ^ 32 - 1) 0 lt ∙ sym (ap (λ (es : List ℕ). owner_number (owner_from own es block)) (drop_all own entries past))

-- ---- a sector's bytes

pub sector_inside : (l : Layout) (own from size : ℕ) (bytes : List ℕ) → own < l.external → length bytes ≡ l.external * l.sector → from + size ≤ l.sector → own * l.sector + from + size ≤ length bytes
sector_inside l own from size bytes lt long fits = omega (arith, piece_fits l.sector l.external own bytes long lt, fits)

pub sector_put : (l : Layout) (own from size : ℕ) (bytes row : List ℕ) → own < l.external → length bytes ≡ l.external * l.sector → from + size ≤ l.sector → size ≤ length row
    → take size (drop (own * l.sector + from) bytes) ++ drop size row ≡ changed_front (block_byte l bytes (Some own)) from size row
sector_put l own from size bytes row lt long fits le =
    front_is (block_byte l bytes (Some own)) from size row (take size (drop (own * l.sector + from) bytes)) le
    (length-take-le size (drop (own * l.sector + from) bytes) (omega (arith, length-drop (own * l.sector + from) bytes, sector_inside l own from size bytes lt long fits)))
    (λ k small.
    get_or-take size (drop (own * l.sector + from) bytes) k 0 small
    ∙ get_or-drop (own * l.sector + from) bytes k 0
    ∙ ap (λ (i : ℕ). get_or bytes i 0) (let e : own * l.sector + from + k ≡ own * l.sector + (from + k) = omega arith in e)
    ∙ sym (if_true (nat_lt (from + k) l.sector) (get_or bytes (own * l.sector + (from + k)) 0) (get_or row k 0) (less (from + k) l.sector (omega (arith, small, fits)))))

-- behind the sector
pub behind_sector : (l : Layout) (own from size : ℕ) (bytes row : List ℕ) → l.sector ≤ from → size ≤ length row → row ≡ changed_front (block_byte l bytes (Some own)) from size row
behind_sector l own from size bytes row past le =
    front_kept (block_byte l bytes (Some own)) from size row le
    (λ k old small. if_false (nat_lt (from + k) l.sector) (get_or bytes (own * l.sector + (from + k)) 0) old (not_less (from + k) l.sector (omega (arith, past))))

-- ---- the map

-- an entry's bytes
pub word_put : (word row : List ℕ) (from size : ℕ) → from + size ≤ length word → size ≤ length row → take size (drop from word) ++ drop size row ≡ changed_front (λ k _. get_or word k 0) from size row
word_put word row from size fits le =
    front_is (λ k _. get_or word k 0) from size row (take size (drop from word)) le (length-take-le size (drop from word) (omega (arith, length-drop from word, fits)))
    (λ k small. get_or-take size (drop from word) k 0 small ∙ get_or-drop from word k 0)

-- it is that of one sector
pub map_put : (o : Opened) (word row : List ℕ) (at size : ℕ) → at / 4 < o.info.layout.external → word ≡ to_le_bytes w32 (normal_of (block_at o.entries (at / 4))) → at % 4 + size ≤ 4 → size ≤ length row
    → changed_front (λ k _. get_or word k 0) (at % 4) size row ≡ changed_front (map_byte o) at size row
map_put o word row at size lt is fits le =
    front_as (map_byte o) (λ k _. get_or word k 0) at (at % 4) size row le (λ k old small.
    let own : (at + k) / 4 ≡ at / 4 = omega (arith, small, fits) in
    let part : (at + k) % 4 ≡ at % 4 + k = omega (arith, small, fits) in
    ap (λ (w : List ℕ). get_or w (at % 4 + k) 0) is
    ∙ sym (if_true (nat_lt ((at + k) / 4) o.info.layout.external) _ old (less ((at + k) / 4) o.info.layout.external (omega (arith, own, lt)))
    ∙ (λ i. get_or (to_le_bytes w32 (normal_of (block_at o.entries (own i)))) (part i) 0)))

-- behind all entries
pub map_kept : (o : Opened) (at size : ℕ) (row : List ℕ) → o.info.layout.external ≤ at / 4 → size ≤ length row → row ≡ changed_front (map_byte o) at size row
map_kept o at size row past le =
    front_kept (map_byte o) at size row le
    (λ k old small. if_false (nat_lt ((at + k) / 4) o.info.layout.external) _ old (not_less ((at + k) / 4) o.info.layout.external (omega (arith, past))))

-- ---- the data area

sector_some : (bytes : ℕ) → IsTrue (is_sector bytes) → 0 < bytes
unfolding is_sector
sector_some bytes is = grind arith

pub inner_some : (l : Layout) → IsLayout l → 0 < l.inner
inner_some l ok = omega (arith, sector_some l.sector ok.sector, ok.inner_enough)

-- bytes of one block
div_same : (at k inner : ℕ) → at % inner + k < inner → (at + k) / inner ≡ at / inner
div_same at k inner lt =
    ap (λ (n : ℕ). n / inner) (let e : at + k ≡ at / inner * inner + (at % inner + k) = omega (arith, div-add-mod' at inner) in e)
    ∙ div-mul-add (at / inner) inner (at % inner + k) lt

mod_same : (at k inner : ℕ) → at % inner + k < inner → (at + k) % inner ≡ at % inner + k
mod_same at k inner lt =
    omega (arith, div-add-mod' (at + k) inner, div-add-mod' at inner, ap (λ (n : ℕ). n * inner) (div_same at k inner lt))

in_block : (o : Opened) (bytes : List ℕ) (at k old : ℕ) → at % o.info.layout.inner + k < o.info.layout.inner
    → data_byte o bytes (at + k) old ≡ block_byte o.info.layout bytes (owner_of o (at / o.info.layout.inner)) (at % o.info.layout.inner + k) old
in_block o bytes at k old lt =
    λ i. block_byte o.info.layout bytes (owner_of o (div_same at k o.info.layout.inner lt i)) (mod_same at k o.info.layout.inner lt i) old

pub data_put : (o : Opened) (bytes : List ℕ) (at own size : ℕ) (row : List ℕ) → owner_of o (at / o.info.layout.inner) ≡ Some own → at % o.info.layout.inner + size ≤ o.info.layout.inner → size ≤ length row
    → changed_front (block_byte o.info.layout bytes (Some own)) (at % o.info.layout.inner) size row ≡ changed_front (data_byte o bytes) at size row
data_put o bytes at own size row found fits le =
    front_as (data_byte o bytes) (block_byte o.info.layout bytes (Some own)) at (at % o.info.layout.inner) size row le
    (λ k old small. sym (in_block o bytes at k old (omega (arith, small, fits))
    ∙ ap (λ (owner : Option ℕ). block_byte o.info.layout bytes owner (at % o.info.layout.inner + k) old) found))

pub data_kept : (o : Opened) (bytes : List ℕ) (at size : ℕ) (row : List ℕ) → owner_of o (at / o.info.layout.inner) ≡ None → at % o.info.layout.inner + size ≤ o.info.layout.inner → size ≤ length row
    → row ≡ changed_front (data_byte o bytes) at size row
data_kept o bytes at size row found fits le =
    front_kept (data_byte o bytes) at size row le
    (λ k old small. in_block o bytes at k old (omega (arith, small, fits))
    ∙ ap (λ (owner : Option ℕ). block_byte o.info.layout bytes owner (at % o.info.layout.inner + k) old) found)

-- a block ends within the data area
pub block_end : (a : ArenaOwners) → IsOwned a → (at size : ℕ) → at / a.opened.info.layout.inner < a.opened.info.layout.internal → at % a.opened.info.layout.inner + size ≤ a.opened.info.layout.inner
    → a.opened.info.layout.data_off + at + size ≤ a.opened.info.layout.map_off
block_end a is at size lt fits =
    let inner : ℕ = a.opened.info.layout.inner in
    let up : a.opened.info.layout.inner * (at / a.opened.info.layout.inner + 1) ≤ a.opened.info.layout.inner * a.opened.info.layout.internal =
    mul-le-mul_left a.opened.info.layout.inner (let le : at / a.opened.info.layout.inner + 1 ≤ a.opened.info.layout.internal = omega (arith, lt) in le) in
    omega (arith, up, fits, div-add-mod' at a.opened.info.layout.inner, is.blocks.layout.after_data)

-- where a sector fills its block, the old byte doesn't matter
pub owned_byte : (o : Opened) → IsLayout o.info.layout → (bytes : List ℕ) (i old old' : ℕ) → o.info.layout.sector ≡ o.info.layout.inner → owner_of o (i / o.info.layout.inner) ≢ None
    → data_byte o bytes i old ≡ data_byte o bytes i old'
owned_byte o ok bytes i old old' full ne = elim (cases_option (owner_of o (i / o.info.layout.inner))) [
  | inl none ↦ absurd (ne none)
  | inr some ↦
      let some' : 0 < o.info.layout.inner = inner_some o.info.layout ok in
      let within : nat_lt (i % o.info.layout.inner) o.info.layout.sector ≡ true = less (i % o.info.layout.inner) o.info.layout.sector (omega (arith, some', full)) in
      one old within some.1 ∙ sym (one old' within some.1)
]
  where
    one : (was : ℕ) → nat_lt (i % o.info.layout.inner) o.info.layout.sector ≡ true → {own : ℕ} → owner_of o (i / o.info.layout.inner) ≡ Some own
        → data_byte o bytes i was ≡ get_or bytes (own * o.info.layout.sector + i % o.info.layout.inner) 0
    one was within {own} found =
        ap (λ (owner : Option ℕ). block_byte o.info.layout bytes owner (i % o.info.layout.inner) was) found
        ∙ if_true (nat_lt (i % o.info.layout.inner) o.info.layout.sector) (get_or bytes (own * o.info.layout.sector + i % o.info.layout.inner) 0) was within

-- one more block has a sector
pub owned_more : (o : Opened) (from done : ℕ) → IsLayout o.info.layout → ((k : ℕ) → k < done → owner_of o ((from + k) / o.info.layout.inner) ≢ None) → owner_of o ((from + done) / o.info.layout.inner) ≢ None
    → (k : ℕ) → k < done + (o.info.layout.inner - (from + done) % o.info.layout.inner) → owner_of o ((from + k) / o.info.layout.inner) ≢ None
owned_more o from done ok before here k lt = elim (cases_lt k done) [
  | inl low ↦ before k low
  | inr high ↦
      let some : 0 < o.info.layout.inner = inner_some o.info.layout ok in
      let same : (from + k) / o.info.layout.inner ≡ (from + done) / o.info.layout.inner =
      ap (λ (n : ℕ). n / o.info.layout.inner) (let e : from + k ≡ from + done + (k - done) = omega (arith, high) in e)
      ∙ div_same (from + done) (k - done) o.info.layout.inner (omega (arith, high, lt, some)) in
      λ none. here (ap (owner_of o) (sym same) ∙ none)
]
