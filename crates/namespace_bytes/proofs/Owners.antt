-- The sector of a block.
use Rattle.std.proofs.Common.{◌≡◌, ◌≢◌, ℕ, zero, suc, ◌+◌, ◌<◌, Bool, List, [], ◌∷◌, length, get_or, Some, None, sym, ap, ◌∙◌, arith, inl, inr}
use Rattle.std.specs.Prelude.{◌==◌, if◌then◌else◌}
use Rattle.std.proofs.lemmas.Bool.{cases_Bool, eqb-false, eqb-true}
use Rattle.map_table.specs.Entry.{entry_of}
use Rattle.arena_open.specs.declared.opened.Opened.{Opened}
use Rattle.namespace_bytes.specs.Putting.{block_at}
use Rattle.namespace_bytes.specs.SectorBytes.{owner_from, owner_of}

-- sector number k of these is the block's
pub record IsOwner (entries : List ℕ) (first block own : ℕ) : Type 0 where
  pub index : ℕ
  pub is : own ≡ first + index
  pub there : index < length entries
  pub block_is : (entry_of (get_or entries index 0) (first + index)).block ≡ block

some_is : (x y : ℕ) → Some x ≡ Some y → x ≡ y
some_is x y e = cc

one_on : (entry : ℕ) (entries : List ℕ) (first block own : ℕ) → IsOwner entries (first + 1) block own → IsOwner (entry ∷ entries) first block own
one_on entry entries first block own o = record {
  index = suc o.index;
  is = omega (arith, o.is);
  there = omega (arith, o.there);
  block_is = ap (λ (k : ℕ). (entry_of (get_or entries o.index 0) k).block) (let e : first + suc o.index ≡ first + 1 + o.index = omega arith in e) ∙ o.block_is;
}

found_from : (entries : List ℕ) (first block own : ℕ) → owner_from first entries block ≡ Some own → IsOwner entries first block own
found_from [] first block own is = absurd cc
found_from (entry ∷ entries) first block own is = elim (cases_Bool ((entry_of entry first).block == block)) [
  | inl here ↦
      let own_is : first ≡ own = some_is first own (sym (ap (λ (b : Bool). if b then Some first else owner_from (first + 1) entries block) here) ∙ is) in
      let from : first + 0 ≡ first = omega arith in
      record {
        index = 0;
        is = omega (arith, own_is);
        there = omega arith;
        block_is = ap (λ (k : ℕ). (entry_of entry k).block) from ∙ eqb-true (entry_of entry first).block block here;
      }
  | inr other ↦
      one_on entry entries first block own (found_from entries (first + 1) block own (sym (ap (λ (b : Bool). if b then Some first else owner_from (first + 1) entries block) other) ∙ is))
]

-- a block of the first sector, or of one behind it
first_or_later : (entry : ℕ) (entries : List ℕ) (first block k : ℕ) → (entry_of entry first).block ≢ block
    → ((j : ℕ) → j < length entries → (entry_of (get_or entries j 0) (first + 1 + j)).block ≢ block) → k < suc (length entries) → (entry_of (get_or (entry ∷ entries) k 0) (first + k)).block ≢ block
first_or_later entry entries first block zero ne later lt e = ne (ap (λ (k : ℕ). (entry_of entry k).block) (let z : first ≡ first + 0 = omega arith in z) ∙ e)
first_or_later entry entries first block (suc k) ne later lt e =
    later k (omega (arith, lt)) (ap (λ (n : ℕ). (entry_of (get_or entries k 0) n).block) (let z : first + 1 + k ≡ first + suc k = omega arith in z) ∙ e)

none_from : (entries : List ℕ) (first block : ℕ) → owner_from first entries block ≡ None → (k : ℕ) → k < length entries → (entry_of (get_or entries k 0) (first + k)).block ≢ block
none_from [] first block is k lt = absurd (omega (arith, lt))
none_from (entry ∷ entries) first block is k lt = elim (cases_Bool ((entry_of entry first).block == block)) [
  | inl here ↦ absurd (let e = sym (ap (λ (b : Bool). if b then Some first else owner_from (first + 1) entries block) here) ∙ is in cc)
  | inr other ↦
      first_or_later entry entries first block k (eqb-false (entry_of entry first).block block other)
      (none_from entries (first + 1) block (sym (ap (λ (b : Bool). if b then Some first else owner_from (first + 1) entries block) other) ∙ is)) lt
]

-- the sector of a block of an arena
pub owner_is : (o : Opened) (block own : ℕ) → owner_of o block ≡ Some own → (own < length o.entries) × (block_at o.entries own ≡ block)
owner_is o block own is =
    let found = found_from o.entries 0 block own is in
    let same : own ≡ found.index = omega (arith, found.is) in (
      omega (arith, same, found.there),
      ap (block_at o.entries) same ∙ ap (λ (k : ℕ). (entry_of (get_or o.entries found.index 0) k).block) (let z : found.index ≡ 0 + found.index = omega arith in z) ∙ found.block_is,
    )

pub no_owner : (o : Opened) (block : ℕ) → owner_of o block ≡ None → (own : ℕ) → own < length o.entries → block_at o.entries own ≢ block
no_owner o block is own lt e =
    none_from o.entries 0 block is own lt (ap (λ (k : ℕ). (entry_of (get_or o.entries own 0) k).block) (let z : 0 + own ≡ own = omega arith in z) ∙ e)
