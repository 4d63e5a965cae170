-- Why a sector is lost, and with which entry it is read.
use Rattle.std.proofs.Common.{◌≡◌, ℕ, ◌<◌, ◌≤◌, Bool, true, false, not, cond, leb, List, ◌++◌, length, map, get_or, Option, Some, None, refl, sym, ap, ◌∙◌, subst, arith}
use Rattle.std.specs.List.{All}
use Rattle.std.proofs.lemmas.Bool.{leb-false, not-false, lt-leb}
use Rattle.std.proofs.lemmas.List.FromFn.{get_or-map-range_with_len, length-map-range_with_len}
use Rattle.arena_layout.specs.declared.layout.Layout.{Layout}
use Rattle.flog.specs.declared.group.Group.{Group}
use Rattle.map_table.specs.declared.kinds.MapEntry.{MapEntry}
use Rattle.map_table.specs.Entry.{entry_of}
use Rattle.map_table.specs.Blocks.{blocks_from}
use Rattle.map_table.proofs.Entries.{zero_back}
use Rattle.arena_open.specs.Reading.{free_of}
use Rattle.arena_check.specs.Check.{has_bytes, has_bad_word, is_bad_data}
use Rattle.arena_rescue.specs.declared.loss.Loss.{Loss}
use Rattle.arena_rescue.specs.declared.loss.Loss.TheVariants as lost
use Rattle.arena_rescue.specs.Rescue.{block_in, is_known, is_marked, is_twice, loss_at, loss_by, losses_of, named_blocks, rescued_entry, rescued_map}
use Rattle.arena_rescue.specs.Counting.{losses_to, lost_by, rescued_to}
use Rattle.arena_rescue.proofs.Counts.{all_blocks}
use Rattle.arena_rescue.proofs.Ranges.{filter_map_same, filter_same, map_same}

-- ---- tests that agree give the same reason

pub loss_same : (l : Layout) (bad other twice twice' : ℕ → Bool) (sector : ℕ) (entry : MapEntry) → is_known l bad sector ≡ is_known l other sector
    → (entry.block < l.internal → twice entry.block ≡ twice' entry.block) → (entry.block < l.internal → has_bad_word l bad entry.block ≡ has_bad_word l other entry.block)
    → loss_by l bad twice sector entry ≡ loss_by l other twice' sector entry
unfolding loss_by
loss_same l bad other twice twice' sector entry known often words =
    elim (leb l.internal entry.block) as (λ t. leb l.internal entry.block ≡ t → loss_by l bad twice sector entry ≡ loss_by l other twice' sector entry) [
      | true ↦ λ is. far is (behind l bad twice sector entry) (behind l other twice' sector entry)
      | false ↦ λ is. let lt : entry.block < l.internal = leb-false l.internal entry.block is in
          λ i. cond (not (known i)) (Some (lost.BadMap sector))
          (cond (leb l.internal entry.block) (Some (lost.Range sector entry.block))
          (cond (often lt i) (Some (lost.Twice sector entry.block))
          (cond (is_marked entry.kind) (Some (lost.Marked sector)) (cond (cond (has_bytes entry.kind) (words lt i) false) (Some (lost.BadData sector)) None))))
    ] refl
  where
    behind : Layout → (ℕ → Bool) → (ℕ → Bool) → ℕ → MapEntry → Option Loss
    behind l bad twice sector entry =
        cond (twice entry.block) (Some (lost.Twice sector entry.block))
        (cond (is_marked entry.kind) (Some (lost.Marked sector)) (cond (is_bad_data l bad entry) (Some (lost.BadData sector)) None))

    far : leb l.internal entry.block ≡ true → (x y : Option Loss)
        → cond (not (is_known l bad sector)) (Some (lost.BadMap sector)) (cond (leb l.internal entry.block) (Some (lost.Range sector entry.block)) x)
        ≡ cond (not (is_known l other sector)) (Some (lost.BadMap sector)) (cond (leb l.internal entry.block) (Some (lost.Range sector entry.block)) y)
    far is x y =
        ap (λ (t : Bool). cond (not (is_known l bad sector)) (Some (lost.BadMap sector)) (cond t (Some (lost.Range sector entry.block)) x)) is
        ∙ (λ i. cond (not (known i)) (Some (lost.BadMap sector)) (Some (lost.Range sector entry.block)))
        ∙ sym (ap (λ (t : Bool). cond (not (is_known l other sector)) (Some (lost.BadMap sector)) (cond t (Some (lost.Range sector entry.block)) y)) is)

-- ---- a sector that isn't lost

pub record IsFound (l : Layout) (bad twice : ℕ → Bool) (sector : ℕ) (entry : MapEntry) : Type 0 where
  pub known : is_known l bad sector ≡ true
  pub inside : entry.block < l.internal
  pub once : twice entry.block ≡ false
  pub unmarked : is_marked entry.kind ≡ false
  pub sound : is_bad_data l bad entry ≡ false

none_of : (a b c d e : Bool) (v w x y z : Loss) → cond a (Some v) (cond b (Some w) (cond c (Some x) (cond d (Some y) (cond e (Some z) None)))) ≡ None
    → (a ≡ false) × (b ≡ false) × (c ≡ false) × (d ≡ false) × (e ≡ false)
none_of true b c d e v w x y z is = absurd (let f = is in cc)
none_of false true c d e v w x y z is = absurd (let f = is in cc)
none_of false false true d e v w x y z is = absurd (let f = is in cc)
none_of false false false true e v w x y z is = absurd (let f = is in cc)
none_of false false false false true v w x y z is = absurd (let f = is in cc)
none_of false false false false false v w x y z is = (refl, refl, refl, refl, refl)

pub none_lost : (l : Layout) (bad twice : ℕ → Bool) (sector : ℕ) (entry : MapEntry) → loss_by l bad twice sector entry ≡ None → IsFound l bad twice sector entry
unfolding loss_by
none_lost l bad twice sector entry is =
    let p = none_of (not (is_known l bad sector)) (leb l.internal entry.block) (twice entry.block) (is_marked entry.kind) (is_bad_data l bad entry)
    (lost.BadMap sector) (lost.Range sector entry.block) (lost.Twice sector entry.block) (lost.Marked sector) (lost.BadData sector) is in
    record { known = not-false (is_known l bad sector) p.0; inside = leb-false l.internal entry.block p.1; once = p.2; unmarked = p.3; sound = p.4 }

-- nothing but the entry's own word can make it lost
pub marked_alone : (l : Layout) (bad twice : ℕ → Bool) (sector : ℕ) (entry : MapEntry) → is_known l bad sector ≡ true → entry.block < l.internal → twice entry.block ≡ false
    → is_bad_data l bad entry ≡ false → loss_by l bad twice sector entry ≡ cond (is_marked entry.kind) (Some (lost.Marked sector)) None
unfolding loss_by
marked_alone l bad twice sector entry known lt once sound =
    λ i. cond (not (known i)) (Some (lost.BadMap sector))
    (cond (lt-leb l.internal entry.block lt i) (Some (lost.Range sector entry.block))
    (cond (once i) (Some (lost.Twice sector entry.block))
    (cond (is_marked entry.kind) (Some (lost.Marked sector)) (cond (sound i) (Some (lost.BadData sector)) None))))

-- ---- all sectors

module _ (l : Layout) (bad other twice twice' : ℕ → Bool) (entries : List ℕ)
    (known : (sector : ℕ) → sector < length entries → is_known l bad sector ≡ is_known l other sector)
    (often : (block : ℕ) → block < l.internal → twice block ≡ twice' block)
    (words : (block : ℕ) → block < l.internal → has_bad_word l bad block ≡ has_bad_word l other block) where
  lost_same : (sector : ℕ) → sector < length entries → lost_by l bad twice entries sector ≡ lost_by l other twice' entries sector
  lost_same sector lt =
      loss_same l bad other twice twice' sector (entry_of (get_or entries sector 0) sector) (known sector lt)
      (λ below. often (entry_of (get_or entries sector 0) sector).block below) (λ below. words (entry_of (get_or entries sector 0) sector).block below)

  pub losses_same : losses_to l bad twice entries (length entries) ≡ losses_to l other twice' entries (length entries)
  losses_same = filter_map_same (lost_by l bad twice entries) (lost_by l other twice' entries) 0 (length entries) (λ s low high. lost_same s (omega (arith, high)))

  pub rescued_same : rescued_to l bad twice entries ≡ rescued_to l other twice' entries
  rescued_same =
      map_same (λ s. rescued_entry (lost_by l bad twice entries s) (get_or entries s 0)) (λ s. rescued_entry (lost_by l other twice' entries s) (get_or entries s 0))
      0 (length entries) (λ s low high. ap (λ (o : Option Loss). rescued_entry o (get_or entries s 0)) (lost_same s (omega (arith, high))))

-- the same blocks are named if the same map words are bad
pub named_same : (l : Layout) (bad other : ℕ → Bool) (entries : List ℕ) (groups : List Group)
    → ((sector : ℕ) → sector < length entries → is_known l bad sector ≡ is_known l other sector) → named_blocks l bad entries groups ≡ named_blocks l other entries groups
named_same l bad other entries groups known =
    ap (λ (sectors : List ℕ). map (block_in entries) sectors ++ free_of groups)
    (filter_same (is_known l bad) (is_known l other) 0 (length entries) (λ s low high. known s (omega (arith, high))))

-- the same sectors are lost, and the same is read, if the same words are bad
module _ (l : Layout) (bad other : ℕ → Bool) (entries : List ℕ) (groups : List Group)
    (known : (sector : ℕ) → sector < length entries → is_known l bad sector ≡ is_known l other sector)
    (words : (block : ℕ) → block < l.internal → has_bad_word l bad block ≡ has_bad_word l other block) where
  often : (block : ℕ) → block < l.internal → is_twice (named_blocks l bad entries groups) block ≡ is_twice (named_blocks l other entries groups) block
  often block lt = ap (λ (named : List ℕ). is_twice named block) (named_same l bad other entries groups known)

  pub all_losses_same : losses_of l bad entries groups ≡ losses_of l other entries groups
  all_losses_same = losses_same l bad other (is_twice (named_blocks l bad entries groups)) (is_twice (named_blocks l other entries groups)) entries known often words

  pub all_rescued_same : rescued_map l bad entries groups ≡ rescued_map l other entries groups
  all_rescued_same = rescued_same l bad other (is_twice (named_blocks l bad entries groups)) (is_twice (named_blocks l other entries groups)) entries known often words

-- ---- the entries with which sectors are read

module _ (l : Layout) (bad : ℕ → Bool) (entries : List ℕ) (groups : List Group) where
  pub length_rescued : length (rescued_map l bad entries groups) ≡ length entries
  length_rescued = length-map-range_with_len (λ s. rescued_entry (loss_at l bad entries groups s) (get_or entries s 0)) 0 (length entries)

  pub rescued_at : (k : ℕ) → k < length entries → get_or (rescued_map l bad entries groups) k 0 ≡ rescued_entry (loss_at l bad entries groups k) (get_or entries k 0)
  rescued_at k lt = get_or-map-range_with_len (λ s. rescued_entry (loss_at l bad entries groups s) (get_or entries s 0)) 0 (length entries) k k 0 lt (omega arith)

  -- a sector that isn't lost has its own entry
  pub own_entry : (k : ℕ) → k < length entries → loss_at l bad entries groups k ≡ None → get_or (rescued_map l bad entries groups) k 0 ≡ get_or entries k 0
  own_entry k lt none = rescued_at k lt ∙ ap (λ (o : Option Loss). rescued_entry o (get_or entries k 0)) none

  below_by : (o : Option Loss) (k : ℕ) → 1 ≤ l.internal → loss_at l bad entries groups k ≡ o → (entry_of (rescued_entry o (get_or entries k 0)) k).block < l.internal
  below_by None k some is = (none_lost l bad (is_twice (named_blocks l bad entries groups)) k (entry_of (get_or entries k 0) k) is).inside
  below_by (Some loss) k some is = omega (arith, some, ap (λ (e : MapEntry). e.block) (zero_back 0 k (omega arith)))

  -- all of them name blocks that exist
  pub blocks_below : 1 ≤ l.internal → All (λ block. block < l.internal) (blocks_from 0 (rescued_map l bad entries groups))
  blocks_below some =
      subst (λ (bs : List ℕ). All (λ block. block < l.internal) bs) (all_blocks (rescued_map l bad entries groups))
      (λ k d lt.
      let inside : k < length (rescued_map l bad entries groups) =
      omega (arith, lt, length-map-range_with_len (block_in (rescued_map l bad entries groups)) 0 (length (rescued_map l bad entries groups))) in
      let here : (entry_of (rescued_entry (loss_at l bad entries groups k) (get_or entries k 0)) k).block < l.internal = below_by (loss_at l bad entries groups k) k some refl in
      let is : block_in (rescued_map l bad entries groups) k ≡ (entry_of (rescued_entry (loss_at l bad entries groups k) (get_or entries k 0)) k).block =
      ap (λ (w : ℕ). (entry_of w k).block) (rescued_at k (omega (arith, inside, length_rescued))) in
      omega (arith, here, is, get_or-map-range_with_len (block_in (rescued_map l bad entries groups)) 0 (length (rescued_map l bad entries groups)) k k d inside (omega arith)))
