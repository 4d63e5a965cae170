-- The laws about what can be read of a damaged arena.
use Rattle.std.proofs.Common.{◌≡◌, ◌≢◌, ◌⊎◌, ℕ, zero, suc, ◌+◌, ◌/◌, ◌<◌, ◌≤◌, Bool, true, false, cond, eqb, List, [], ◌∷◌, length, get_or, Some, None, refl, sym, ap, ◌∙◌, subst, inl, inr, arith}
use Rattle.std.specs.List.{range_with_len}
use Rattle.std.proofs.Math.ListN.{set}
use Rattle.std.proofs.lemmas.Bool.{cases_eq, ltb-false, ne_eqb}
use Rattle.std.proofs.lemmas.List.{get_or_append_left, get_or-set_other, length-append, length-set}
use Rattle.arena_layout.specs.declared.layout.Layout.{Layout}
use Rattle.arena_layout.specs.Layout.{IsLayout}
use Rattle.flog.specs.declared.group.Group.{Group}
use Rattle.map_table.specs.declared.kinds.MapEntry.{MapEntry}
use Rattle.map_table.specs.Entry.{entry_of}
use Rattle.map_table.specs.Blocks.{blocks_from, blocks_of, count_of}
use Rattle.map_table.proofs.Counting.{count_of-append, count_of-cons}
use Rattle.arena_open.specs.Reading.{free_of, is_pending, moved, moves_of}
use Rattle.arena_open.proofs.OnceMore.{length_blocks}
use Rattle.arena_check.specs.Check.{has_bytes, has_bad_word, recovered_map}
use Rattle.arena_rescue.specs.declared.loss.Loss.TheVariants as lost
use Rattle.arena_rescue.specs.Rescue.{block_in, is_known, is_twice, known_blocks, loss_at, loss_of, losses_of, named_blocks, rescued_map}
use Rattle.arena_rescue.specs.Laws.{AreOnce, marks, LosesMarkedAlone, SoundMapsLoseNothing, IsUnknown, ReadsOwn, OneEntryRescuesNoOther, OneEntryLosesTwo, kept_of, LosesTheSame, DamagedLogLosesNothing}
use Rattle.arena_rescue.proofs.Areas.{all_known, no_bad_word}
use Rattle.arena_rescue.proofs.Losses.{IsFound, loss_same, losses_same, marked_alone, none_lost, own_entry, rescued_same}
use Rattle.arena_rescue.proofs.Counts.{block_at, few_not_twice, named_again, named_all, named_once, named_part, stands_in, StandsIn}
use Rattle.arena_rescue.proofs.Ranges.{filter_map_same, listed_if}

-- a sector's block exists
own_below : (l : Layout) (entries : List ℕ) (groups : List Group) → AreOnce l entries groups → (sector : ℕ) → sector < length entries → block_in entries sector < l.internal
own_below l entries groups once sector lt =
    let here : sector < length (blocks_from 0 entries) = omega (arith, lt, length_blocks 0 entries) in
    let below : get_or (blocks_of entries (free_of groups)) sector 0 < l.internal = once.below sector 0 (omega (arith, here, length-append (blocks_from 0 entries) (free_of groups))) in
    omega (arith, below, get_or_append_left (blocks_from 0 entries) (free_of groups) 0 sector here, block_at entries sector lt)

-- ---- sound arenas

fine_by : (b c : Bool) → c ≡ false → cond b c false ≡ false
fine_by true c e = e
fine_by false c e = refl

module _ (l : Layout) (bad : ℕ → Bool) (entries : List ℕ) (groups : List Group) (ok : IsLayout l) (len : length entries ≡ l.external)
    (none : (i : ℕ) → i < l.size / 8 → bad i ≡ false) (once : AreOnce l entries groups) where
  only_marked : (sector : ℕ) → sector < length entries → loss_at l bad entries groups sector ≡ cond (marks entries sector) (Some (lost.Marked sector)) None
  only_marked sector lt =
      let e : MapEntry = entry_of (get_or entries sector 0) sector in
      let below : e.block < l.internal = own_below l entries groups once sector lt in
      let few : count_of e.block (named_blocks l bad entries groups) ≤ 1 = omega (arith, named_all l bad entries groups e.block, once.once e.block below) in
      marked_alone l bad (is_twice (named_blocks l bad entries groups)) sector e (all_known l ok bad none sector (omega (arith, lt, len))) below
      (few_not_twice (named_blocks l bad entries groups) e.block few)
      (fine_by (has_bytes e.kind) (has_bad_word l bad e.block) (no_bad_word l ok bad none e.block below))

  loses_marked : LosesMarkedAlone l bad entries groups
  loses_marked = record {
    losses = filter_map_same (loss_at l bad entries groups) (λ s. cond (marks entries s) (Some (lost.Marked s)) None) 0 (length entries)
        (λ s low high. only_marked s (omega (arith, high)))
        ∙ listed_if lost.Marked (marks entries) (range_with_len 0 (length entries));
    others = λ sector lt unmarked.
        own_entry l bad entries groups sector lt (only_marked sector lt ∙ ap (λ (b : Bool). cond b (Some (lost.Marked sector)) None) unmarked);
  }

pub sound_maps_lose_nothing : SoundMapsLoseNothing
sound_maps_lose_nothing l bad entries groups ok len none once = loses_marked l bad entries groups ok len none once

-- ---- one damaged entry

module _ (l : Layout) (bad : ℕ → Bool) (entries : List ℕ) (groups : List Group) (k word : ℕ) (once : AreOnce l entries groups) (lt : k < length entries) where
  abbrev changed : List ℕ
  changed = set entries k word

  abbrev b : ℕ
  b = block_in changed k

  module _ (found : IsFound l bad (is_twice (named_blocks l bad changed groups)) k (entry_of (get_or changed k 0) k)) where
    few : count_of b (named_blocks l bad changed groups) ≤ 1
    few = ltb-false 1 (count_of b (named_blocks l bad changed groups)) found.once

    long : length changed ≡ length entries
    long = length-set entries k word

    parts : count_of b (known_blocks l bad changed (length changed)) + count_of b (free_of groups) ≤ 1
    parts = omega (arith, few, count_of-append b (known_blocks l bad changed (length changed)) (free_of groups))

    own : 1 ≤ count_of b (known_blocks l bad changed (length changed))
    own = named_once b (block_in changed) (is_known l bad) 0 (length changed) k (omega arith) (omega (arith, lt, long)) found.known refl

    -- no lane has the block, so a sector had it
    had : 1 ≤ count_of b (blocks_from 0 entries)
    had = omega (arith, once.once b found.inside, count_of-append b (blocks_from 0 entries) (free_of groups), parts, own)

    by_sector : (j : ℕ) → j < length entries → block_in entries j ≡ b → (b ≡ block_in entries k) ⊎ IsUnknown l bad entries b
    by_sector j inside names = elim (cases_eq j k) [
      | inl same ↦ inl (sym names ∙ ap (block_in entries) same)
      | inr other ↦ inr (by_known (is_known l bad j) refl other)
    ]
      where
        by_known : (t : Bool) → is_known l bad j ≡ t → j ≢ k → IsUnknown l bad entries b
        by_known false is other = record { sector = j; inside = inside; unknown = is; named = names }
        by_known true is other =
            let stays : block_in changed j ≡ b = ap (λ (w : ℕ). (entry_of w j).block) (get_or-set_other entries k j word 0 other) ∙ names in
            let two : 2 ≤ count_of b (known_blocks l bad changed (length changed)) =
            named_again b (block_in changed) (is_known l bad) 0 (length changed) j k other (omega arith) (omega (arith, inside, long)) (omega arith) (omega (arith, lt, long)) is found.known stays refl in
            absurd (omega (arith, two, parts))

    own_block : (b ≡ block_in entries k) ⊎ IsUnknown l bad entries b
    own_block =
        let s : StandsIn (blocks_from 0 entries) b = stands_in b (blocks_from 0 entries) had in
        let inside : s.place < length entries = omega (arith, s.inside, length_blocks 0 entries) in
        by_sector s.place inside (sym (block_at entries s.place inside) ∙ s.is)

  -- a sector that isn't lost
  module _ (sector : ℕ) (here : sector < length entries) (none : loss_at l bad changed groups sector ≡ None) where
    entry_is : get_or (rescued_map l bad changed groups) sector 0 ≡ get_or changed sector 0
    entry_is = own_entry l bad changed groups sector (omega (arith, here, length-set entries k word)) none

    block_is : block_in (rescued_map l bad changed groups) sector ≡ block_in changed sector
    block_is = ap (λ (w : ℕ). (entry_of w sector).block) entry_is

    other_entry : sector ≢ k → get_or (rescued_map l bad changed groups) sector 0 ≡ get_or entries sector 0
    other_entry other = entry_is ∙ get_or-set_other entries k sector word 0 other

  abbrev ReadsBlock : ℕ → Type 0
  ReadsBlock sector =
      (block_in (rescued_map l bad changed groups) sector ≡ block_in entries sector) ⊎ IsUnknown l bad entries (block_in (rescued_map l bad changed groups) sector)

  -- the changed one
  own_reads : loss_at l bad changed groups k ≡ None → ReadsBlock k
  own_reads none =
      let is : block_in (rescued_map l bad changed groups) k ≡ b = block_is k lt none in
      elim (own_block (none_lost l bad (is_twice (named_blocks l bad changed groups)) k (entry_of (get_or changed k 0) k) none)) [
        | inl same ↦ inl (is ∙ same)
        | inr unknown ↦ inr (subst (λ (x : ℕ). IsUnknown l bad entries x) (sym is) unknown)
      ]

  reads_block : (sector : ℕ) → sector < length entries → loss_at l bad changed groups sector ≡ None → ReadsBlock sector
  reads_block sector here none = elim (cases_eq sector k) [
    | inl same ↦ subst (λ (s : ℕ). loss_at l bad changed groups s ≡ None → ReadsBlock s) (sym same) own_reads none
    | inr other ↦ inl (ap (λ (w : ℕ). (entry_of w sector).block) (other_entry sector here none other))
  ]

  reads_own : (sector : ℕ) → sector < length entries → loss_at l bad changed groups sector ≡ None → ReadsOwn l bad entries groups k word sector
  reads_own sector here none = record { entry = other_entry sector here none; block = reads_block sector here none }

pub one_entry_rescues_no_other : OneEntryRescuesNoOther
one_entry_rescues_no_other l bad entries groups k word once lt sector here none = reads_own l bad entries groups k word once lt sector here none

-- a block that the changed entry doesn't name is named no more often than before
count_changed : (s : ℕ) (entries : List ℕ) (k word c j : ℕ) → s + k ≡ j → (entry_of word j).block ≢ c
    → count_of c (blocks_from s (set entries k word)) ≤ count_of c (blocks_from s entries)
count_changed s [] k word c j e other = omega arith
count_changed s (x ∷ xs) zero word c j e other =
    let same : (entry_of word s).block ≡ (entry_of word j).block = ap (λ (n : ℕ). (entry_of word n).block) (omega (arith, e)) in
    let unlike : eqb (entry_of word s).block c ≡ false = ne_eqb (entry_of word s).block c (λ is. other (sym same ∙ is)) in
    omega (
      arith,
      count_of-cons c (entry_of word s).block (blocks_from (s + 1) xs),
      ap {B = ℕ} (λ (t : Bool). cond t 1 0) unlike,
      count_of-cons c (entry_of x s).block (blocks_from (s + 1) xs),
    )
count_changed s (x ∷ xs) (suc k) word c j e other =
    omega (
      arith,
      count_of-cons c (entry_of x s).block (blocks_from (s + 1) (set xs k word)),
      count_of-cons c (entry_of x s).block (blocks_from (s + 1) xs),
      count_changed (s + 1) xs k word c j (omega (arith, e)) other,
    )

pub one_entry_loses_two : OneEntryLosesTwo
one_entry_loses_two l bad entries groups k word once lt sector here apart other =
    let now : List ℕ = set entries k word in
    let c : ℕ = block_in entries sector in
    let one : count_of c (blocks_of entries (free_of groups)) ≡ 1 = once.once c (own_below l entries groups once sector here) in
    let few : count_of c (named_blocks l bad entries groups) ≤ 1 = omega (arith, named_all l bad entries groups c, one) in
    let few' : count_of c (named_blocks l bad now groups) ≤ 1 =
    omega (
      arith,
      named_all l bad now groups c,
      one,
      count_of-append c (blocks_from 0 now) (free_of groups),
      count_of-append c (blocks_from 0 entries) (free_of groups),
      count_changed 0 entries k word c k (omega arith) (λ is. other (sym is)),
    ) in
    ap (loss_of l bad (named_blocks l bad now groups) sector) (get_or-set_other entries k sector word 0 apart)
    ∙ loss_same l bad bad (is_twice (named_blocks l bad now groups)) (is_twice (named_blocks l bad entries groups)) sector (entry_of (get_or entries sector 0) sector) refl
    (λ below. few_not_twice (named_blocks l bad now groups) c few' ∙ sym (few_not_twice (named_blocks l bad entries groups) c few)) (λ below. refl)

-- ---- lanes that don't count

head_settled : (entries : List ℕ) (group : Group) (groups : List Group) (b : Bool) → is_pending entries group.half ≡ b
    → cond b (group.half ∷ moves_of entries groups) (moves_of entries groups) ≡ [] → (is_pending entries group.half ≡ false) × (moves_of entries groups ≡ [])
head_settled entries group groups true is none = absurd (let f = none in cc)
head_settled entries group groups false is none = (is, none)

kept_moves : (entries : List ℕ) (keeps : List Bool) (groups : List Group) → moves_of entries groups ≡ [] → moves_of entries (kept_of keeps groups) ≡ []
kept_moves entries [] groups none = refl
kept_moves entries (keep ∷ keeps) [] none = refl
kept_moves entries (true ∷ keeps) (group ∷ groups) none =
    let both = head_settled entries group groups (is_pending entries group.half) refl none in
    (λ i. cond (both.0 i) (group.half ∷ moves_of entries (kept_of keeps groups)) (moves_of entries (kept_of keeps groups))) ∙ kept_moves entries keeps groups both.1
kept_moves entries (false ∷ keeps) (group ∷ groups) none = kept_moves entries keeps groups (head_settled entries group groups (is_pending entries group.half) refl none).1

module _ (l : Layout) (bad : ℕ → Bool) (entries : List ℕ) (groups : List Group) (keeps : List Bool) (once : AreOnce l entries groups) where
  -- no block is named twice, by all lanes or by some
  none_twice : (block : ℕ) → block < l.internal → is_twice (named_blocks l bad entries (kept_of keeps groups)) block ≡ is_twice (named_blocks l bad entries groups) block
  none_twice block lt =
      few_not_twice (named_blocks l bad entries (kept_of keeps groups)) block (omega (arith, named_part l bad entries keeps groups block, once.once block lt))
      ∙ sym (few_not_twice (named_blocks l bad entries groups) block (omega (arith, named_all l bad entries groups block, once.once block lt)))

  same_losses : losses_of l bad entries (kept_of keeps groups) ≡ losses_of l bad entries groups
  same_losses =
      losses_same l bad bad (is_twice (named_blocks l bad entries (kept_of keeps groups))) (is_twice (named_blocks l bad entries groups)) entries
      (λ s lt. refl) none_twice (λ block lt. refl)

  same_entries : rescued_map l bad entries (kept_of keeps groups) ≡ rescued_map l bad entries groups
  same_entries =
      rescued_same l bad bad (is_twice (named_blocks l bad entries (kept_of keeps groups))) (is_twice (named_blocks l bad entries groups)) entries
      (λ s lt. refl) none_twice (λ block lt. refl)

  loses_the_same : moves_of entries groups ≡ [] → LosesTheSame l bad entries (kept_of keeps groups) groups
  loses_the_same none =
      let settled : moves_of entries (kept_of keeps groups) ≡ [] = kept_moves entries keeps groups none in
      let kept_is : recovered_map entries (kept_of keeps groups) ≡ entries = ap (moved entries) settled in
      let all_is : recovered_map entries groups ≡ entries = ap (moved entries) none in
      record {
        moves = settled;
        losses = ap (λ (es : List ℕ). losses_of l bad es (kept_of keeps groups)) kept_is ∙ same_losses ∙ sym (ap (λ (es : List ℕ). losses_of l bad es groups) all_is);
        readable = ap (λ (es : List ℕ). rescued_map l bad es (kept_of keeps groups)) kept_is ∙ same_entries ∙ sym (ap (λ (es : List ℕ). rescued_map l bad es groups) all_is);
      }

pub damaged_log_loses_nothing : DamagedLogLosesNothing
damaged_log_loses_nothing l bad entries groups keeps once none = loses_the_same l bad entries groups keeps once none
