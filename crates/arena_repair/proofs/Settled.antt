-- Once each block is named once, no move is pending; so a map stays as it is after a repair.
use Rattle.std.proofs.Common.{◌≡◌, ◌≢◌, ℕ, ◌^◌, ◌<◌, ◌≤◌, Bool, true, false, not, cond, eqb, List, [], ◌∷◌, length, map, get_or, refl, sym, ap, ◌∙◌, arith}
use Rattle.std.specs.Prelude.{◌&&◌}
use Rattle.std.specs.List.{All}
use Rattle.std.proofs.lemmas.Bool.{ne_eqb, eqb-false}
use Rattle.std.proofs.lemmas.List.{get_or-map, length-map}
use Rattle.std.proofs.lemmas.List.Elements.{All-head, All-tail}
use Rattle.arena_layout.specs.declared.layout.Layout.{Layout}
use Rattle.arena_layout.specs.Layout.{IsLayout}
use Rattle.flog.specs.declared.half.Half.{Half}
use Rattle.flog.specs.declared.group.Group.{Group}
use Rattle.map_table.specs.Entry.{entry_of}
use Rattle.map_table.specs.Blocks.{blocks_from, blocks_of, NamesEachOnce}
use Rattle.arena_open.specs.Reading.{is_pending, moves_of, moved, free_of}
use Rattle.arena_open.proofs.Pending.{HalfFits}
use Rattle.arena_open.proofs.OnceMore.{not_free}
use Rattle.arena_check.specs.declared.finding.Finding.{Finding}
use Rattle.arena_check.specs.declared.finding.Finding.TheVariants as found
use Rattle.arena_check.specs.Check.{block_findings, data_findings, map_findings, or_data, recovered_map}
use Rattle.arena_check.proofs.Clean.{none_found}
use Rattle.arena_check.proofs.BlockWords.{all_exist}
use Rattle.arena_repair.specs.Repair.{marked_map}
use Rattle.arena_repair.proofs.Marking.{length_marked, marked_blocks_of, none_bad}

-- ---- no move is pending

settled_by : (a b : Bool) → (a ≡ false → b ≡ false) → (not a && b) ≡ false
settled_by true b f = refl
settled_by false b f = f refl

half_settled : (entries : List ℕ) (half : Half) → (half.old ≢ half.new → (entry_of (get_or entries half.lba 0) half.lba).block ≢ half.old) → is_pending entries half ≡ false
half_settled entries half apart =
    settled_by (eqb half.old half.new) (eqb (entry_of (get_or entries half.lba 0) half.lba).block half.old)
    (λ e. ne_eqb (entry_of (get_or entries half.lba 0) half.lba).block half.old (apart (eqb-false half.old half.new e)))

none_pending : (entries : List ℕ) (groups : List Group) → All (λ group. is_pending entries group.half ≡ false) groups → moves_of entries groups ≡ []
none_pending entries [] all = refl
none_pending entries (group ∷ groups) all =
    let here : is_pending entries group.half ≡ false = All-head (λ g. is_pending entries g.half ≡ false) group groups all in
    ap (λ (b : Bool). cond b (group.half ∷ moves_of entries groups) (moves_of entries groups)) here
    ∙ none_pending entries groups (All-tail (λ g. is_pending entries g.half ≡ false) group groups all)

-- a pending move's sector still names a lane's free block
pub settled : (external internal : ℕ) (entries : List ℕ) (groups : List Group) → length entries ≡ external → All (λ group. HalfFits external internal group.half) groups
    → NamesEachOnce internal (blocks_of entries (free_of groups)) → moves_of entries groups ≡ []
settled external internal entries groups len fit once =
    none_pending entries groups (λ k d lt. half_settled entries (get_or groups k d).half (λ ne same.
    not_free internal entries (free_of groups) (get_or groups k d).half.lba k 0 once
    (omega (arith, (fit k d lt).lba ne, len)) (omega (arith, lt, length-map groups (λ (group : Group). group.half.old)))
    (same ∙ sym (get_or-map (λ group. group.half.old) groups k d 0 lt))))

-- ---- a marked map

pub small_blocks : (n : ℕ) (entries free : List ℕ) → n ≤ 2 ^ 30 → block_findings n (blocks_of entries free) ≡ [] → All (λ b. b < 2 ^ 30) (blocks_from 0 entries)
small_blocks n entries free few none k d lt = (let below : get_or (blocks_from 0 entries) k d < n = all_exist n entries free none k d lt in omega (arith, below, few))

module _ (l : Layout) (ok : IsLayout l) (bad : ℕ → Bool) (entries : List ℕ) (groups : List Group) (len : length entries ≡ l.external)
    (fit : All (λ group. HalfFits l.external l.internal group.half) groups) (none : block_findings l.internal (blocks_of entries (free_of groups)) ≡ []) where
  few : All (λ b. b < 2 ^ 30) (blocks_from 0 entries)
  few = small_blocks l.internal entries (free_of groups) ok.internal_few none

  pub marked_found : block_findings l.internal (blocks_of (marked_map l bad entries) (free_of groups)) ≡ []
  marked_found = ap (block_findings l.internal) (marked_blocks_of l bad entries few (free_of groups)) ∙ none

  -- no move is pending in it
  pub marked_settled : moves_of (marked_map l bad entries) groups ≡ []
  marked_settled =
      settled l.external l.internal (marked_map l bad entries) groups (length_marked l bad entries ∙ len) fit
      (none_found l.internal (blocks_of (marked_map l bad entries) (free_of groups)) marked_found)

  -- a check finds nothing in it
  pub marked_clean : map_findings l bad (recovered_map (marked_map l bad entries) groups) groups ≡ []
  marked_clean =
      ap (λ (ms : List Half). map_findings l bad (moved (marked_map l bad entries) ms) groups) marked_settled
      ∙ ap (λ (fs : List Finding). or_data fs (data_findings l bad (marked_map l bad entries))) marked_found
      ∙ ap (map found.BadData) (none_bad l bad entries few len)
