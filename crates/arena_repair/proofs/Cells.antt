-- The cells of sectors after a repair.
use Rattle.std.proofs.Common.{◌≡◌, ℕ, ◌/◌, ◌<◌, Bool, true, false, cond, leb, List, [], ◌∷◌, get_or, Result, Ok, Err, refl, sym, ap, ◌∙◌, arith}
use Rattle.std.specs.Prelude.{All}
use Rattle.std.proofs.lemmas.Bool.{leb-false, lt-leb}
use Rattle.arena_layout.specs.declared.layout.Layout.{Layout}
use Rattle.arena_layout.specs.Layout.{IsLayout}
use Rattle.flog.specs.declared.half.Half.{Half}
use Rattle.flog.specs.declared.group.Group.{Group}
use Rattle.map_table.specs.declared.kinds.Kind.{Kind}
use Rattle.map_table.specs.declared.kinds.Kind.TheVariants as kind
use Rattle.map_table.specs.declared.kinds.MapEntry.{MapEntry}
use Rattle.map_table.specs.Entry.{entry_of}
use Rattle.map_table.specs.Blocks.{blocks_of, blocks_from}
use Rattle.arena_open.specs.declared.cell.Cell.TheVariants as cell
use Rattle.arena_open.specs.declared.refused.OpenRefused.{OpenRefused}
use Rattle.arena_open.specs.Places.{block_words}
use Rattle.arena_open.specs.Reading.{cell_at, cell_by, cell_with, entry_at, free_of, groups_in, map_in, moved, moves_of}
use Rattle.arena_check.specs.declared.finding.Finding.{Finding}
use Rattle.arena_check.specs.Check.{bad_sectors, block_findings, has_bytes, in_arena, is_bad_data, recovered_map}
use Rattle.arena_check.proofs.BlockWords.{all_exist, entry_below}
use Rattle.arena_repair.specs.Repair.{bad_of, marked_entry, marked_map, if_changed, unless_found, entries_repair, map_repair, repaired_words}
use Rattle.arena_repair.specs.Laws.{cell_of, KeepsSector, UnlessBroken, SectorAfter, RepairKeepsCells}
use Rattle.arena_repair.proofs.Changing.{Shows}
use Rattle.arena_repair.proofs.MapChanges.{index_is}
use Rattle.arena_repair.proofs.Marking.{bad_back, marked_at, numbers_fail}
use Rattle.arena_repair.proofs.Repaired.{entries_now, length_recovered}
use Rattle.arena_repair.proofs.Inside.{Kept, kept}

-- ---- a cell by its entry

-- an entry's block exists if its bytes are read
exists_by : (k : Kind) (internal block : ℕ) → block < internal → cond (has_bytes k) (leb internal block) false ≡ false
exists_by kind.Initial internal block lt = lt-leb internal block lt
exists_by kind.Normal internal block lt = lt-leb internal block lt
exists_by kind.Zero internal block lt = refl
exists_by kind.Bad internal block lt = refl

module _ (l : Layout) (ok : IsLayout l) (words now : List ℕ) (stays : Shows l words now) where
  bytes_same : (block : ℕ) → leb l.internal block ≡ false → cell.Bytes (block_words l now block (l.sector / 8)) ≡ cell.Bytes (block_words l words block (l.sector / 8))
  bytes_same block in' = ap cell.Bytes (stays.blocks_are block (l.sector / 8) (leb-false l.internal block in') (omega (arith, ok.inner_enough)))

  cell_same : (k : Kind) (block : ℕ) → cond (has_bytes k) (leb l.internal block) false ≡ false → cell_by l now k block ≡ cell_by l words k block
  cell_same kind.Zero block in' = refl
  cell_same kind.Bad block in' = refl
  cell_same kind.Initial block in' = bytes_same block in'
  cell_same kind.Normal block in' = bytes_same block in'

  -- the map stays
  pub sector_kept : (sector : ℕ) → sector < l.external → map_in l now ≡ map_in l words → KeepsSector l words now sector
  sector_kept sector lt same =
      let entry : entry_at l now sector ≡ entry_at l words sector = sym (index_is l now sector lt) ∙ ap (λ (m : List ℕ). get_or m sector 0) same ∙ index_is l words sector lt in
      record {
        entry = entry;
        cell = λ in'. ap (λ (e : ℕ). cell_with l now (entry_of e sector)) entry
            ∙ cell_same (entry_of (entry_at l words sector) sector).kind (entry_of (entry_at l words sector) sector).block in';
      }

  -- a sector's entry is marked if its bytes have a bad word
  marked_by : (b : Bool) (word sector : ℕ) → (entry_of word sector).block < l.internal
      → cell_with l now (entry_of (cond b (bad_of (entry_of word sector).block) word) sector) ≡ cond b cell.Bad (cell_with l words (entry_of word sector))
  marked_by true word sector lt =
      ap (λ (e : MapEntry). cell_with l now e) (bad_back (entry_of word sector).block sector (omega (arith, lt, ok.internal_few)))
  marked_by false word sector lt =
      cell_same (entry_of word sector).kind (entry_of word sector).block (exists_by (entry_of word sector).kind l.internal (entry_of word sector).block lt)

  pub cell_marked : (bad : ℕ → Bool) (word sector : ℕ) → (entry_of word sector).block < l.internal → entry_at l now sector ≡ marked_entry l bad sector word
      → cell_at l now sector ≡ cell_of l bad words (entry_of word sector)
  cell_marked bad word sector lt is =
      ap (λ (e : ℕ). cell_with l now (entry_of e sector)) is ∙ marked_by (is_bad_data l bad (entry_of word sector)) word sector lt

-- ---- the entries of a repair

-- an entry of a map that is perhaps written
entry_by : (old marked : List ℕ) (moves : List Half) (sectors : List ℕ) (sector word : ℕ) → (moves ≡ [] → sectors ≡ [] → get_or old sector 0 ≡ word) → get_or marked sector 0 ≡ word
    → get_or (entries_now old (if_changed moves sectors marked)) sector 0 ≡ word
entry_by old marked [] [] sector word same is = same refl refl
entry_by old marked [] (s ∷ sectors) sector word same is = is
entry_by old marked (h ∷ moves) sectors sector word same is = is

-- if blocks have no finding, each entry is the marked one of the recovered map
pub entry_after : (l : Layout) (bad : ℕ → Bool) (words : List ℕ) (groups : List Group) (sector : ℕ) → sector < l.external
    → block_findings l.internal (blocks_of (recovered_map (map_in l words) groups) (free_of groups)) ≡ []
    → get_or (entries_now (map_in l words) (entries_repair l bad (map_in l words) groups)) sector 0 ≡ marked_entry l bad sector (get_or (recovered_map (map_in l words) groups) sector 0)
entry_after l bad words groups sector lt none =
    ap (λ (findings : List Finding). get_or (entries_now (map_in l words)
    (unless_found findings (if_changed (moves_of (map_in l words) groups) (bad_sectors l bad (recovered_map (map_in l words) groups)) (marked_map l bad (recovered_map (map_in l words) groups))))) sector 0) none
    ∙ entry_by (map_in l words) (marked_map l bad (recovered_map (map_in l words) groups)) (moves_of (map_in l words) groups)
    (bad_sectors l bad (recovered_map (map_in l words) groups)) sector (marked_entry l bad sector (get_or (recovered_map (map_in l words) groups) sector 0))
    (λ no_moves no_sectors.
    ap (λ (ms : List Half). get_or (moved (map_in l words) ms) sector 0) (sym no_moves)
    ∙ sym (ap (λ (b : Bool). cond b (bad_of (entry_of (get_or (recovered_map (map_in l words) groups) sector 0) sector).block) (get_or (recovered_map (map_in l words) groups) sector 0))
    (numbers_fail (λ s. is_bad_data l bad (entry_of (get_or (recovered_map (map_in l words) groups) s 0) s)) 0 l.external no_sectors sector (omega arith) (omega (arith, lt)))))
    (marked_at l bad (recovered_map (map_in l words) groups) sector (omega (arith, lt, length_recovered l words groups)))

-- ---- the law

module _ (l : Layout) (bad : ℕ → Bool) (words now : List ℕ) (ok : IsLayout l) (stays : Shows l words now) (sector : ℕ) (lt : sector < l.external) where
  by_findings : (groups : List Group) (findings : List Finding) → block_findings l.internal (blocks_of (recovered_map (map_in l words) groups) (free_of groups)) ≡ findings
      → map_in l now ≡ entries_now (map_in l words) (entries_repair l bad (map_in l words) groups)
      → UnlessBroken findings (cell_at l now sector ≡ cell_of l bad words (entry_of (get_or (recovered_map (map_in l words) groups) sector 0) sector)) (KeepsSector l words now sector)
  by_findings groups [] none map_is =
      let exist : All (λ block. block < l.internal) (blocks_from 0 (recovered_map (map_in l words) groups)) = all_exist l.internal (recovered_map (map_in l words) groups) (free_of groups) none in
      cell_marked l ok words now stays bad (get_or (recovered_map (map_in l words) groups) sector 0) sector
      (entry_below l.internal (recovered_map (map_in l words) groups) sector exist (omega (arith, lt, length_recovered l words groups)))
      (sym (index_is l now sector lt) ∙ ap (λ (m : List ℕ). get_or m sector 0) map_is ∙ entry_after l bad words groups sector lt none)
  by_findings groups (f ∷ findings) some map_is =
      sector_kept l ok words now stays sector lt (map_is ∙ ap (λ (fs : List Finding). entries_now (map_in l words)
      (unless_found fs (if_changed (moves_of (map_in l words) groups) (bad_sectors l bad (recovered_map (map_in l words) groups)) (marked_map l bad (recovered_map (map_in l words) groups))))) some)

  pub sector_after : (r : Result (List Group) OpenRefused) → map_in l now ≡ entries_now (map_in l words) (map_repair l bad words r) → SectorAfter l bad words now r sector
  sector_after (Err refused) map_is = sector_kept l ok words now stays sector lt map_is
  sector_after (Ok groups) map_is = by_findings groups (block_findings l.internal (blocks_of (recovered_map (map_in l words) groups) (free_of groups))) refl map_is

pub repair_keeps_cells : RepairKeepsCells
repair_keeps_cells at bad words parent info used sector lt =
    let k : Kept at bad words parent info = kept at bad words parent info used in
    sector_after info.layout (in_arena at bad) words (repaired_words at bad words parent) k.ok.layout k.stays.shows sector lt (groups_in info.layout words) k.map_is
