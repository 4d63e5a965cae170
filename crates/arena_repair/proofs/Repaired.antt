-- What an arena's words have after a repair: both pages, the map, and all that stays.
use Rattle.std.proofs.Common.{◌≡◌, ℕ, ◌/◌, ◌%◌, ◌^◌, ◌<◌, ◌≤◌, Bool, List, [], ◌∷◌, length, get_or, Option, Some, None, Result, Ok, Err, refl, sym, ap, ◌∙◌, subst, arith}
use Rattle.std.specs.List.{All}
use Rattle.std.proofs.Math.ListN.{set}
use Rattle.std.proofs.lemmas.List.Elements.{All-head, All-tail, All-set}
use Rattle.std.proofs.lemmas.List.FromFn.{get_or-map-range_with_len}
use Rattle.cut_words.specs.WordBytes.{put_at}
use Rattle.arena_layout.specs.declared.layout.Layout.{Layout}
use Rattle.arena_layout.specs.Layout.{IsLayout}
use Rattle.flog.specs.declared.half.Half.{Half}
use Rattle.flog.specs.declared.group.Group.{Group}
use Rattle.map_table.specs.Entry.{normal_of, entry_in, weight_of}
use Rattle.map_table.specs.Blocks.{blocks_of}
use Rattle.arena_open.specs.declared.refused.OpenRefused.{OpenRefused}
use Rattle.arena_open.specs.Halves.{IsMove, AreMoves}
use Rattle.arena_open.specs.Places.{value_at, map_word}
use Rattle.arena_open.specs.Reading.{entry_at, map_in, groups_in, moves_of, moved, free_of}
use Rattle.arena_open.proofs.Opening.{length_map, lanes_in_range}
use Rattle.arena_open.proofs.OnceMore.{length_moved}
use Rattle.arena_open.proofs.Pending.{moves_fit}
use Rattle.arena_check.specs.declared.finding.Finding.{Finding}
use Rattle.arena_check.specs.Check.{bad_sectors, block_findings, recovered_map}
use Rattle.arena_repair.specs.Repair.{marked_map, if_changed, unless_found, entries_repair, map_repair, with_entries, with_map, with_page}
use Rattle.arena_repair.proofs.Changing.{page_of, Shows, ChangesMap, CopiesPage, WithMapChanges, BackupCopies, FirstCopies}
use Rattle.arena_repair.proofs.MapChanges.{shows_on, shows_same}
use Rattle.arena_repair.proofs.Marking.{length_marked, marked_small_all}
use Rattle.arena_repair.proofs.Settled.{small_blocks}

-- ---- entries fit 32 bits

remainder : (n : ℕ) → n % 2 ^ 32 < 2 ^ 32
remainder n = omega arith

entry_fits : (word sector : ℕ) → entry_in word sector < 2 ^ 32
unfolding entry_in
entry_fits word sector = remainder (word / weight_of sector)

map_fits : (l : Layout) (words : List ℕ) → All (λ entry. entry < 2 ^ 32) (map_in l words)
map_fits l words k d lt =
    let at : get_or (map_in l words) k d ≡ entry_at l words k = get_or-map-range_with_len (entry_at l words) 0 l.external k k d (omega (arith, lt, length_map l words)) (omega arith) in
    subst (λ (entry : ℕ). entry < 2 ^ 32) (sym at) (entry_fits (value_at l words (map_word (k / 2))) k)

moved_fits : (n : ℕ) (entries : List ℕ) (moves : List Half) → All (λ entry. entry < 2 ^ 32) entries → AreMoves n moves → All (λ entry. entry < 2 ^ 32) (moved entries moves)
moved_fits n entries [] fit are = fit
moved_fits n entries (half ∷ moves) fit are =
    let small : normal_of half.new < 2 ^ 32 = omega (arith, (All-head (IsMove n) half moves are).block) in
    moved_fits n (set entries half.lba (normal_of half.new)) moves (All-set (λ entry. entry < 2 ^ 32) entries half.lba (normal_of half.new) small fit) (All-tail (IsMove n) half moves are)

pub length_recovered : (l : Layout) (words : List ℕ) (groups : List Group) → length (recovered_map (map_in l words) groups) ≡ l.external
length_recovered l words groups = length_moved (map_in l words) (moves_of (map_in l words) groups) ∙ length_map l words

recovered_fits : (l : Layout) (words : List ℕ) (groups : List Group) → IsLayout l → groups_in l words ≡ Ok groups → All (λ entry. entry < 2 ^ 32) (recovered_map (map_in l words) groups)
recovered_fits l words groups ok are =
    moved_fits l.external (map_in l words) (moves_of (map_in l words) groups) (map_fits l words)
    (moves_fit l.external (map_in l words) groups (lanes_in_range l words groups ok are))

-- ---- when a map is written

-- the blocks have no finding, and bad sectors are marked
pub record Written (l : Layout) (bad : ℕ → Bool) (entries : List ℕ) (groups : List Group) (new : List ℕ) : Type 0 where
  pub none : block_findings l.internal (blocks_of (recovered_map entries groups) (free_of groups)) ≡ []
  pub is : new ≡ marked_map l bad (recovered_map entries groups)

written_by : (findings : List Finding) (moves : List Half) (sectors entries new : List ℕ) → unless_found findings (if_changed moves sectors entries) ≡ Some new
    → (findings ≡ []) × (new ≡ entries)
written_by [] [] [] entries new e = absurd (let f = e in cc)
written_by [] [] (sector ∷ sectors) entries new e = (refl, let same : entries ≡ new = cc in sym same)
written_by [] (half ∷ moves) sectors entries new e = (refl, let same : entries ≡ new = cc in sym same)
written_by (finding ∷ findings) moves sectors entries new e = absurd (let f = e in cc)

pub written : (l : Layout) (bad : ℕ → Bool) (entries : List ℕ) (groups : List Group) (new : List ℕ) → entries_repair l bad entries groups ≡ Some new → Written l bad entries groups new
written l bad entries groups new e =
    let p = written_by (block_findings l.internal (blocks_of (recovered_map entries groups) (free_of groups))) (moves_of entries groups) (bad_sectors l bad (recovered_map entries groups))
    (marked_map l bad (recovered_map entries groups)) new e in
    record { none = p.0; is = p.1 }

-- an entry for each sector, each of 32 bits
pub record FitsMap (l : Layout) (entries : List ℕ) : Type 0 where
  pub sectors : length entries ≡ l.external
  pub small : All (λ entry. entry < 2 ^ 32) entries

marked_fits : (l : Layout) (bad : ℕ → Bool) (words : List ℕ) (groups : List Group) → IsLayout l → groups_in l words ≡ Ok groups
    → block_findings l.internal (blocks_of (recovered_map (map_in l words) groups) (free_of groups)) ≡ [] → FitsMap l (marked_map l bad (recovered_map (map_in l words) groups))
marked_fits l bad words groups ok are none = record {
  sectors = length_marked l bad (recovered_map (map_in l words) groups) ∙ length_recovered l words groups;
  small = marked_small_all l bad (recovered_map (map_in l words) groups) (small_blocks l.internal (recovered_map (map_in l words) groups) (free_of groups) ok.internal_few none)
      (recovered_fits l words groups ok are);
}

pub fits_by : (l : Layout) (bad : ℕ → Bool) (words new : List ℕ) (r : Result (List Group) OpenRefused) → IsLayout l → groups_in l words ≡ r
    → map_repair l bad words r ≡ Some new → FitsMap l new
fits_by l bad words new (Err refused) ok are e = absurd (let f = e in cc)
fits_by l bad words new (Ok groups) ok are e =
    let w = written l bad (map_in l words) groups new e in
    subst (FitsMap l) (sym w.is) (marked_fits l bad words groups ok are w.none)

-- ---- the words

abbrev pub entries_now : List ℕ → Option (List ℕ) → List ℕ
entries_now entries None = entries
entries_now entries (Some new) = new

-- the pages are those that were at these words, and the map stays
pub record HasPages (l : Layout) (words now : List ℕ) (first backup : ℕ) : Type 0 where
  pub stays : Shows l words now
  pub map_is : map_in l now ≡ map_in l words
  pub info_is : page_of 0 now ≡ page_of first words
  pub backup_is : page_of (l.info_off / 8) now ≡ page_of backup words

-- the pages are those that were at these words, and the map is repaired
pub record IsRepaired (l : Layout) (bad : ℕ → Bool) (words now : List ℕ) (first backup : ℕ) : Type 0 where
  pub stays : Shows l words now
  pub map_is : map_in l now ≡ entries_now (map_in l words) (map_repair l bad words (groups_in l words))
  pub info_is : page_of 0 now ≡ page_of first words
  pub backup_is : page_of (l.info_off / 8) now ≡ page_of backup words

pub same_pages : (l : Layout) (words : List ℕ) → HasPages l words words 0 (l.info_off / 8)
same_pages l words = record { stays = shows_same l words; map_is = refl; info_is = refl; backup_is = refl }

copied : (l : Layout) (words now : List ℕ) (from : ℕ) → CopiesPage l words now from → HasPages l words now from from
copied l words now from c = record { stays = c.stays.shows; map_is = c.map_is; info_is = c.info_is; backup_is = c.backup_is }

-- words whose arena is like that of repaired ones
pub repaired_then : (l : Layout) (bad : ℕ → Bool) (words mid now : List ℕ) (first backup : ℕ) → IsRepaired l bad words mid first backup → HasPages l mid now 0 (l.info_off / 8)
    → IsRepaired l bad words now first backup
repaired_then l bad words mid now first backup r p = record {
  stays = shows_on l words mid now r.stays p.stays;
  map_is = p.map_is ∙ r.map_is;
  info_is = p.info_is ∙ r.info_is;
  backup_is = p.backup_is ∙ r.backup_is;
}

module _ (map_changes : WithMapChanges) (backup_copies : BackupCopies) (first_copies : FirstCopies) where
  pub backup_pages : (l : Layout) (words : List ℕ) → IsLayout l → l.size / 8 ≤ length words → HasPages l words (with_page words (Some (record { from = 0; to = l.info_off / 8 }))) 0 0
  backup_pages l words ok inside = copied l words (put_at words (l.info_off / 8) (page_of 0 words)) 0 (backup_copies l words ok inside)

  pub first_pages : (l : Layout) (words : List ℕ) → IsLayout l → l.size / 8 ≤ length words
      → HasPages l words (with_page words (Some (record { from = l.info_off / 8; to = 0 }))) (l.info_off / 8) (l.info_off / 8)
  first_pages l words ok inside = copied l words (put_at words 0 (page_of (l.info_off / 8) words)) (l.info_off / 8) (first_copies l words ok inside)

  module _ (l : Layout) (bad : ℕ → Bool) (words mid : List ℕ) (first backup : ℕ) (ok : IsLayout l) (inside : l.size / 8 ≤ length words) (p : HasPages l words mid first backup) where
    repaired_by : (o : Option (List ℕ)) → map_repair l bad words (groups_in l words) ≡ o → IsRepaired l bad words (with_entries l mid o) first backup
    repaired_by None is = record { stays = p.stays; map_is = p.map_is ∙ ap (entries_now (map_in l words)) (sym is); info_is = p.info_is; backup_is = p.backup_is }
    repaired_by (Some new) is =
        let fits : FitsMap l new = fits_by l bad words new (groups_in l words) ok refl is in
        let c : ChangesMap l mid (with_map l mid 0 new) new = map_changes l mid new ok (omega (arith, inside, p.stays.long)) fits.sectors fits.small in
        record {
          stays = shows_on l words mid (with_map l mid 0 new) p.stays c.stays.shows;
          map_is = c.map_is ∙ ap (entries_now (map_in l words)) (sym is);
          info_is = c.info_is ∙ p.info_is;
          backup_is = c.backup_is ∙ p.backup_is;
        }

    pub repaired : IsRepaired l bad words (with_entries l mid (map_repair l bad words (groups_in l words))) first backup
    repaired = repaired_by (map_repair l bad words (groups_in l words)) refl
