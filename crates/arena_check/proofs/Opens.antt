-- The report on an arena that opens has no harmful finding.
use Rattle.std.proofs.Common.{◌≡◌, ℕ, zero, suc, ◌+◌, ◌-◌, ◌*◌, ◌/◌, ◌<◌, Bool, true, false, cond, eqb, leb, ltb, List, [], ◌∷◌, ◌++◌, length, map, Some, Result, Ok, Err, refl, ap, ◌∙◌, arith, ◌&&◌}
use Rattle.std.specs.Prelude.{filter, All}
use Rattle.std.specs.List.{range_with_len, list_all, cons_option}
use Rattle.std.proofs.lemmas.Bool.{lt-leb, le-ltb}
use Rattle.std.proofs.lemmas.List.Folds.{list_all-append}
use Rattle.arena_layout.specs.declared.info.Info.{Info}
use Rattle.arena_layout.specs.declared.info.InfoFault.{InfoFault}
use Rattle.arena_layout.specs.Info.{info_reading}
use Rattle.arena_layout.specs.declared.layout.Layout.{Layout}
use Rattle.flog.specs.declared.group.Group.{Group}
use Rattle.map_table.specs.declared.check.BlockFault.{BlockFault}
use Rattle.map_table.specs.Blocks.{blocks_of, count_of, block_check, NamesEachOnce}
use Rattle.map_table.proofs.Once.{names_once}
use Rattle.arena_open.specs.declared.opened.Opened.{Opened}
use Rattle.arena_open.specs.declared.refused.OpenRefused.{OpenRefused}
use Rattle.arena_open.specs.Reading.{info_bytes, map_in, groups_in, moves_of, free_of, opening, on_info, on_groups, on_blocks, opened_with}
use Rattle.arena_check.specs.declared.finding.Finding.{Finding}
use Rattle.arena_check.specs.declared.finding.Finding.TheVariants as found
use Rattle.arena_check.specs.declared.info.InfoSource.TheVariants as source
use Rattle.arena_check.specs.Check.{source_by, page_reading, backup_finding, info_findings, block_findings, recovered_map, in_arena, or_data, data_findings, bad_sectors, map_findings, group_findings, bad_meta, meta_findings, findings_with, report_by, report_of}
use Rattle.arena_check.specs.Laws.{is_harmless, OpenArenasAreClean}
use Rattle.arena_check.proofs.Clean.{nothing_from}

-- ---- findings that are all harmless

both : (xs ys : List Finding) → list_all is_harmless xs ≡ true → list_all is_harmless ys ≡ true → list_all is_harmless (xs ++ ys) ≡ true
both xs ys e f = list_all-append is_harmless xs ys ∙ (λ i. e i && f i)

backup_harmless : (same : Bool) (r : Result Info InfoFault) → list_all is_harmless (cons_option (backup_finding same r) []) ≡ true
backup_harmless same (Err fault) = refl
backup_harmless true (Ok info) = refl
backup_harmless false (Ok info) = refl

data_harmless : (sectors : List ℕ) → list_all is_harmless (map found.BadData sectors) ≡ true
data_harmless [] = refl
data_harmless (s ∷ sectors) = data_harmless sectors

words_harmless : (words : List ℕ) → list_all is_harmless (map found.BadMeta words) ≡ true
words_harmless [] = refl
words_harmless (w ∷ words) = words_harmless words

meta_harmless : (at : ℕ) (bad : ℕ → Bool) (l : Layout) → list_all is_harmless (meta_findings at bad l) ≡ true
unfolding bad_meta meta_findings
meta_harmless at bad l =
    both (bad_meta bad at 512) (bad_meta bad (at + l.map_off / 8) (l.size / 8 - l.map_off / 8))
    (words_harmless (filter bad (range_with_len at 512))) (words_harmless (filter bad (range_with_len (at + l.map_off / 8) (l.size / 8 - l.map_off / 8))))

-- ---- blocks that are each named once

none_outside : (n : ℕ) (blocks : List ℕ) → All (λ b. b < n) blocks → filter (leb n) blocks ≡ []
none_outside n [] all = refl
none_outside n (x ∷ xs) all =
    (λ i. cond (lt-leb n x (all zero 0 (omega arith)) i) (x ∷ filter (leb n) xs) (filter (leb n) xs)) ∙ none_outside n xs (λ k d lt. all (suc k) d (omega (arith, lt)))

once_clean : (n : ℕ) (blocks : List ℕ) → NamesEachOnce n blocks → block_findings n blocks ≡ []
once_clean n blocks names =
    let outside : filter (leb n) blocks ≡ [] = none_outside n blocks names.below in
    let twice : filter (λ b. ltb 1 (count_of b blocks)) (range_with_len 0 n) ≡ [] =
    nothing_from (λ b. ltb 1 (count_of b blocks)) 0 n (λ b low high. le-ltb 1 (count_of b blocks) (omega (arith, names.once b (omega (arith, high))))) in
    let missing : filter (λ b. eqb (count_of b blocks) 0) (range_with_len 0 n) ≡ [] =
    nothing_from (λ b. eqb (count_of b blocks) 0) 0 n (λ b low high. ap (λ (c : ℕ). eqb c 0) (names.once b (omega (arith, high)))) in
    (λ i. map found.Range (outside i) ++ (map found.Twice (twice i) ++ map found.Missing (missing i)))

-- ---- the arena opens

module _ (at : ℕ) (bad : ℕ → Bool) (words parent : List ℕ) (opened : Opened) where
  -- what is said of a report's parts
  abbrev Clean : Result Info InfoFault → Result Info InfoFault → Type 0
  Clean first last =
      ((report_by at bad words parent (source_by (8 * length words) first last)).size ≡ Some opened.info.layout.size)
      × (list_all is_harmless (report_by at bad words parent (source_by (8 * length words) first last)).findings ≡ true)

  by_blocks : (info : Info) (groups : List Group) (check : Result (Unit {0}) BlockFault) (entries : List ℕ)
      → block_check info.layout.internal (blocks_of (recovered_map entries groups) (free_of groups)) ≡ check
      → on_blocks (opened_with info groups (recovered_map entries groups) (moves_of entries groups)) check ≡ Ok opened
      → (info.layout.size ≡ opened.info.layout.size) × (list_all is_harmless (map_findings info.layout (in_arena at bad) (recovered_map entries groups) groups) ≡ true)
  by_blocks info groups (Err fault) entries is e = absurd (let f = e in cc)
  by_blocks info groups (Ok tt) entries is e =
      let same : opened_with info groups (recovered_map entries groups) (moves_of entries groups) ≡ opened = let f = e in cc in
      let none : block_findings info.layout.internal (blocks_of (recovered_map entries groups) (free_of groups)) ≡ [] =
      once_clean info.layout.internal (blocks_of (recovered_map entries groups) (free_of groups))
      (names_once info.layout.internal (blocks_of (recovered_map entries groups) (free_of groups)) is) in (
        ap (λ (o : Opened). o.info.layout.size) same,
        ap (λ (fs : List Finding). list_all is_harmless (or_data fs (data_findings info.layout (in_arena at bad) (recovered_map entries groups)))) none
            ∙ data_harmless (bad_sectors info.layout (in_arena at bad) (recovered_map entries groups)),
      )

  by_groups : (info : Info) (groups : Result (List Group) OpenRefused) → groups_in info.layout words ≡ groups → on_groups words info groups ≡ Ok opened
      → (info.layout.size ≡ opened.info.layout.size) × (list_all is_harmless (group_findings info.layout (in_arena at bad) words groups) ≡ true)
  by_groups info (Err fault) is e = absurd (let f = e in cc)
  by_groups info (Ok groups) is e =
      by_blocks info groups (block_check info.layout.internal (blocks_of (recovered_map (map_in info.layout words) groups) (free_of groups))) (map_in info.layout words) refl e

  by_info : (first last : Result Info InfoFault) → on_info words first ≡ Ok opened → Clean first last
  by_info (Err fault) last e = absurd (let f = e in cc)
  by_info (Ok info) last e =
      let parts = by_groups info (groups_in info.layout words) refl e in (
        ap (λ (n : ℕ). Some n) parts.0,
        both (info_findings words parent (source.First info)) (findings_with at bad words info.layout) (backup_harmless _ _)
            (both (group_findings info.layout (in_arena at bad) words (groups_in info.layout words)) (meta_findings at bad info.layout) parts.1 (meta_harmless at bad info.layout)),
      )

pub open_clean : OpenArenasAreClean
unfolding opening report_of
open_clean at bad words parent opened e =
    by_info at bad words parent opened (info_reading (info_bytes words) parent (8 * length words)) (page_reading (length words - 512) words parent) e
