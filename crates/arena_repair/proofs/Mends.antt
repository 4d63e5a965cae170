-- A check after a repair has the findings that were left open, and no new one.
use Rattle.std.proofs.Common.{◌≡◌, ℕ, zero, suc, ◌+◌, ◌-◌, ◌*◌, ◌/◌, ◌<◌, ◌≤◌, Bool, true, false, not, cond, eqb, List, [], ◌∷◌, ◌++◌, length, map, Option, Some, None, Result, Ok, Err, refl, sym, ap, ◌∙◌, arith}
use Rattle.std.specs.List.{All, range_with_len, cons_option, list_all}
use Rattle.std.specs.Str.{bytes_eq}
use Rattle.std.proofs.lemmas.Bool.{eqb-true, eq-eqb}
use Rattle.std.proofs.lemmas.Slice.Eq.{bytes_eq-Decides}
use Rattle.cut_words.specs.WordBytes.{bytes_of}
use Rattle.arena_layout.specs.declared.layout.Layout.{Layout}
use Rattle.arena_layout.specs.declared.info.Info.{Info}
use Rattle.arena_layout.specs.declared.info.InfoFault.{InfoFault}
use Rattle.arena_layout.specs.Layout.{IsLayout}
use Rattle.arena_layout.specs.Info.{info_reading, IsArenaOf}
use Rattle.arena_layout.proofs.Reading.{sound_at}
use Rattle.flog.specs.declared.half.Half.{Half}
use Rattle.flog.specs.declared.group.Group.{Group}
use Rattle.flog.specs.Group.{group_reading}
use Rattle.map_table.specs.Blocks.{blocks_of}
use Rattle.arena_open.specs.declared.refused.OpenRefused.{OpenRefused}
use Rattle.arena_open.specs.Places.{group_words}
use Rattle.arena_open.specs.Reading.{info_bytes, map_in, groups_in, moves_of, free_of}
use Rattle.arena_open.proofs.Pending.{HalfFits, groups_fit}
use Rattle.arena_open.proofs.Rewritten.{groups_same}
use Rattle.arena_check.specs.declared.finding.Finding.{Finding}
use Rattle.arena_check.specs.declared.finding.Finding.TheVariants as found
use Rattle.arena_check.specs.declared.finding.Report.{Report}
use Rattle.arena_check.specs.declared.info.InfoSource.{InfoSource}
use Rattle.arena_check.specs.declared.info.InfoSource.TheVariants as source
use Rattle.arena_check.specs.Check.{bad_sectors, data_findings, block_findings, recovered_map, or_data, map_findings, group_finding, flog_findings_of, group_findings, in_arena, meta_findings, findings_with, backup_finding, page_at, page_reading, source_by, source_of, info_findings, report_by, report_of}
use Rattle.arena_check.specs.Laws.{is_harmless}
use Rattle.arena_check.proofs.Clean.{clean_opens}
use Rattle.arena_repair.specs.declared.page.PageCopy.{PageCopy}
use Rattle.arena_repair.specs.Repair.{is_damage, marked_map, if_changed, unless_found, entries_repair, map_repair, when_found, with_page, repaired_with, repaired_by, repaired_words, mended}
use Rattle.arena_repair.specs.Laws.{RepairMends, RepairedArenasOpen}
use Rattle.arena_repair.proofs.Changing.{Shows, page_of, WithMapChanges, BackupCopies, FirstCopies}
use Rattle.arena_repair.proofs.Settled.{marked_clean}
use Rattle.arena_repair.proofs.Repaired.{length_recovered, entries_now, HasPages, IsRepaired, same_pages, backup_pages, first_pages, repaired, repaired_then}
use Rattle.arena_repair.proofs.Open.{left_open, open-append, flog_open, block_open, meta_open, data_gone, backup_gone}

-- ---- the map

module _ (l : Layout) (ok : IsLayout l) (bad : ℕ → Bool) (entries now : List ℕ) (groups : List Group) (len : length (recovered_map entries groups) ≡ l.external)
    (fit : All (λ group. HalfFits l.external l.internal group.half) groups) where
  abbrev blocks : List ℕ
  blocks = blocks_of (recovered_map entries groups) (free_of groups)

  -- of the map as it is now
  abbrev found_now : List Finding
  found_now = map_findings l bad (recovered_map now groups) groups

  -- without a finding of blocks
  sound_by : (moves : List Half) (sectors : List ℕ) → block_findings l.internal blocks ≡ [] → bad_sectors l bad (recovered_map entries groups) ≡ sectors
      → now ≡ entries_now entries (if_changed moves sectors (marked_map l bad (recovered_map entries groups))) → found_now ≡ []
  sound_by [] [] none fine is =
      ap (λ (es : List ℕ). map_findings l bad (recovered_map es groups) groups) is
      ∙ ap (λ (fs : List Finding). or_data fs (data_findings l bad (recovered_map entries groups))) none
      ∙ ap (map found.BadData) fine
  sound_by [] (sector ∷ sectors) none fine is =
      ap (λ (es : List ℕ). map_findings l bad (recovered_map es groups) groups) is ∙ marked_clean l ok bad (recovered_map entries groups) groups len fit none
  sound_by (half ∷ moves) sectors none fine is =
      ap (λ (es : List ℕ). map_findings l bad (recovered_map es groups) groups) is ∙ marked_clean l ok bad (recovered_map entries groups) groups len fit none

  map_by : (findings : List Finding) → block_findings l.internal blocks ≡ findings
      → now ≡ entries_now entries (unless_found findings
      (if_changed (moves_of entries groups) (bad_sectors l bad (recovered_map entries groups)) (marked_map l bad (recovered_map entries groups))))
      → found_now ≡ left_open (or_data findings (data_findings l bad (recovered_map entries groups)))
  map_by [] are is =
      sound_by (moves_of entries groups) (bad_sectors l bad (recovered_map entries groups)) are refl is
      ∙ sym (data_gone (bad_sectors l bad (recovered_map entries groups)))
  map_by (finding ∷ findings) are is =
      ap (λ (es : List ℕ). map_findings l bad (recovered_map es groups) groups) is
      ∙ ap (λ (fs : List Finding). or_data fs (data_findings l bad (recovered_map entries groups))) are
      ∙ sym are
      ∙ sym (block_open l.internal blocks)
      ∙ ap left_open are

  map_mends : now ≡ entries_now entries (entries_repair l bad entries groups) → found_now ≡ left_open (map_findings l bad (recovered_map entries groups) groups)
  map_mends is = map_by (block_findings l.internal blocks) refl is

-- ---- the lanes' groups

flog_same : (l : Layout) (words now : List ℕ) (a n : ℕ) → ((lane : ℕ) → lane < l.lanes → group_words l now lane ≡ group_words l words lane) → a + n ≤ l.lanes
    → flog_findings_of l now (range_with_len a n) ≡ flog_findings_of l words (range_with_len a n)
flog_same l words now a zero same fits = refl
flog_same l words now a (suc n) same fits =
    let here = same a (omega (arith, fits)) in
    let rest = flog_same l words now (a + 1) n same (omega (arith, fits)) in
    λ i. cons_option (group_finding a (group_reading (here i) l.external l.internal)) (rest i)

module _ (l : Layout) (ok : IsLayout l) (bad : ℕ → Bool) (words now : List ℕ) (first backup : ℕ) (r : IsRepaired l bad words now first backup) where
  same_groups : groups_in l now ≡ groups_in l words
  same_groups = groups_same l words now 0 l.lanes r.stays.groups_are (omega arith)

  groups_by : (groups : Result (List Group) OpenRefused) → groups_in l words ≡ groups → group_findings l bad now groups ≡ left_open (group_findings l bad words groups)
  groups_by (Err refused) are = flog_same l words now 0 l.lanes r.stays.groups_are (omega arith) ∙ sym (flog_open l words (range_with_len 0 l.lanes))
  groups_by (Ok groups) are =
      map_mends l ok bad (map_in l words) (map_in l now) groups (length_recovered l words groups) (groups_fit l words (range_with_len 0 l.lanes) groups are).fit
      (r.map_is ∙ ap (λ (gs : Result (List Group) OpenRefused). entries_now (map_in l words) (map_repair l bad words gs)) are)

  groups_mend : group_findings l bad now (groups_in l now) ≡ left_open (group_findings l bad words (groups_in l words))
  groups_mend = ap (group_findings l bad now) same_groups ∙ groups_by (groups_in l words) refl

-- all behind the info block
rest_mends : (at : ℕ) (bad : ℕ → Bool) (l : Layout) → IsLayout l → (words now : List ℕ) (first backup : ℕ) → IsRepaired l (in_arena at bad) words now first backup
    → findings_with at bad now l ≡ left_open (findings_with at bad words l)
rest_mends at bad l ok words now first backup r =
    (λ i. groups_mend l ok (in_arena at bad) words now first backup r i ++ sym (meta_open at bad l) i)
    ∙ sym (open-append (group_findings l (in_arena at bad) words (groups_in l words)) (meta_findings at bad l))

-- ---- the info block and its backup

-- by the bytes of both pages
abbrev pages_finding : List ℕ → ℕ → List ℕ → List ℕ → Option Finding
pages_finding parent rest first backup = backup_finding (bytes_eq (bytes_of first) (bytes_of backup)) (info_reading (bytes_of backup) parent rest)

-- two equal pages have no finding
equal_pages : (parent : List ℕ) (rest : ℕ) (page : List ℕ) (info : Info) → info_reading (bytes_of page) parent rest ≡ Ok info → pages_finding parent rest page page ≡ None
equal_pages parent rest page info is =
    λ i. backup_finding ((bytes_eq-Decides (bytes_of page) (bytes_of page)).1 refl i) (is i)

-- ---- the report

-- What words have whose first arena was repaired, and is followed by another one; the words before it had this info in the first page.
pub record FrontMends (at : ℕ) (bad : ℕ → Bool) (words parent : List ℕ) (info : Info) (now : List ℕ) : Type 0 where
  pub source_is : source_of now parent ≡ source.First info
  pub report_is : report_by at bad now parent (source_of now parent) ≡ mended (report_by at bad words parent (source.First info))
  pub shows : Shows info.layout words now
  pub map_is : map_in info.layout now ≡ entries_now (map_in info.layout words) (map_repair info.layout (in_arena at bad) words (groups_in info.layout words))

-- a repair of words with this source
module _ (at : ℕ) (bad : ℕ → Bool) (words parent : List ℕ) (info : Info) (arena : IsArenaOf parent (8 * length words) info) where
  abbrev off : ℕ
  off = info.layout.info_off / 8

  abbrev Repaired : List ℕ → ℕ → ℕ → Type 0
  Repaired now first backup = IsRepaired info.layout (in_arena at bad) words now first backup

  abbrev reading_at : ℕ → Result Info InfoFault
  reading_at word = info_reading (bytes_of (page_of word words)) parent (8 * length words)

  info_same : (now : List ℕ) (first backup : ℕ) → Repaired now first backup → info_reading (info_bytes now) parent (8 * length now) ≡ reading_at first
  info_same now first backup r = λ i. info_reading (bytes_of (r.info_is i)) parent (8 * r.stays.long i)

  -- the first page is used
  first_used : (now : List ℕ) (first backup : ℕ) → Repaired now first backup → reading_at first ≡ Ok info → source_of now parent ≡ source.First info
  first_used now first backup r is =
      ap (λ (x : Result Info InfoFault). source_by (8 * length now) x (page_reading (length now - 512) now parent)) (info_same now first backup r ∙ is)

  first_found : (now : List ℕ) (first backup : ℕ) → Repaired now first backup
      → info_findings now parent (source.First info) ≡ cons_option (pages_finding parent (8 * length words) (page_of first words) (page_of backup words)) []
  first_found now first backup r = λ i. cons_option (pages_finding parent (8 * r.stays.long i) (r.info_is i) (r.backup_is i)) []

  -- the report if no finding of the first page or of its backup is left
  first_report : (now : List ℕ) (first backup : ℕ) (old : List Finding) → Repaired now first backup → reading_at first ≡ Ok info
      → pages_finding parent (8 * length words) (page_of first words) (page_of backup words) ≡ None → left_open old ≡ []
      → report_by at bad now parent (source_of now parent) ≡ record { findings = left_open (old ++ findings_with at bad words info.layout); size = Some info.layout.size }
  first_report now first backup old r is none gone =
      let front : info_findings now parent (source.First info) ≡ [] = first_found now first backup r ∙ ap (λ (o : Option Finding). cons_option o []) none in
      let rest = rest_mends at bad info.layout arena.sound.layout words now first backup r in
      let all : info_findings now parent (source.First info) ++ findings_with at bad now info.layout ≡ left_open (old ++ findings_with at bad words info.layout) =
      (λ i. front i ++ rest i)
      ∙ sym (open-append old (findings_with at bad words info.layout) ∙ ap (λ (fs : List Finding). fs ++ left_open (findings_with at bad words info.layout)) gone) in
      ap (report_by at bad now parent) (first_used now first backup r is) ∙ (λ i. record { findings = all i; size = Some info.layout.size })

  inside : info.layout.size / 8 ≤ length words
  inside = omega (arith, arena.size_inside)

  module _ (map_changes : WithMapChanges) (backup_copies : BackupCopies) (first_copies : FirstCopies) where
    -- what is said of a repair of words with a source
    abbrev MendsTo : InfoSource → List ℕ → Type 0
    MendsTo s now = report_by at bad now parent (source_of now parent) ≡ mended (report_by at bad words parent s)

    repaired_words_of : (copy : Option PageCopy) (first backup : ℕ) → HasPages info.layout words (with_page words copy) first backup
        → Repaired (repaired_with at bad words copy info.layout) first backup
    repaired_words_of copy first backup p =
        repaired map_changes backup_copies first_copies info.layout (in_arena at bad) words (with_page words copy) first backup arena.sound.layout inside p

    -- ---- the first page is used

    -- words that begin with the arena
    abbrev BeginWith : List ℕ → List ℕ → Type 0
    BeginWith mid now = HasPages info.layout mid now 0 off

    first_from : (now : List ℕ) (backup : ℕ) → Repaired now 0 backup → reading_at 0 ≡ Ok info → pages_finding parent (8 * length words) (page_of 0 words) (page_of backup words) ≡ None
        → FrontMends at bad words parent info now
    first_from now backup r is none = record {
      source_is = first_used now 0 backup r is;
      report_is = first_report now 0 backup (info_findings words parent (source.First info)) r is none
          (backup_gone (bytes_eq (info_bytes words) (page_at off words)) (page_reading off words parent));
      shows = r.stays;
      map_is = r.map_is;
    }

    first_by : (o : Option Finding) → reading_at 0 ≡ Ok info → pages_finding parent (8 * length words) (page_of 0 words) (page_of off words) ≡ o
        → (now : List ℕ) → BeginWith (repaired_with at bad words (when_found (cons_option o []) (record { from = 0; to = off })) info.layout) now → FrontMends at bad words parent info now
    first_by None is none now begins =
        first_from now off (repaired_then info.layout (in_arena at bad) words (repaired_with at bad words None info.layout) now 0 off (repaired_words_of None 0 off (same_pages info.layout words)) begins) is none
    first_by (Some finding) is found_it now begins =
        first_from now 0
        (repaired_then info.layout (in_arena at bad) words (repaired_with at bad words (Some (record { from = 0; to = off })) info.layout) now 0 0
        (repaired_words_of (Some (record { from = 0; to = off })) 0 0 (backup_pages map_changes backup_copies first_copies info.layout words arena.sound.layout inside)) begins) is
        (equal_pages parent (8 * length words) (page_of 0 words) info is)

    -- of all words that begin with the arena
    first_front : reading_at 0 ≡ Ok info → (now : List ℕ) → BeginWith (repaired_by at bad words parent (source.First info)) now → FrontMends at bad words parent info now
    first_front is now begins = first_by (pages_finding parent (8 * length words) (page_of 0 words) (page_of off words)) is refl now begins

    first_mends : reading_at 0 ≡ Ok info → MendsTo (source.First info) (repaired_by at bad words parent (source.First info))
    first_mends is =
        (first_front is (repaired_by at bad words parent (source.First info)) (same_pages info.layout (repaired_by at bad words parent (source.First info)))).report_is

    -- ---- the last page is used

    last_by : (b : Bool) (fault : InfoFault) → is_damage fault ≡ b → reading_at 0 ≡ Err fault → reading_at off ≡ Ok info → info.layout.size ≡ 8 * length words
        → MendsTo (source.Last fault info) (repaired_with at bad words (cond b (Some (record { from = off; to = 0 })) None) info.layout)
    last_by true fault damage refused is size =
        first_report (repaired_with at bad words (Some (record { from = off; to = 0 })) info.layout) off off (found.Info fault ∷ [])
        (repaired_words_of (Some (record { from = off; to = 0 })) off off (first_pages map_changes backup_copies first_copies info.layout words arena.sound.layout inside)) is
        (equal_pages parent (8 * length words) (page_of off words) info is) (ap (λ (d : Bool). cond (not d) (found.Info fault ∷ []) []) damage)
    last_by false fault damage refused is size =
        let now : List ℕ = repaired_with at bad words None info.layout in
        let r : Repaired now 0 off = repaired_words_of None 0 off (same_pages info.layout words) in
        let place : length now - 512 ≡ off = omega (arith, size, arena.sound.layout.size_is, arena.sound.layout.info_whole, r.stays.long) in
        let last : page_reading (length now - 512) now parent ≡ Ok info =
        ap (λ (k : ℕ). page_reading k now parent) place ∙ (λ i. info_reading (bytes_of (r.backup_is i)) parent (8 * r.stays.long i)) ∙ is in
        let used : source_of now parent ≡ source.Last fault info =
        (λ i. source_by (8 * r.stays.long i) ((info_same now 0 off r ∙ refused) i) (last i))
        ∙ ap (λ (b : Bool). cond b (source.Last fault info) (source.Neither fault)) (eq-eqb info.layout.size (8 * length words) size) in
        let rest = rest_mends at bad info.layout arena.sound.layout words now 0 off r in
        let all : found.Info fault ∷ findings_with at bad now info.layout ≡ left_open (found.Info fault ∷ findings_with at bad words info.layout) =
        ap (λ (fs : List Finding). found.Info fault ∷ fs) rest
        ∙ ap (λ (d : Bool). cond (not d) (found.Info fault ∷ left_open (findings_with at bad words info.layout)) (left_open (findings_with at bad words info.layout))) (sym damage) in
        ap (report_by at bad now parent) used ∙ (λ i. record { findings = all i; size = Some info.layout.size })

    last_mends : (fault : InfoFault) → reading_at 0 ≡ Err fault → page_reading (length words - 512) words parent ≡ Ok info → info.layout.size ≡ 8 * length words
        → MendsTo (source.Last fault info) (repaired_by at bad words parent (source.Last fault info))
    last_mends fault refused is size =
        let place : length words - 512 ≡ off = omega (arith, size, arena.sound.layout.size_is, arena.sound.layout.info_whole) in
        last_by (is_damage fault) fault refl refused (ap (λ (k : ℕ). page_reading k words parent) (sym place) ∙ is) size

-- ---- the whole

module _ (map_changes : WithMapChanges) (backup_copies : BackupCopies) (first_copies : FirstCopies) where
  module _ (at : ℕ) (bad : ℕ → Bool) (words parent : List ℕ) where
    abbrev Mends : InfoSource → Type 0
    Mends s = report_by at bad (repaired_by at bad words parent s) parent (source_of (repaired_by at bad words parent s) parent) ≡ mended (report_by at bad words parent s)

    by_size : (b : Bool) (fault : InfoFault) (info : Info) → eqb info.layout.size (8 * length words) ≡ b
        → info_reading (info_bytes words) parent (8 * length words) ≡ Err fault → page_reading (length words - 512) words parent ≡ Ok info
        → Mends (cond b (source.Last fault info) (source.Neither fault))
    by_size true fault info size refused is =
        last_mends at bad words parent info (sound_at (page_at (length words - 512) words) parent (8 * length words) (Ok info) (sym is)) map_changes backup_copies first_copies
        fault refused is (eqb-true info.layout.size (8 * length words) size)
    by_size false fault info size refused is =
        ap (report_by at bad words parent)
        ((λ i. source_by (8 * length words) (refused i) (is i)) ∙ ap (λ (b : Bool). cond b (source.Last fault info) (source.Neither fault)) size)

    by_readings : (first last : Result Info InfoFault) → info_reading (info_bytes words) parent (8 * length words) ≡ first → page_reading (length words - 512) words parent ≡ last
        → Mends (source_by (8 * length words) first last)
    by_readings (Ok info) last is also =
        first_mends at bad words parent info (sound_at (info_bytes words) parent (8 * length words) (Ok info) (sym is)) map_changes backup_copies first_copies is
    by_readings (Err fault) (Err other) is also = ap (report_by at bad words parent) (λ i. source_by (8 * length words) (is i) (also i))
    by_readings (Err fault) (Ok info) is also = by_size (eqb info.layout.size (8 * length words)) fault info refl is also

  -- the first page is used, and other arenas follow
  pub front_mends : (at : ℕ) (bad : ℕ → Bool) (words parent : List ℕ) (info : Info) → info_reading (info_bytes words) parent (8 * length words) ≡ Ok info → (now : List ℕ)
      → HasPages info.layout (repaired_by at bad words parent (source.First info)) now 0 (info.layout.info_off / 8) → FrontMends at bad words parent info now
  front_mends at bad words parent info is now begins =
      first_front at bad words parent info (sound_at (info_bytes words) parent (8 * length words) (Ok info) (sym is)) map_changes backup_copies first_copies is now begins

  pub mends : RepairMends
  unfolding report_of repaired_words
  mends at bad words parent =
      by_readings at bad words parent (info_reading (info_bytes words) parent (8 * length words)) (page_reading (length words - 512) words parent) refl refl

  pub opens_again : RepairedArenasOpen
  opens_again at bad words parent size some e =
      clean_opens at bad (repaired_words at bad words parent) parent size
      (ap (λ (report : Report). report.size) (mends at bad words parent) ∙ some)
      (ap (λ (report : Report). list_all is_harmless report.findings) (mends at bad words parent) ∙ e)
