-- A repair stays inside the arena, and the same info block is used afterwards.
use Rattle.std.proofs.Common.{◌≡◌, ℕ, ◌-◌, ◌*◌, ◌/◌, ◌≤◌, Bool, true, false, cond, eqb, List, [], ◌∷◌, length, drop, Option, Some, None, Result, Ok, Err, refl, sym, ap, ◌∙◌, subst, arith}
use Rattle.std.proofs.lemmas.Bool.{eqb-true}
use Rattle.cut_words.specs.WordBytes.{bytes_of, put_at}
use Rattle.arena_layout.specs.declared.layout.Layout.{Layout}
use Rattle.arena_layout.specs.declared.info.Info.{Info}
use Rattle.arena_layout.specs.declared.info.InfoFault.{InfoFault}
use Rattle.arena_layout.specs.Layout.{IsLayout}
use Rattle.arena_layout.specs.Info.{info_reading, IsArenaOf}
use Rattle.arena_layout.proofs.Reading.{sound_at}
use Rattle.arena_open.specs.Reading.{info_bytes, map_in, groups_in}
use Rattle.arena_check.specs.declared.finding.Finding.{Finding}
use Rattle.arena_check.specs.declared.info.InfoSource.{InfoSource}
use Rattle.arena_check.specs.declared.info.InfoSource.TheVariants as source
use Rattle.arena_check.specs.Check.{page_reading, or_last, source_by, source_of, info_used, next_of, info_findings, in_arena}
use Rattle.arena_repair.specs.Repair.{is_damage, when_found, page_repair, with_page, map_repair, with_entries, repaired_by, repaired_words}
use Rattle.arena_repair.specs.Laws.{StaysInside, RepairStaysInside}
use Rattle.arena_repair.proofs.Changing.{page_of, Stays, ChangesMap, CopiesPage}
use Rattle.arena_repair.proofs.MapChanges.{stays_same, stays_on, with_map_changes}
use Rattle.arena_repair.proofs.PageChanges.{backup_copies, first_copies}
use Rattle.arena_repair.proofs.Repaired.{FitsMap, entries_now, fits_by}

-- ---- an info block that is used

-- what an accepted info block says of its arena
pub record Accepted (words : List ℕ) (l : Layout) : Type 0 where
  pub layout : IsLayout l
  pub fits : l.size / 8 ≤ length words

pub accepted : (bytes words parent : List ℕ) (info : Info) → info_reading bytes parent (8 * length words) ≡ Ok info → Accepted words info.layout
accepted bytes words parent info e =
    let arena : IsArenaOf parent (8 * length words) info = sound_at bytes parent (8 * length words) (Ok info) (sym e) in
    record { layout = arena.sound.layout; fits = omega (arith, arena.size_inside) }

pub first_by : (rest : ℕ) (first last : Result Info InfoFault) (info : Info) → source_by rest first last ≡ source.First info → first ≡ Ok info
first_by rest (Ok other) last info e = let f = e in cc
first_by rest (Err fault) last info e = absurd (never rest fault last info e)
  where
    by_size : (b : Bool) (fault : InfoFault) (other info : Info) → cond b (source.Last fault other) (source.Neither fault) ≡ source.First info → ⊥
    by_size true fault other info e = let f = e in cc
    by_size false fault other info e = let f = e in cc

    never : (rest : ℕ) (fault : InfoFault) (last : Result Info InfoFault) (info : Info) → or_last rest fault last ≡ source.First info → ⊥
    never rest fault (Err other) info e = let f = e in cc
    never rest fault (Ok other) info e = by_size (eqb other.layout.size rest) fault other info e

-- the last page is used
pub record LastUsed (rest : ℕ) (first last : Result Info InfoFault) (fault : InfoFault) (info : Info) : Type 0 where
  pub first_is : first ≡ Err fault
  pub last_is : last ≡ Ok info
  pub size_is : info.layout.size ≡ rest

pub last_by : (rest : ℕ) (first last : Result Info InfoFault) (fault : InfoFault) (info : Info) → source_by rest first last ≡ source.Last fault info → LastUsed rest first last fault info
last_by rest (Ok other) last fault info e = absurd (let f = e in cc)
last_by rest (Err fault') (Err other) fault info e = absurd (let f = e in cc)
last_by rest (Err fault') (Ok other) fault info e = by_size (eqb other.layout.size rest) refl e
  where
    by_size : (b : Bool) → eqb other.layout.size rest ≡ b → cond b (source.Last fault' other) (source.Neither fault') ≡ source.Last fault info → LastUsed rest (Err fault') (Ok other) fault info
    by_size false is e = absurd (let f = e in cc)
    by_size true is e =
        let same : other ≡ info = cc in
        let faults : fault' ≡ fault = cc in
        record {
          first_is = λ i. Err (faults i);
          last_is = λ i. Ok (same i);
          size_is = ap (λ (o : Info). o.layout.size) (sym same) ∙ eqb-true other.layout.size rest is;
        }

-- the first page is used again if it is read as before
first_again : (rest : ℕ) (first last : Result Info InfoFault) (info : Info) → first ≡ Ok info → source_by rest first last ≡ source.First info
first_again rest first last info e = rw e refl

-- ---- the map is written

-- the words after a page and then the map were written: l's map has the entries of the repair, and the pages are those that were written
pub record Written (l : Layout) (words paged now : List ℕ) (repair : Option (List ℕ)) : Type 0 where
  pub stays : Stays l words now
  pub map_is : map_in l now ≡ entries_now (map_in l words) repair
  pub info_is : page_of 0 now ≡ page_of 0 paged
  pub backup_is : page_of (l.info_off / 8) now ≡ page_of (l.info_off / 8) paged

written_by : (l : Layout) (words paged : List ℕ) (repair : Option (List ℕ)) → Accepted words l → ((entries : List ℕ) → repair ≡ Some entries → FitsMap l entries)
    → Stays l words paged → map_in l paged ≡ map_in l words → Written l words paged (with_entries l paged repair) repair
written_by l words paged None ok fills stays same = record { stays = stays; map_is = same; info_is = refl; backup_is = refl }
written_by l words paged (Some entries) ok fills stays same =
    let fill = fills entries refl in
    let changes : ChangesMap l paged (with_entries l paged (Some entries)) entries = with_map_changes l paged entries ok.layout (omega (arith, ok.fits, stays.shows.long)) fill.sectors fill.small in
    record {
      stays = stays_on l words paged (with_entries l paged (Some entries)) stays changes.stays;
      map_is = changes.map_is;
      info_is = changes.info_is;
      backup_is = changes.backup_is;
    }

-- the map of a repair, over words with the same map
pub map_written : (l : Layout) (bad : ℕ → Bool) (words paged : List ℕ) → Accepted words l → Stays l words paged → map_in l paged ≡ map_in l words
    → Written l words paged (with_entries l paged (map_repair l bad words (groups_in l words))) (map_repair l bad words (groups_in l words))
map_written l bad words paged ok stays same =
    written_by l words paged (map_repair l bad words (groups_in l words)) ok (λ entries e. fits_by l bad words entries (groups_in l words) ok.layout refl e) stays same

-- ---- the page is written

-- one of the pages was perhaps written: the first one is that at `from` now
record Paged (l : Layout) (words paged : List ℕ) (from : ℕ) : Type 0 where
  stays : Stays l words paged
  map_is : map_in l paged ≡ map_in l words
  info_is : page_of 0 paged ≡ page_of from words

unpaged : (l : Layout) (words : List ℕ) → Paged l words words 0
unpaged l words = record { stays = stays_same l words; map_is = refl; info_is = refl }

first_paged : (l : Layout) (words : List ℕ) (findings : List Finding) → Accepted words l
    → Paged l words (with_page words (when_found findings (record { from = 0; to = l.info_off / 8 }))) 0
first_paged l words [] ok = unpaged l words
first_paged l words (finding ∷ findings) ok =
    let copies : CopiesPage l words (put_at words (l.info_off / 8) (page_of 0 words)) 0 = backup_copies l words ok.layout ok.fits in
    record { stays = copies.stays; map_is = copies.map_is; info_is = copies.info_is }

damage_paged : (l : Layout) (words : List ℕ) → Accepted words l → Paged l words (put_at words 0 (page_of (l.info_off / 8) words)) (l.info_off / 8)
damage_paged l words ok =
    let copies : CopiesPage l words (put_at words 0 (page_of (l.info_off / 8) words)) (l.info_off / 8) = first_copies l words ok.layout ok.fits in
    record { stays = copies.stays; map_is = copies.map_is; info_is = copies.info_is }

-- ---- the whole

-- The words after a repair, if this info is used before it: its own map has the entries of the repair, and then the info comes from this source.
pub record Repaired (at : ℕ) (bad : ℕ → Bool) (words parent now : List ℕ) (after : InfoSource) (info : Info) : Type 0 where
  pub ok : Accepted words info.layout
  pub stays : Stays info.layout words now
  pub map_is : map_in info.layout now ≡ entries_now (map_in info.layout words) (map_repair info.layout (in_arena at bad) words (groups_in info.layout words))
  pub source_is : source_of now parent ≡ after

module _ (at : ℕ) (bad : ℕ → Bool) (words parent : List ℕ) where
  now_by : (s : InfoSource) → source_of words parent ≡ s → repaired_words at bad words parent ≡ repaired_by at bad words parent s
  unfolding repaired_words
  now_by s e = ap (repaired_by at bad words parent) e

  -- the map of the repair, over a page
  abbrev mapped : Layout → List ℕ → List ℕ
  mapped l paged = with_entries l paged (map_repair l (in_arena at bad) words (groups_in l words))

  -- the first page is that at `from` now, and that one reads as the info
  first_read : (info : Info) (paged : List ℕ) (from : ℕ) → info_reading (bytes_of (page_of from words)) parent (8 * length words) ≡ Ok info → Accepted words info.layout
      → Paged info.layout words paged from → Repaired at bad words parent (mapped info.layout paged) (source.First info) info
  first_read info paged from read ok p =
      let w : Written info.layout words paged (mapped info.layout paged) (map_repair info.layout (in_arena at bad) words (groups_in info.layout words)) =
      map_written info.layout (in_arena at bad) words paged ok p.stays p.map_is in
      let page : page_of 0 (mapped info.layout paged) ≡ page_of from words = w.info_is ∙ p.info_is in
      let long : length (mapped info.layout paged) ≡ length words = w.stays.shows.long in
      let again : info_reading (info_bytes (mapped info.layout paged)) parent (8 * length (mapped info.layout paged)) ≡ Ok info =
      (λ i. info_reading (bytes_of (page i)) parent (8 * long i)) ∙ read in
      record {
        ok = ok;
        stays = w.stays;
        map_is = w.map_is;
        source_is = first_again (8 * length (mapped info.layout paged)) (info_reading (info_bytes (mapped info.layout paged)) parent (8 * length (mapped info.layout paged)))
            (page_reading (length (mapped info.layout paged) - 512) (mapped info.layout paged) parent) info again;
      }

  -- the first info block is used
  pub after_first : (info : Info) → source_of words parent ≡ source.First info → Repaired at bad words parent (repaired_words at bad words parent) (source.First info) info
  after_first info e =
      let read : info_reading (info_bytes words) parent (8 * length words) ≡ Ok info =
      first_by (8 * length words) (info_reading (info_bytes words) parent (8 * length words)) (page_reading (length words - 512) words parent) info e in
      let ok : Accepted words info.layout = accepted (info_bytes words) words parent info read in
      subst (λ (now : List ℕ). Repaired at bad words parent now (source.First info) info) (sym (now_by (source.First info) e))
      (first_read info (with_page words (page_repair words parent (source.First info))) 0 read ok
      (first_paged info.layout words (info_findings words parent (source.First info)) ok))

  last_used : (fault : InfoFault) (info : Info) → source_of words parent ≡ source.Last fault info
      → LastUsed (8 * length words) (info_reading (info_bytes words) parent (8 * length words)) (page_reading (length words - 512) words parent) fault info
  last_used fault info e = last_by (8 * length words) (info_reading (info_bytes words) parent (8 * length words)) (page_reading (length words - 512) words parent) fault info e

  last_accepted : (fault : InfoFault) (info : Info) → source_of words parent ≡ source.Last fault info → Accepted words info.layout
  last_accepted fault info e = accepted (bytes_of (page_of (length words - 512) words)) words parent info (last_used fault info e).last_is

  -- the last page is the arena's own backup
  last_place : (fault : InfoFault) (info : Info) → source_of words parent ≡ source.Last fault info → (n : ℕ) → n ≡ length words → n - 512 ≡ info.layout.info_off / 8
  last_place fault info e n long = omega (arith, long, (last_used fault info e).size_is, (last_accepted fault info e).layout.size_is)

  -- the backup is used, and the first page is damaged
  pub after_damage : (fault : InfoFault) (info : Info) → source_of words parent ≡ source.Last fault info → is_damage fault ≡ true
      → Repaired at bad words parent (repaired_words at bad words parent) (source.First info) info
  after_damage fault info e damage =
      let ok : Accepted words info.layout = last_accepted fault info e in
      let is : repaired_words at bad words parent ≡ mapped info.layout (put_at words 0 (page_of (info.layout.info_off / 8) words)) =
      now_by (source.Last fault info) e
      ∙ ap (λ (b : Bool). mapped info.layout (with_page words (cond b (Some (record { from = info.layout.info_off / 8; to = 0 })) None))) damage in
      let read : info_reading (bytes_of (page_of (info.layout.info_off / 8) words)) parent (8 * length words) ≡ Ok info =
      ap (λ (n : ℕ). info_reading (bytes_of (page_of n words)) parent (8 * length words)) (sym (last_place fault info e (length words) refl)) ∙ (last_used fault info e).last_is in
      subst (λ (now : List ℕ). Repaired at bad words parent now (source.First info) info) (sym is)
      (first_read info (put_at words 0 (page_of (info.layout.info_off / 8) words)) (info.layout.info_off / 8) read ok (damage_paged info.layout words ok))

  -- the backup is used, and the first page was written so
  pub after_last : (fault : InfoFault) (info : Info) → source_of words parent ≡ source.Last fault info → is_damage fault ≡ false
      → Repaired at bad words parent (repaired_words at bad words parent) (source.Last fault info) info
  after_last fault info e damage =
      let ok : Accepted words info.layout = last_accepted fault info e in
      let is : repaired_words at bad words parent ≡ mapped info.layout words =
      now_by (source.Last fault info) e
      ∙ ap (λ (b : Bool). mapped info.layout (with_page words (cond b (Some (record { from = info.layout.info_off / 8; to = 0 })) None))) damage in
      let w : Written info.layout words words (mapped info.layout words) (map_repair info.layout (in_arena at bad) words (groups_in info.layout words)) =
      map_written info.layout (in_arena at bad) words words ok (stays_same info.layout words) refl in
      let long : length (mapped info.layout words) ≡ length words = w.stays.shows.long in
      let page : page_of 0 (mapped info.layout words) ≡ page_of 0 words = w.info_is in
      let backup : page_of (info.layout.info_off / 8) (mapped info.layout words) ≡ page_of (info.layout.info_off / 8) words = w.backup_is in
      let last : page_reading (length (mapped info.layout words) - 512) (mapped info.layout words) parent ≡ page_reading (length words - 512) words parent =
      ap (λ (n : ℕ). page_reading n (mapped info.layout words) parent) (last_place fault info e (length (mapped info.layout words)) long)
      ∙ (λ i. info_reading (bytes_of (backup i)) parent (8 * long i))
      ∙ ap (λ (n : ℕ). page_reading n words parent) (sym (last_place fault info e (length words) refl)) in
      subst (λ (now : List ℕ). Repaired at bad words parent now (source.Last fault info) info) (sym is) (record {
        ok = ok;
        stays = w.stays;
        map_is = w.map_is;
        source_is = (λ i. source_by (8 * long i) (info_reading (bytes_of (page i)) parent (8 * long i)) (last i)) ∙ e;
      })

  -- ---- nothing outside

  inside_by : (before after : InfoSource) (info : Info) → source_of words parent ≡ before → info_used before ≡ Some info → info_used after ≡ info_used before → next_of after ≡ next_of before
      → Repaired at bad words parent (repaired_words at bad words parent) after info → StaysInside at bad words parent
  inside_by before after info e is used next r = record {
    long = r.stays.shows.long;
    used = ap info_used r.source_is ∙ used ∙ sym (ap info_used e);
    next = ap next_of r.source_is ∙ next ∙ sym (ap next_of e);
    behind = λ other there.
        let some : Some info ≡ Some other = sym is ∙ sym (ap info_used e) ∙ there in
        let same : info ≡ other = cc in
        subst (λ (used : Info). drop (used.layout.size / 8) (repaired_words at bad words parent) ≡ drop (used.layout.size / 8) words) same r.stays.behind;
  }

  inside_last : (fault : InfoFault) (info : Info) → source_of words parent ≡ source.Last fault info → (b : Bool) → is_damage fault ≡ b → StaysInside at bad words parent
  inside_last fault info e true damage = inside_by (source.Last fault info) (source.First info) info e refl refl refl (after_damage fault info e damage)
  inside_last fault info e false damage = inside_by (source.Last fault info) (source.Last fault info) info e refl refl refl (after_last fault info e damage)

  stays_inside : (s : InfoSource) → source_of words parent ≡ s → StaysInside at bad words parent
  stays_inside (source.First info) e = inside_by (source.First info) (source.First info) info e refl refl refl (after_first info e)
  stays_inside (source.Last fault info) e = inside_last fault info e (is_damage fault) refl
  stays_inside (source.Neither fault) e =
      let is : repaired_words at bad words parent ≡ words = now_by (source.Neither fault) e in
      record {
        long = ap length is;
        used = ap (λ (ws : List ℕ). info_used (source_of ws parent)) is;
        next = ap (λ (ws : List ℕ). next_of (source_of ws parent)) is;
        behind = λ info there. ap (drop (info.layout.size / 8)) is;
      }

  -- ---- what is used is kept

  pub record Kept (info : Info) : Type 0 where
    pub ok : Accepted words info.layout
    pub stays : Stays info.layout words (repaired_words at bad words parent)
    pub map_is : map_in info.layout (repaired_words at bad words parent) ≡ entries_now (map_in info.layout words) (map_repair info.layout (in_arena at bad) words (groups_in info.layout words))

  kept_by : (after : InfoSource) (info other : Info) → Some info ≡ Some other → Repaired at bad words parent (repaired_words at bad words parent) after info → Kept other
  kept_by after info other some r = let same : info ≡ other = cc in subst (λ (used : Info). Kept used) same (record { ok = r.ok; stays = r.stays; map_is = r.map_is })

  kept_last : (fault : InfoFault) (info other : Info) → source_of words parent ≡ source.Last fault info → Some info ≡ Some other → (b : Bool) → is_damage fault ≡ b → Kept other
  kept_last fault info other e some true damage = kept_by (source.First info) info other some (after_damage fault info e damage)
  kept_last fault info other e some false damage = kept_by (source.Last fault info) info other some (after_last fault info e damage)

  kept_from : (s : InfoSource) (info : Info) → source_of words parent ≡ s → info_used s ≡ Some info → Kept info
  kept_from (source.First used) info e some = kept_by (source.First used) used info some (after_first used e)
  kept_from (source.Last fault used) info e some = kept_last fault used info e some (is_damage fault) refl
  kept_from (source.Neither fault) info e some = absurd (let f = some in cc)

  -- the arena of the info that is used, after a repair
  pub kept : (info : Info) → info_used (source_of words parent) ≡ Some info → Kept info
  kept info some = kept_from (source_of words parent) info refl some

pub repair_stays_inside : RepairStaysInside
repair_stays_inside at bad words parent = stays_inside at bad words parent (source_of words parent) refl
