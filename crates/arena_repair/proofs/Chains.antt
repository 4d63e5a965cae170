-- All arenas of a namespace, one after another, once they are repaired.
use Rattle.std.proofs.Common.{◌≡◌, ◌≢◌, ℕ, zero, suc, ◌+◌, ◌-◌, ◌*◌, ◌/◌, ◌<◌, ◌≤◌, Bool, eqb, ◌||◌, List, ◌∷◌, ◌++◌, length, map, take, drop, Some, Ok, refl, sym, ap, ◌∙◌, subst, inl, inr, arith}
use Rattle.std.specs.Bool.{IsTrue}
use Rattle.std.proofs.lemmas.Bool.{cases_eq, eq-eqb, ne_eqb}
use Rattle.std.proofs.lemmas.List.{drop-drop, drop_at, length-append, length-drop, length-take-le}
use Rattle.arena_layout.specs.declared.info.Info.{Info}
use Rattle.arena_layout.specs.Info.{info_reading, IsArenaOf}
use Rattle.arena_layout.proofs.Reading.{sound_at}
use Rattle.arena_open.specs.Reading.{info_bytes, groups_in}
use Rattle.arena_check.specs.declared.info.InfoSource.{InfoSource}
use Rattle.arena_check.specs.declared.info.InfoSource.TheVariants as source
use Rattle.arena_check.specs.Check.{in_arena, info_used, next_of, page_at, page_reading, report_by, report_of, source_of}
use Rattle.arena_repair.specs.Chain.{KeepCells, RepairMendsAll, behind, repaired_all, repaired_within, reports_within}
use Rattle.arena_repair.specs.Laws.{SectorAfter}
use Rattle.arena_repair.specs.Repair.{mended, repaired_by, repaired_words}
use Rattle.arena_repair.proofs.Cells.{repair_keeps_cells, sector_after}
use Rattle.arena_repair.proofs.Front.{front_same}
use Rattle.arena_repair.proofs.Inside.{LastUsed, first_by, last_by, repair_stays_inside}
use Rattle.arena_repair.proofs.MapChanges.{with_map_changes}
use Rattle.arena_repair.proofs.Mends.{FrontMends, front_mends, mends}
use Rattle.arena_repair.proofs.PageChanges.{backup_copies, first_copies}

-- ---- which arena is followed by another one

-- NextOff is 0 or the arena's size
size_next : (next size : ℕ) → IsTrue (eqb next 0 || eqb next size) → next ≢ 0 → next ≡ size
size_next next size holds some = elim (cases_eq next size) [
  | inl same ↦ same
  | inr apart ↦ absurd (let e = rw (ne_eqb next 0 some, ne_eqb next size apart) at holds in cc)
]

module _ (at : ℕ) (bad : ℕ → Bool) (words parent : List ℕ) where
  abbrev source_here : InfoSource
  source_here = source_of words parent

  abbrev now : List ℕ
  now = repaired_by at bad words parent source_here

  -- What words have that begin with a repaired arena.
  pub record Mended (joined : List ℕ) : Type 0 where
    pub report : report_by at bad joined parent (source_of joined parent) ≡ mended (report_by at bad words parent source_here)
    pub next : next_of (source_of joined parent) ≡ next_of source_here
    pub cells : (info : Info) → info_used source_here ≡ Some info → (sector : ℕ) → sector < info.layout.external
        → SectorAfter info.layout (in_arena at bad) words joined (groups_in info.layout words) sector

  -- it is the last one
  pub alone : Mended now
  unfolding report_of repaired_words
  alone = record {
    report = mends with_map_changes backup_copies first_copies at bad words parent;
    next = (repair_stays_inside at bad words parent).next;
    cells = repair_keeps_cells at bad words parent;
  }

  -- What an arena is that is followed by another one.
  pub record Leads (next : ℕ) : Type 0 where
    pub info : Info
    pub source_is : source_of words parent ≡ source.First info
    pub arena : IsArenaOf parent (8 * length words) info
    pub next_is : info.next ≡ next
    pub size_is : next ≡ info.layout.size

  leads_by : (s : InfoSource) → source_of words parent ≡ s → next_of s ≢ 0 → Leads (next_of s)
  leads_by (source.First info) e some =
      let read : info_reading (info_bytes words) parent (8 * length words) ≡ Ok info =
      first_by (8 * length words) (info_reading (info_bytes words) parent (8 * length words)) (page_reading (length words - 512) words parent) info e in
      let arena : IsArenaOf parent (8 * length words) info = sound_at (info_bytes words) parent (8 * length words) (Ok info) (sym read) in
      record { info = info; source_is = e; arena = arena; next_is = refl; size_is = size_next info.next info.layout.size arena.sound.next some }
  leads_by (source.Last fault info) e some =
      let u : LastUsed (8 * length words) (info_reading (info_bytes words) parent (8 * length words)) (page_reading (length words - 512) words parent) fault info =
      last_by (8 * length words) (info_reading (info_bytes words) parent (8 * length words)) (page_reading (length words - 512) words parent) fault info e in
      let arena : IsArenaOf parent (8 * length words) info = sound_at (page_at (length words - 512) words) parent (8 * length words) (Ok info) (sym u.last_is) in
      absurd (let same : info.next ≡ info.layout.size = size_next info.next info.layout.size arena.sound.next some in omega (arith, same, u.size_is, arena.next_inside))
  leads_by (source.Neither fault) e some = absurd (some refl)

  pub leads : next_of source_here ≢ 0 → Leads (next_of source_here)
  leads some = leads_by source_here refl some

  now_long : length now ≡ length words
  unfolding repaired_words
  now_long = (repair_stays_inside at bad words parent).long

  -- another one follows it
  module _ (some : next_of source_here ≢ 0) (tail : List ℕ) (long : length tail ≡ length words - next_of source_here / 8) where
    abbrev joined : List ℕ
    joined = take (next_of source_here / 8) now ++ tail

    abbrev l : Leads (next_of source_here)
    l = leads some

    abbrev first_now : List ℕ
    first_now = repaired_by at bad words parent (source.First l.info)

    now_is : now ≡ first_now
    now_is = ap (repaired_by at bad words parent) l.source_is

    joined_is : take (l.info.layout.size / 8) first_now ++ tail ≡ joined
    joined_is = λ i. take (sym l.size_is i / 8) (sym now_is i) ++ tail

    front : FrontMends at bad words parent l.info joined
    front =
        let long_now : length first_now ≡ length words = ap (λ (ws : List ℕ). length ws) (sym now_is) ∙ now_long in
        let read : info_reading (info_bytes words) parent (8 * length words) ≡ Ok l.info =
        first_by (8 * length words) (info_reading (info_bytes words) parent (8 * length words)) (page_reading (length words - 512) words parent) l.info l.source_is in
        subst (λ (ws : List ℕ). FrontMends at bad words parent l.info ws) joined_is
        (front_mends with_map_changes backup_copies first_copies at bad words parent l.info read (take (l.info.layout.size / 8) first_now ++ tail)
        (front_same l.info.layout l.arena.sound.layout first_now tail (omega (arith, long_now, l.arena.size_inside)) (omega (arith, long, long_now, l.size_is))))

    pub followed_by : Mended joined
    followed_by = record {
      report = front.report_is ∙ ap (λ (s : InfoSource). mended (report_by at bad words parent s)) (sym l.source_is);
      next = ap next_of front.source_is ∙ sym (ap next_of l.source_is);
      cells = λ info used sector lt.
          let both : Some l.info ≡ Some info = sym (ap info_used l.source_is) ∙ used in
          let same : l.info ≡ info = cc in
          subst (λ (x : Info). SectorAfter x.layout (in_arena at bad) words joined (groups_in x.layout words) sector) same
          (sector_after l.info.layout (in_arena at bad) words joined l.arena.sound.layout front.shows sector (subst (λ (x : Info). sector < x.layout.external) (sym same) lt)
          (groups_in l.info.layout words) front.map_is);
    }

-- ---- all of them

module _ (bad : ℕ → Bool) (words parent : List ℕ) where
  abbrev here : ℕ → InfoSource
  here at = source_of (drop at words) parent

  abbrev next_at : ℕ → ℕ
  next_at at = next_of (here at)

  abbrev one : ℕ → List ℕ
  one at = repaired_by at bad (drop at words) parent (here at)

  abbrev all : ℕ → ℕ → List ℕ
  all n at = repaired_within n bad words parent at

  pub within_last : (n at : ℕ) → next_at at ≡ 0 → all (suc n) at ≡ one at
  unfolding repaired_within
  within_last n at last = rw (eq-eqb (next_at at) 0 last) refl

  pub within_more : (n at : ℕ) → next_at at ≢ 0 → all (suc n) at ≡ take (next_at at / 8) (one at) ++ all n (at + next_at at / 8)
  unfolding repaired_within
  within_more n at some = rw (ne_eqb (next_at at) 0 some) refl

  pub one_long : (at : ℕ) → length (one at) ≡ length (drop at words)
  one_long at = now_long at bad (drop at words) parent

  pub room : (at : ℕ) → next_at at ≢ 0 → next_at at / 8 ≤ length (drop at words)
  room at some = let l = leads at bad (drop at words) parent some in omega (arith, l.size_is, l.arena.size_inside)

  all_long : (n at : ℕ) → length (all n at) ≡ length (drop at words)
  unfolding repaired_within
  all_long zero at = refl
  all_long (suc n) at = elim (cases_eq (next_at at) 0) [
    | inl last ↦ ap (λ (ws : List ℕ). length ws) (within_last n at last) ∙ one_long at
    | inr some ↦
        ap (λ (ws : List ℕ). length ws) (within_more n at some)
        ∙ omega (
          arith,
          length-append (take (next_at at / 8) (one at)) (all n (at + next_at at / 8)),
          length-take-le (next_at at / 8) (one at) (omega (arith, one_long at, room at some)),
          all_long n (at + next_at at / 8),
          length-drop (at + next_at at / 8) words,
          length-drop at words,
          room at some,
        )
  ]

  -- What words have from an arena on, once all are repaired.
  record Due (n at : ℕ) (w : List ℕ) : Type 0 where
    mended_is : Mended at bad (drop at words) parent (drop at w)
    more : next_at at ≢ 0 → drop (at + next_at at / 8) w ≡ all n (at + next_at at / 8)

  due : (n at : ℕ) (w : List ℕ) → drop at w ≡ all (suc n) at → Due n at w
  due n at w e = elim (cases_eq (next_at at) 0) [
    | inl last ↦
        record {
          mended_is = subst (λ (ws : List ℕ). Mended at bad (drop at words) parent ws) (sym (e ∙ within_last n at last)) (alone at bad (drop at words) parent);
          more = λ some. absurd (some last);
        }
    | inr some ↦
        let long : length (all n (at + next_at at / 8)) ≡ length (drop at words) - next_at at / 8 =
        omega (arith, all_long n (at + next_at at / 8), length-drop (at + next_at at / 8) words, length-drop at words) in
        record {
          mended_is = subst (λ (ws : List ℕ). Mended at bad (drop at words) parent ws) (sym (e ∙ within_more n at some))
              (followed_by at bad (drop at words) parent some (all n (at + next_at at / 8)) long);
          more = λ _. sym (drop-drop (next_at at / 8) at w) ∙ ap (drop (next_at at / 8)) (e ∙ within_more n at some)
              ∙ drop_at (take (next_at at / 8) (one at)) (all n (at + next_at at / 8)) (next_at at / 8) (length-take-le (next_at at / 8) (one at) (omega (arith, one_long at, room at some)));
        }
  ]

  behind_by : (n at : ℕ) (w : List ℕ) (d : Due n at w) → (next_at at ≢ 0 → reports_within n bad w parent (at + next_at at / 8) ≡ map mended (reports_within n bad words parent (at + next_at at / 8)))
      → behind (next_at at) at (reports_within n bad w parent) ≡ map mended (behind (next_at at) at (reports_within n bad words parent))
  behind_by n at w d rest = elim (cases_eq (next_at at) 0) [
    | inl last ↦ rw (eq-eqb (next_at at) 0 last) refl
    | inr some ↦ rw (ne_eqb (next_at at) 0 some) (rest some)
  ]

  reports_mend : (n at : ℕ) (w : List ℕ) → drop at w ≡ all n at → reports_within n bad w parent at ≡ map mended (reports_within n bad words parent at)
  unfolding reports_within
  reports_mend zero at w e = refl
  reports_mend (suc n) at w e =
      let d : Due n at w = due n at w e in
      let rest : behind (next_at at) at (reports_within n bad w parent) ≡ map mended (behind (next_at at) at (reports_within n bad words parent)) =
      behind_by n at w d (λ some. reports_mend n (at + next_at at / 8) w (d.more some)) in
      λ i. d.mended_is.report i ∷ (ap (λ (next : ℕ). behind next at (reports_within n bad w parent)) d.mended_is.next ∙ rest) i

  cells_kept : (n at : ℕ) (w : List ℕ) → drop at w ≡ all n at → KeepCells n bad words w parent at
  unfolding KeepCells
  cells_kept zero at w e = tt
  cells_kept (suc n) at w e = let d : Due n at w = due n at w e in (d.mended_is.cells, λ some. cells_kept n (at + next_at at / 8) w (d.more some))

pub repair_mends_all : RepairMendsAll
repair_mends_all bad words parent =
    let w : List ℕ = repaired_all bad words parent in
    let long : length (repaired_all bad words parent) ≡ length words = all_long bad words parent (length words + 1) 0 in
    record {
      words = refl;
      again = ap (λ (n : ℕ). reports_within (n + 1) bad (repaired_all bad words parent) parent 0) long ∙ reports_mend bad words parent (length words + 1) 0 (repaired_all bad words parent) refl;
      cells = cells_kept bad words parent (length words + 1) 0 (repaired_all bad words parent) refl;
    }
