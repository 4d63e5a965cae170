-- The runs of words that a format writes: they lie inside the arena, and don't overlap.
use Rattle.std.proofs.Common.{◌≡◌, ◌≢◌, ◌⊎◌, ℕ, zero, suc, ◌+◌, ◌*◌, ◌/◌, ◌<◌, ◌≤◌, Bool, List, [], ◌∷◌, ◌++◌, length, get_or, Option, Some, None, unwrap_or, refl, sym, ap, ◌∙◌, inl, inr, arith}
use Rattle.std.specs.List.{All}
use Rattle.std.proofs.Math.ListN.{set}
use Rattle.std.proofs.lemmas.List.{length-set, get_or-set_same, get_or-set_other}
use Rattle.std.proofs.lemmas.List.Elements.{All-nil, All-cons, All-head, All-tail, All-append, All-take}
use Rattle.cut_words.specs.Words.{Words, Step, store, keep, after}
use Rattle.cut_words.specs.Fuses.{allowed, Makes}
use Rattle.cut_words.proofs.Guarded.{settled_none}
use Rattle.cut_words.proofs.Stays.{Fits, Holds, stays, Clear, Passes, clear_stays}
use Rattle.arena_layout.specs.declared.layout.Layout.{Layout}
use Rattle.arena_layout.specs.Layout.{IsLayout}
use Rattle.arena_open.specs.Areas.{new_map, new_log}
use Rattle.arena_open.specs.Writes.{Write, write_steps, written_over, run_at, IsSettled}
use Rattle.arena_open.specs.Format.{map_count, log_count, area_writes, IsOutside, KeepsOutside}
use Rattle.arena_open.proofs.Apart.{ordered}
use Rattle.arena_open.proofs.Counts.{length_map, length_log}

abbrev pub map_run : ℕ → Layout → List Write
map_run at l = run_at (at + l.map_off / 8) (new_map l.external (map_count l))

abbrev pub log_run : ℕ → Layout → List Write
log_run at l = run_at (at + l.flog_off / 8) (new_log l.external l.lanes (log_count l))

abbrev pub backup_run : ℕ → Layout → List ℕ → List Write
backup_run at l block = run_at (at + l.info_off / 8) block

-- ---- the number of words of the areas

pub record Counted (l : Layout) : Type 0 where
  pub map_is : l.map_off / 8 + map_count l ≡ l.flog_off / 8
  pub log_is : l.flog_off / 8 + log_count l ≡ l.info_off / 8
  pub entries : l.external ≤ 2 * map_count l
  pub groups : 8 * l.lanes ≤ log_count l

pub counted : (l : Layout) → IsLayout l → Counted l
counted l ok = record {
  map_is = omega (arith, ok.map_whole, ok.flog_whole, ok.after_map);
  log_is = omega (arith, ok.flog_whole, ok.info_whole, ok.after_flog);
  entries = omega (arith, ok.map_whole, ok.flog_whole, ok.after_map);
  groups = omega (arith, ok.flog_whole, ok.info_whole, ok.after_flog);
}

-- ---- they lie inside the arena

pub map_fits : (at : ℕ) (l : Layout) (n : ℕ) → IsLayout l → at + l.size / 8 ≤ n → at + l.map_off / 8 + length (new_map l.external (map_count l)) ≤ n
map_fits at l n ok inside = omega (arith, length_map l.external (map_count l), counted l ok, ordered l ok)

pub log_fits : (at : ℕ) (l : Layout) (n : ℕ) → IsLayout l → at + l.size / 8 ≤ n → at + l.flog_off / 8 + length (new_log l.external l.lanes (log_count l)) ≤ n
log_fits at l n ok inside = omega (arith, length_log l.external l.lanes (log_count l), counted l ok, ordered l ok)

pub backup_fits : (at : ℕ) (l : Layout) (block : List ℕ) (n : ℕ) → IsLayout l → length block ≡ 512 → at + l.size / 8 ≤ n → at + l.info_off / 8 + length block ≤ n
backup_fits at l block n ok len inside = omega (arith, ordered l ok)

pub info_fits : (at : ℕ) (l : Layout) (block : List ℕ) (n : ℕ) → IsLayout l → length block ≡ 512 → at + l.size / 8 ≤ n → at + length block ≤ n
info_fits at l block n ok len inside = omega (arith, ordered l ok)

-- ---- the words after a run

-- writes don't touch a word
abbrev pub Misses : ℕ → List Write → Type 0
Misses i writes = All (λ w. w.place ≢ i) writes

pub run_misses : (base : ℕ) (values : List ℕ) (i : ℕ) → (i < base) ⊎ (base + length values ≤ i) → Misses i (run_at base values)
run_misses base [] i out = All-nil (λ w. w.place ≢ i)
run_misses base (v ∷ values) i out =
    All-cons (λ w. w.place ≢ i) (record { place = base; value = v }) (run_at (base + 1) values) (λ e. elim out [ inl below ↦ omega arith | inr above ↦ omega arith ])
    (run_misses (base + 1) values i (elim out [ inl below ↦ inl (omega arith) | inr above ↦ inr (omega arith) ]))

pub over_misses : (old : List ℕ) (writes : List Write) (i : ℕ) → Misses i writes → get_or (written_over old writes) i 0 ≡ get_or old i 0
over_misses old [] i out = refl
over_misses old (w ∷ writes) i out =
    over_misses (set old w.place w.value) writes i (All-tail (λ x. x.place ≢ i) w writes out)
    ∙ get_or-set_other old w.place i w.value 0 (λ e. All-head (λ x. x.place ≢ i) w writes out (sym e))

pub over_run : (old : List ℕ) (base : ℕ) (values : List ℕ) (k : ℕ) → base + length values ≤ length old → k < length values
    → get_or (written_over old (run_at base values)) (base + k) 0 ≡ get_or values k 0
over_run old base [] k fits lt = absurd (omega arith)
over_run old base (v ∷ values) zero fits lt =
    ap (λ (i : ℕ). get_or (written_over (set old base v) (run_at (base + 1) values)) i 0) (let e : base + 0 ≡ base = omega arith in e)
    ∙ over_misses (set old base v) (run_at (base + 1) values) base (run_misses (base + 1) values base (inl (omega arith)))
    ∙ get_or-set_same old base v 0 (omega arith)
over_run old base (v ∷ values) (suc k) fits lt =
    ap (λ (i : ℕ). get_or (written_over (set old base v) (run_at (base + 1) values)) i 0) (let e : base + suc k ≡ base + 1 + k = omega arith in e)
    ∙ over_run (set old base v) (base + 1) values k (omega (arith, length-set old base v)) (omega arith)

-- ---- the words after any number of the steps

writes_fit : (P : ℕ → Type 0) (i : ℕ) (writes : List Write) → Misses i writes → All (Fits P i) (write_steps writes)
writes_fit P i [] out = All-nil (Fits P i)
writes_fit P i (w ∷ writes) out =
    All-cons (Fits P i) (store w.place w.value) (keep w.place ∷ write_steps writes) (λ e. absurd (All-head (λ x. x.place ≢ i) w writes out e))
    (All-cons (Fits P i) (keep w.place) (write_steps writes) tt (writes_fit P i writes (All-tail (λ x. x.place ≢ i) w writes out)))

writes_pass : (i : ℕ) (writes : List Write) → Misses i writes → All (Passes i) (write_steps writes)
writes_pass i [] out = All-nil (Passes i)
writes_pass i (w ∷ writes) out =
    All-cons (Passes i) (store w.place w.value) (keep w.place ∷ write_steps writes) (λ e. absurd (All-head (λ x. x.place ≢ i) w writes out e))
    (All-cons (Passes i) (keep w.place) (write_steps writes) tt (writes_pass i writes (All-tail (λ x. x.place ≢ i) w writes out)))

allowed_all : (P : Step → Type 0) (fuse : Option ℕ) (steps : List Step) → All P steps → All P (allowed fuse steps)
allowed_all P None steps all = all
allowed_all P (Some n) steps all = All-take P n steps all

-- untouched words have their old values
pub made_outside : (w w1 : Words) (f f1 : Option ℕ) (writes : List Write) (made : Bool) (i : ℕ) → IsSettled w → Makes w w1 f f1 (write_steps writes) made → Misses i writes
    → (get_or w1.kept i 0 ≡ get_or w.kept i 0) × (get_or w1.stored i None ≡ None)
made_outside w w1 f f1 writes made i was a out =
    let P : ℕ → Type 0 = λ v. v ≡ get_or w.kept i 0 in
    let clear : get_or w.stored i None ≡ None = ap (λ (ws : Words). get_or ws.stored i None) was ∙ settled_none (length w.kept) i in
    let start : Holds (λ v. v ≡ get_or w.kept i 0) i w = record { seen = ap (λ (o : Option ℕ). unwrap_or o (get_or w.kept i 0)) clear; kept = refl } in
    let end' : Holds (λ v. v ≡ get_or w.kept i 0) i (after w (allowed f (write_steps writes))) =
    stays (λ v. v ≡ get_or w.kept i 0) i (allowed f (write_steps writes)) w
    (allowed_all (Fits (λ v. v ≡ get_or w.kept i 0) i) f (write_steps writes) (writes_fit (λ v. v ≡ get_or w.kept i 0) i writes out)) start in
    let none : Clear i (after w (allowed f (write_steps writes))) =
    clear_stays i (allowed f (write_steps writes)) w (allowed_all (Passes i) f (write_steps writes) (writes_pass i writes out)) clear in (
      ap (λ (ws : Words). get_or ws.kept i 0) a.words ∙ end'.kept,
      ap (λ (ws : Words). get_or ws.stored i None) a.words ∙ none,
    )

areas_miss : (at : ℕ) (l : Layout) (block : List ℕ) (i : ℕ) → IsLayout l → length block ≡ 512 → IsOutside at l i → Misses i (area_writes at l block)
areas_miss at l block i ok len out =
    All-append (λ w. w.place ≢ i) (map_run at l) (log_run at l ++ (backup_run at l block ++ run_at at block))
    (run_misses (at + l.map_off / 8) (new_map l.external (map_count l)) i (elim out.1 [
      | inl below ↦ inl below
      | inr above ↦ inr (omega (arith, length_map l.external (map_count l), counted l ok, ordered l ok, ok.info_whole))
    ]))
    (All-append (λ w. w.place ≢ i) (log_run at l) (backup_run at l block ++ run_at at block)
    (run_misses (at + l.flog_off / 8) (new_log l.external l.lanes (log_count l)) i (elim out.1 [
      | inl below ↦ inl (omega (arith, counted l ok))
      | inr above ↦ inr (omega (arith, length_log l.external l.lanes (log_count l), counted l ok, ordered l ok, ok.info_whole))
    ]))
    (All-append (λ w. w.place ≢ i) (backup_run at l block) (run_at at block)
    (run_misses (at + l.info_off / 8) block i (elim out.1 [
      | inl below ↦ inl (omega (arith, counted l ok))
      | inr above ↦ inr (omega (arith, ok.info_whole))
    ]))
    (run_misses at block i (elim out.0 [ inl below ↦ inl below | inr above ↦ inr (omega arith) ]))))

pub keeps_outside : (w w1 : Words) (f f1 : Option ℕ) (at : ℕ) (l : Layout) (block : List ℕ) (made : Bool) → IsLayout l → length block ≡ 512 → IsSettled w
    → Makes w w1 f f1 (write_steps (area_writes at l block)) made → KeepsOutside at l w w1
keeps_outside w w1 f f1 at l block made ok len was a =
    λ i out. made_outside w w1 f f1 (area_writes at l block) made i was a (areas_miss at l block i ok len out)
