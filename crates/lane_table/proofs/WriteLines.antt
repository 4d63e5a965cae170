-- The lines of a write, each as a step on one word.
use Rattle.std.proofs.Common.{◌≡◌, ℕ, ◌+◌, ◌-◌, ◌*◌, ◌/◌, ◌^◌, ◌<◌, ◌≤◌, ◌≢◌, ◌==◌, if◌then◌else◌, inl, inr, zero, suc, true, List, [], ◌∷◌, ◌++◌, map, get_or, refl, sym, ap, ◌∙◌, subst, arith, mod-lt}
use mathlib.Core.Option.{some}
use prog.Atomic.{either}
use Rattle.atomic_table.specs.Table.{Allows, Me}
use Rattle.arena_open.specs.declared.cell.Cell.{Cell}
use Rattle.lane_core.specs.declared.lane.Lane.{Lane}
use Rattle.lane_core.specs.declared.shape.Shape.{Shape}
use Rattle.lane_core.specs.declared.phase.Phase.{Phase}
use Rattle.lane_core.specs.declared.phase.Phase.TheVariants.{Idle, Scanning, Staging, Staged, Locked, Known, LogAStored, LogA, LogBStored, Logged, Switched, Kept}
use Rattle.map_table.specs.Entry.{entry_in, with_entry}
use Rattle.lane_core.specs.Areas.{Geometry, put, block_in, normal, word_a, word_b, next_seq}
use Rattle.lane_core.specs.Machine as machine
use Rattle.lane_core.specs.Machine.{State, lock_of, other, other_lane, looked, wrote}
use Rattle.lane_core.specs.Invariant.{IsSound, is_reading, uses_sector, stored, is_known, has_log_a, is_log_b_stored, is_switched}
use Rattle.lane_core.specs.Places.{Place, SeenData, KeptData, SeenMap, KeptMap, SeenA, KeptA, SeenB, KeptB, Reader, Lock, word_of, value_of, geometry}
use Rattle.lane_core.proofs.Put.{put_at, put2_at, same_or_not}
use Rattle.lane_core.proofs.Places.{put_again}
use Rattle.lane_core.proofs.Elsewhere.{nowhere, but_seen_data, but_kept_data, but_seen_map, but_kept_map, but_seen_a, but_seen_b, but_kept_a, but_kept_b, but_lock}
use Rattle.lane_core.proofs.Own.{free_scanning}
use Rattle.lane_core.proofs.Turns.{lock_take_sound, begin_write_sound, give_up_sound, scan_on_sound, map_load_sound, lock_free_sound}
use Rattle.lane_core.proofs.Staging.{data_store_sound, data_keep_sound}
use Rattle.lane_core.proofs.Logging.{log_a_store_sound, log_a_keep_sound, log_b_store_sound, log_b_keep_sound}
use Rattle.lane_core.proofs.Switching.{map_store_sound, map_keep_sound}
use Rattle.lane_table.specs.declared.table.Call.{Call}
use Rattle.lane_table.specs.declared.table.Key.{Key}
use Rattle.lane_table.specs.declared.table.View.{View}
use Rattle.lane_table.specs.Law.{holds, opening_of, words_of, with, found, counted, uncounted, looks, with_by, may_enter, noted}
use Rattle.lane_table.specs.Told.{begun, tracked, scanned, scan_phase, with_word, with_keep, kept_phase, locked, missed, known, a_stored, a_kept, b_stored, b_kept, switched, map_kept, freed, blocks}
use Rattle.lane_table.proofs.Moves.{allows_step, allows_line, allows_weaker, phase_of, all_logged, Stands}
use Rattle.lane_table.proofs.Passes.{Effect, enters, quiet}

pub lock_in : (g : Geometry) (sector : ℕ) → 0 < g.lanes → lock_of g sector < g.lanes
unfolding lock_of
lock_in g sector h = mod-lt (sector / 2) h

pub map_word_in : (n t : ℕ) → t < n → 2 * (t / 2) < n
map_word_in n t lt = omega arith

either_one : (n a : ℕ) → n ≡ 0 → either (n == 0) a n ≡ a
either_one n a e = grind arith

either_other : (n a : ℕ) → n ≢ 0 → either (n == 0) a n ≡ n
either_other n a e = grind arith

suc_of : (n : ℕ) → n ≢ 0 → (l : ℕ) × (n ≡ suc l)
suc_of zero ne = absurd (ne refl)
suc_of (suc l) ne = (l, refl)

-- which lock has a holder
holder_small : (x : Shape) (o : ℕ → Cell) (s : State) (sector n : ℕ) → IsSound (geometry x) o s → n ≢ 0 → n ≡ s.locks (lock_of (geometry x) sector) → (n ≤ x.lanes) × (n ≤ 2 ^ 30)
holder_small x o s sector n h ne is = let l = suc_of n ne in let r = (h.locks.holder l.0 (lock_of (geometry x) sector) (lock_in (geometry x) sector h.geometry.lanes) (sym is ∙ l.1)).0 in (omega (arith, l.1, r), omega (arith, l.1, r, h.geometry.fits))

other_in : (j l n : ℕ) → j + 2 ≤ n → l < n → other_lane l j < n
other_in j l n le lt = grind arith

kept_word : (x : Shape) (o : ℕ → Cell) (s : State) (l k : ℕ) → IsSound (geometry x) o s → l < x.lanes → (s.lanes l).phase ≡ Staging k → x.width ≤ k → k < 2 * x.width
    → s.seen.data_at (s.lanes l).block (k - x.width) ≡ get_or (s.lanes l).words (k - x.width) 0
kept_word x o s l k h ll e le lt = (h.each l ll).stages.seen_words (k - x.width) (subst (λ n. k - x.width < n) (sym (ap (stored x.width) e)) below)
  where
    below : k - x.width < stored x.width (Staging k)
    below = omega arith

pub sector_in : (x : Shape) (o : ℕ → Cell) (v : View) (s : State) (ph : Phase) → Stands x o v s → v.lane.phase ≡ ph → uses_sector ph ≡ true → v.lane.sector < x.sectors
sector_in x o v s ph h e uses = subst (λ (p : Lane). p.sector < x.sectors) h.lane ((h.sound.each v.number h.number).knows.in_range (ap uses_sector (phase_of x o v s ph h e) ∙ uses))

-- the phase of a write that begins, and of one that goes on
first_is : (x : Shape) → machine.first_phase (geometry x) ≡ scan_phase x 0
first_is x = ap (λ b. if b then Staging 0 else Scanning 0) (swap x.lanes)
  where
    swap : (n : ℕ) → (n == 1) ≡ (0 + 1 == n)
    swap n = grind arith

next_is : (x : Shape) (j : ℕ) → (if j + 2 == x.lanes then Staging 0 else Scanning (j + 1)) ≡ scan_phase x (j + 1)
next_is x j = ap (λ m. if m == x.lanes then Staging 0 else Scanning (j + 1)) two
  where
    two : j + 2 ≡ j + 1 + 1
    two = omega arith

module _ {S : Type 0} (key : Key) (slots id i : ℕ) (me : Me S View) (live : me.0.live ≡ true) where
  abbrev x : Shape
  x = key.shape

  abbrev o : ℕ → Cell
  o = opening_of key

  abbrev ws : List ℕ
  ws = words_of key

  abbrev v : View
  v = me.0

  -- the word at a place
  pub at_place : (p : Place) (f : ℕ → ℕ) (fact : ℕ → Me S View → Type 0) → i ≡ word_of x p → Allows (holds key) slots id me (word_of x p) f fact → Allows (holds key) slots id me i f fact
  at_place p f fact ei h = subst (λ i. Allows (holds key) slots id me i f fact) (sym ei) h

  pub stores : (m value : ℕ) (p : Place) (fact : ℕ → Me S View → Type 0) → i ≡ word_of x p → m ≡ value
      → Allows (holds key) slots id me (word_of x p) (λ _. value) fact → Allows (holds key) slots id me i (λ _. m) fact
  stores m value p fact ei em h = at_place p (λ _. m) fact ei (subst (λ m. Allows (holds key) slots id me (word_of x p) (λ _. m) fact) (sym em) h)

  -- ---- up to Staged

  -- WriteBegin: the lane's own reader word is loaded
  pub begins_write : v.lane.phase ≡ Idle → i ≡ word_of x (Reader v.number) → Allows (holds key) slots id me i (λ n. n) (λ n w. w ≡ begun me)
  begins_write e ei =
      at_place (Reader v.number) (λ n. n) (λ n w. w ≡ begun me) ei
      (allows_step uncounted x o ws slots id v me.1 (Reader v.number) (λ n. n) (λ n w. w ≡ begun me) live
      (λ s h. h.number)
      (λ s h n is. record {
        new = record (s.lanes v.number) { phase = machine.first_phase (geometry x); words = [] };
        next = machine.begin_write (geometry x) s v.number;
        hands = v.held;
        enters = quiet v.number v.held refl (ap (λ (p : Lane). p.log) h.lane);
        sound = begin_write_sound (geometry x) o s v.number h.sound h.number (phase_of x o v s _ h e);
        lanes = refl;
        here = sym is;
        there = λ t ne. nowhere x s (machine.begin_write (geometry x) s v.number).lanes s.history t;
        tells = ap (λ (p : Lane). (with_by uncounted n v (record p { phase = machine.first_phase (geometry x); words = [] }), me.1)) h.lane
            ∙ ap (λ (y : Shape). (with_by uncounted n v (record (v.lane) { phase = machine.first_phase (geometry y); words = [] }), me.1)) (sym h.shape)
            ∙ ap (λ ph. (with_by uncounted n v (record (v.lane) { phase = ph; words = [] }), me.1)) (first_is v.shape);
      }))

  abbrev scan_tells : ℕ → ℕ → Me S View → Type 0
  scan_tells j n w = (n ≡ suc v.lane.block → w ≡ tracked n me) × (n ≢ suc v.lane.block → w ≡ scanned j n me)

  scans_at : (j : ℕ) → v.lane.phase ≡ Scanning j → Allows (holds key) slots id me (word_of x (Reader (other_lane v.number j))) (λ n. n) (scan_tells j)
  scans_at j e =
      allows_step looks x o ws slots id v me.1 (Reader (other_lane v.number j)) (λ n. n) (scan_tells j) live
      (λ s h. other_in j v.number x.lanes ((h.sound.each v.number h.number).knows.scans j (phase_of x o v s _ h e)) h.number)
      (λ s h n is. elim (same_or_not n (suc v.lane.block)) [
        | inl z ↦ record {
          new = record (s.lanes v.number) { phase = Idle };
          next = machine.give_up (geometry x) s v.number;
          hands = v.held;
          enters = quiet v.number v.held refl (ap (λ (p : Lane). p.log) h.lane);
          sound = give_up_sound (geometry x) o s v.number h.sound h.number (Scanning j) (free_scanning j) (phase_of x o v s _ h e) refl;
          lanes = refl;
          here = sym is;
          there = λ t ne. nowhere x s (machine.give_up (geometry x) s v.number).lanes s.history t;
          tells = (λ _. ap (λ (p : Lane). (found n v (record p { phase = Idle }), me.1)) h.lane, λ ne. absurd (ne z));
        }
        | inr nz ↦ record {
          new = record (s.lanes v.number) { phase = if j + 2 == x.lanes then Staging 0 else Scanning (j + 1); words = [] };
          next = machine.scan_on (geometry x) s v.number j;
          hands = v.held;
          enters = quiet v.number v.held refl (ap (λ (p : Lane). p.log) h.lane);
          sound = scan_on_sound (geometry x) o s v.number h.sound h.number j (phase_of x o v s _ h e) (λ r. nz (is ∙ r ∙ ap (λ (p : Lane). suc p.block) h.lane));
          lanes = refl;
          here = sym is;
          there = λ t ne. nowhere x s (machine.scan_on (geometry x) s v.number j).lanes s.history t;
          tells = (
            λ z. absurd (nz z),
            λ _. ap (λ (p : Lane). (found n v (record p { phase = if j + 2 == x.lanes then Staging 0 else Scanning (j + 1); words = [] }), me.1)) h.lane
                ∙ ap (λ (y : Shape). (found n v (record (v.lane) { phase = if j + 2 == y.lanes then Staging 0 else Scanning (j + 1); words = [] }), me.1)) (sym h.shape)
                ∙ ap (λ ph. (found n v (record (v.lane) { phase = ph; words = [] }), me.1)) (next_is v.shape j),
          );
        }
      ])

  -- RttScan
  pub scans : (j : ℕ) → v.lane.phase ≡ Scanning j → i ≡ word_of x (Reader (other_lane v.number j))
      → Allows (holds key) slots id me i (λ n. n)
      (λ n w. (k : ℕ) → v.lane.phase ≡ Scanning k → (n ≡ suc v.lane.block → w ≡ tracked n me) × (n ≢ suc v.lane.block → w ≡ scanned k n me))
  scans j e ei =
      let b : ℕ → Me S View → Type 0 = λ n w. (k : ℕ) → v.lane.phase ≡ Scanning k → (n ≡ suc v.lane.block → w ≡ tracked n me) × (n ≢ suc v.lane.block → w ≡ scanned k n me) in
      at_place (Reader (other_lane v.number j)) (λ n. n) b ei
      (allows_weaker (holds key) slots id me _ (λ n. n) (scan_tells j) b
      (λ n w q k ek. let z : j ≡ k = cc in (q.0, λ ne. q.1 ne ∙ ap (λ k. scanned k n me) z)) (scans_at j e))

  stores_word : (k w : ℕ) → v.lane.phase ≡ Staging k → k < x.width → Allows (holds key) slots id me (word_of x (SeenData v.lane.block k)) (λ _. w) (λ n u. u ≡ with_word me k w)
  stores_word k w e lt =
      allows_line counted x o ws slots id v me.1 (SeenData v.lane.block k) (λ _. w) (λ n p. record p { phase = Staging (k + 1); words = p.words ++ w ∷ [] }) live
      (λ s h. (subst (λ (p : Lane). p.block < x.sectors + x.lanes) h.lane (h.sound.blocks.lane_in v.number h.number), lt))
      (λ s h n is. record {
        next = machine.data_store (geometry x) s v.number k w;
        quiet = (refl, refl);
        sound = data_store_sound (geometry x) o s v.number k w h.sound h.number (phase_of x o v s _ h e) lt;
        lanes = refl;
        here = ap (λ (p : Lane). value_of (machine.data_store (geometry x) s v.number k w) (SeenData p.block k)) (sym h.lane) ∙ put2_at s.seen.data_at (s.lanes v.number).block k w;
        there = λ t ne. but_seen_data x s (machine.data_store (geometry x) s v.number k w).lanes s.history (s.lanes v.number).block k w t (λ r. ne (r ∙ ap (λ (p : Lane). SeenData p.block k) h.lane));
      })

  -- DataStore
  pub stores_data : (k w : ℕ) → v.lane.phase ≡ Staging k → k < x.width → i ≡ word_of x (SeenData v.lane.block k)
      → Allows (holds key) slots id me i (λ _. w) (λ _ u. (j : ℕ) → v.lane.phase ≡ Staging j → u ≡ with_word me j w)
  stores_data k w e lt ei =
      let b : ℕ → Me S View → Type 0 = λ _ u. (j : ℕ) → v.lane.phase ≡ Staging j → u ≡ with_word me j w in
      at_place (SeenData v.lane.block k) (λ _. w) b ei
      (allows_weaker (holds key) slots id me _ (λ _. w) (λ n u. u ≡ with_word me k w) b
      (λ n u q j ej. let z : k ≡ j = cc in q ∙ ap (λ j. with_word me j w) z) (stores_word k w e lt))

  keeps_word : (k : ℕ) → v.lane.phase ≡ Staging k → x.width ≤ k → k < 2 * x.width
      → Allows (holds key) slots id me (word_of x (KeptData v.lane.block (k - x.width))) (λ _. get_or v.lane.words (k - x.width) 0) (λ n u. u ≡ with_keep me k)
  keeps_word k e le lt =
      allows_step counted x o ws slots id v me.1 (KeptData v.lane.block (k - x.width)) (λ _. get_or v.lane.words (k - x.width) 0) (λ n u. u ≡ with_keep me k) live
      (λ s h. (subst (λ (p : Lane). p.block < x.sectors + x.lanes) h.lane (h.sound.blocks.lane_in v.number h.number), omega arith))
      (λ s h n is. record {
        new = record (s.lanes v.number) { phase = kept_phase x k };
        next = machine.data_keep (geometry x) s v.number k;
        hands = v.held;
        enters = quiet v.number v.held refl (ap (λ (p : Lane). p.log) h.lane);
        sound = data_keep_sound (geometry x) o s v.number k h.sound h.number (phase_of x o v s _ h e) le;
        lanes = refl;
        here = ap (λ (p : Lane). value_of (machine.data_keep (geometry x) s v.number k) (KeptData p.block (k - x.width))) (sym h.lane) ∙ put2_at s.kept.data_at (s.lanes v.number).block (k - x.width) _
            ∙ kept_word x o s v.number k h.sound h.number (phase_of x o v s _ h e) le lt ∙ ap (λ (p : Lane). get_or p.words (k - x.width) 0) h.lane;
        there = λ t ne. but_kept_data x s (machine.data_keep (geometry x) s v.number k).lanes s.history (s.lanes v.number).block (k - x.width) _ t (λ r. ne (r ∙ ap (λ (p : Lane). KeptData p.block (k - x.width)) h.lane));
        tells = ap (λ (p : Lane). (with v (record p { phase = kept_phase x k }), me.1)) h.lane ∙ ap (λ (y : Shape). (with v (record (v.lane) { phase = kept_phase y k }), me.1)) (sym h.shape);
      })

  -- DataKeep: what is kept is the lane's own word
  pub keeps_data : (k w : ℕ) → v.lane.phase ≡ Staging k → x.width ≤ k → k < 2 * x.width → i ≡ word_of x (KeptData v.lane.block (k - x.width)) → w ≡ get_or v.lane.words (k - x.width) 0
      → Allows (holds key) slots id me i (λ _. w) (λ _ u. (j : ℕ) → v.lane.phase ≡ Staging j → u ≡ with_keep me j)
  keeps_data k w e le lt ei ew =
      let b : ℕ → Me S View → Type 0 = λ _ u. (j : ℕ) → v.lane.phase ≡ Staging j → u ≡ with_keep me j in
      stores w (get_or v.lane.words (k - x.width) 0) (KeptData v.lane.block (k - x.width)) b ei ew
      (allows_weaker (holds key) slots id me _ (λ _. get_or v.lane.words (k - x.width) 0) (λ n u. u ≡ with_keep me k) b
      (λ n u q j ej. let z : k ≡ j = cc in q ∙ ap (with_keep me) z) (keeps_word k e le lt))

  -- ---- the lock and the map word

  abbrev lock_tells : Call → ℕ → Me S View → Type 0
  lock_tells t n w = (n ≡ 0 → w ≡ locked t me) × (n ≢ 0 → (w ≡ missed n me) × (n ≤ v.shape.lanes) × (n ≤ 2 ^ 30))

  exchanges : (t : Call) → v.lane.phase ≡ Staged → t.sector < x.sectors
      → Allows (holds key) slots id me (word_of x (Lock (lock_of (geometry x) t.sector))) (λ n. either (n == 0) (suc v.number) n) (lock_tells t)
  exchanges t e ls =
      allows_step looks x o ws slots id v me.1 (Lock (lock_of (geometry x) t.sector)) (λ n. either (n == 0) (suc v.number) n) (lock_tells t) live
      (λ s h. lock_in (geometry x) t.sector h.sound.geometry.lanes)
      (λ s h n is. elim (same_or_not n 0) [
        | inl z ↦ record {
          new = record (s.lanes v.number) { phase = Locked; tag = t.tag; sector = t.sector };
          next = machine.lock_take (geometry x) s v.number t.tag t.sector;
          hands = v.held;
          enters = quiet v.number v.held refl (ap (λ (p : Lane). p.log) h.lane);
          sound = lock_take_sound (geometry x) o s v.number h.sound h.number t.tag t.sector (phase_of x o v s _ h e) ls (sym is ∙ z);
          lanes = refl;
          here = put_at s.locks (lock_of (geometry x) t.sector) (suc v.number) ∙ sym (either_one n (suc v.number) z);
          there = but_lock x s (put s.lanes v.number (record (s.lanes v.number) { phase = Locked; tag = t.tag; sector = t.sector })) s.history (lock_of (geometry x) t.sector) (suc v.number);
          tells = (
            λ _. ap (λ (p : Lane). (found n v (record p { phase = Locked; tag = t.tag; sector = t.sector }), me.1)) h.lane ∙ ap (λ (n : ℕ). (found n v (record (v.lane) { phase = Locked; tag = t.tag; sector = t.sector }), me.1)) z,
            λ ne. absurd (ne z),
          );
        }
        | inr nz ↦ record {
          new = v.lane;
          next = s;
          hands = v.held;
          enters = quiet v.number v.held refl refl;
          sound = h.sound;
          lanes = sym (put_again s.lanes v.number v.lane (sym h.lane));
          here = sym is ∙ sym (either_other n (suc v.number) nz);
          there = λ p ne. refl;
          tells = (λ z. absurd (nz z), λ _. let few = holder_small x o s t.sector n h.sound nz is in (refl, subst (λ (y : Shape). n ≤ y.lanes) (sym h.shape) few.0, few.1));
        }
      ])

  -- LockTake
  pub takes_lock : (m : ℕ) (call : Call) → v.lane.phase ≡ Staged → call.sector < x.sectors → i ≡ word_of x (Lock (lock_of (geometry x) call.sector)) → m ≡ suc v.number
      → Allows (holds key) slots id me i (λ n. either (n == 0) m n) (λ n w. (t : Call) → some call ≡ some t → (n ≡ 0 → w ≡ locked t me) × (n ≢ 0 → (w ≡ missed n me) × (n ≤ v.shape.lanes) × (n ≤ 2 ^ 30)))
  takes_lock m call e ls ei em =
      let b : ℕ → Me S View → Type 0 = λ n w. (t : Call) → some call ≡ some t → (n ≡ 0 → w ≡ locked t me) × (n ≢ 0 → (w ≡ missed n me) × (n ≤ v.shape.lanes) × (n ≤ 2 ^ 30)) in
      at_place (Lock (lock_of (geometry x) call.sector)) (λ n. either (n == 0) m n) b ei
      (subst (λ m. Allows (holds key) slots id me (word_of x (Lock (lock_of (geometry x) call.sector))) (λ n. either (n == 0) m n) b) (sym em)
      (allows_weaker (holds key) slots id me _ (λ n. either (n == 0) (suc v.number) n) (lock_tells call) b
      (λ n w q t et. let same : call ≡ t = cc in ((λ z. q.0 z ∙ ap (λ t. locked t me) same), q.1)) (exchanges call e ls)))

  -- MapLoad
  pub loads_map : v.lane.phase ≡ Locked → i ≡ word_of x (SeenMap (v.lane.sector / 2))
      → Allows (holds key) slots id me i (λ n. n) (λ n w. (w ≡ known n me) × (looked (record (v.lane) { loaded = n }) < blocks v.shape))
  loads_map e ei =
      let told : ℕ → Me S View → Type 0 = λ n w. (w ≡ known n me) × (looked (record (v.lane) { loaded = n }) < blocks v.shape) in
      at_place (SeenMap (v.lane.sector / 2)) (λ n. n) told ei
      (allows_step looks x o ws slots id v me.1 (SeenMap (v.lane.sector / 2)) (λ n. n) told live
      (λ s h. map_word_in x.sectors v.lane.sector (sector_in x o v s _ h e refl))
      (λ s h n is. record {
        new = record (s.lanes v.number) { phase = Known; loaded = n };
        next = machine.map_load (geometry x) s v.number;
        hands = v.held;
        enters = quiet v.number v.held refl (ap (λ (p : Lane). p.log) h.lane);
        sound = map_load_sound (geometry x) o s v.number h.sound h.number (phase_of x o v s _ h e);
        lanes = ap (λ w. put s.lanes v.number (record (s.lanes v.number) { phase = Known; loaded = w })) (ap (λ (p : Lane). s.seen.map_at (p.sector / 2)) h.lane ∙ sym is);
        here = sym is;
        there = λ t ne. nowhere x s (machine.map_load (geometry x) s v.number).lanes s.history t;
        tells = (
          ap (λ (p : Lane). (found n v (record p { phase = Known; loaded = n }), me.1)) h.lane,
          subst (λ (y : Shape). block_in (entry_in n v.lane.sector) v.lane.sector < blocks y) (sym h.shape)
              (subst (λ w. block_in (entry_in w v.lane.sector) v.lane.sector < blocks x) (sym is) (h.sound.blocks.map_in v.lane.sector (sector_in x o v s _ h e refl))),
        );
      }))

  -- ---- the seven stores

  -- FlogAStore
  pub stores_a : (m : ℕ) → v.lane.phase ≡ Known → v.lane.side < 2 → i ≡ word_of x (SeenA v.number (other v.lane.side)) → m ≡ word_a v.lane.sector (looked v.lane)
      → Allows (holds key) slots id me i (λ _. m) (λ n w. w ≡ a_stored me)
  stores_a m e two ei em =
      stores m (word_a v.lane.sector (looked v.lane)) (SeenA v.number (other v.lane.side)) (λ n w. w ≡ a_stored me) ei em
      (allows_line counted x o ws slots id v me.1 (SeenA v.number (other v.lane.side)) (λ _. word_a v.lane.sector (looked v.lane)) (λ n p. record p { phase = LogAStored }) live
      (λ s h. (h.number, omega arith))
      (λ s h n is. record {
        next = machine.log_a_store (geometry x) s v.number;
        quiet = (refl, refl);
        sound = log_a_store_sound (geometry x) o s v.number h.sound h.number (phase_of x o v s _ h e);
        lanes = refl;
        here = ap (λ (p : Lane). value_of (machine.log_a_store (geometry x) s v.number) (SeenA v.number (other p.side))) (sym h.lane) ∙ put2_at s.seen.log_a v.number (other (s.lanes v.number).side) _ ∙ ap (λ (p : Lane). word_a p.sector (looked p)) h.lane;
        there = λ t ne. but_seen_a x s (machine.log_a_store (geometry x) s v.number).lanes s.history v.number (other (s.lanes v.number).side) _ t (λ r. ne (r ∙ ap (λ (p : Lane). SeenA v.number (other p.side)) h.lane));
      }))

  -- FlogAKeep: what is kept is the lane's own word A
  pub keeps_a : (m : ℕ) → v.lane.phase ≡ LogAStored → v.lane.side < 2 → i ≡ word_of x (KeptA v.number (other v.lane.side)) → m ≡ word_a v.lane.sector (looked v.lane)
      → Allows (holds key) slots id me i (λ _. m) (λ n w. w ≡ a_kept me)
  keeps_a m e two ei em =
      stores m (word_a v.lane.sector (looked v.lane)) (KeptA v.number (other v.lane.side)) (λ n w. w ≡ a_kept me) ei em
      (allows_line counted x o ws slots id v me.1 (KeptA v.number (other v.lane.side)) (λ _. word_a v.lane.sector (looked v.lane)) (λ n p. record p { phase = LogA }) live
      (λ s h. (h.number, omega arith))
      (λ s h n is. record {
        next = machine.log_a_keep (geometry x) s v.number;
        quiet = (refl, refl);
        sound = log_a_keep_sound (geometry x) o s v.number h.sound h.number (phase_of x o v s _ h e);
        lanes = refl;
        here = ap (λ (p : Lane). value_of (machine.log_a_keep (geometry x) s v.number) (KeptA v.number (other p.side))) (sym h.lane) ∙ put2_at s.kept.log_a v.number (other (s.lanes v.number).side) _
            ∙ (h.sound.each v.number h.number).halves.named_a (ap has_log_a (phase_of x o v s _ h e))
            ∙ ap (λ w. word_a (s.lanes v.number).sector (block_in (entry_in w (s.lanes v.number).sector) (s.lanes v.number).sector)) ((h.sound.each v.number h.number).knows.same (ap is_known (phase_of x o v s _ h e)))
            ∙ ap (λ (p : Lane). word_a p.sector (looked p)) h.lane;
        there = λ t ne. but_kept_a x s (machine.log_a_keep (geometry x) s v.number).lanes s.history v.number (other (s.lanes v.number).side) _ t (λ r. ne (r ∙ ap (λ (p : Lane). KeptA v.number (other p.side)) h.lane));
      }))

  -- FlogBStore
  pub stores_b : (m : ℕ) → v.lane.phase ≡ LogA → v.lane.side < 2 → i ≡ word_of x (SeenB v.number (other v.lane.side)) → m ≡ word_b v.lane.block (next_seq v.lane.half.seq)
      → Allows (holds key) slots id me i (λ _. m) (λ n w. w ≡ b_stored me)
  stores_b m e two ei em =
      stores m (word_b v.lane.block (next_seq v.lane.half.seq)) (SeenB v.number (other v.lane.side)) (λ n w. w ≡ b_stored me) ei em
      (allows_line counted x o ws slots id v me.1 (SeenB v.number (other v.lane.side)) (λ _. word_b v.lane.block (next_seq v.lane.half.seq)) (λ n p. record p { phase = LogBStored }) live
      (λ s h. (h.number, omega arith))
      (λ s h n is. record {
        next = machine.log_b_store (geometry x) s v.number;
        quiet = (refl, refl);
        sound = log_b_store_sound (geometry x) o s v.number h.sound h.number (phase_of x o v s _ h e);
        lanes = refl;
        here = ap (λ (p : Lane). value_of (machine.log_b_store (geometry x) s v.number) (SeenB v.number (other p.side))) (sym h.lane) ∙ put2_at s.seen.log_b v.number (other (s.lanes v.number).side) _ ∙ ap (λ (p : Lane). word_b p.block (next_seq p.half.seq)) h.lane;
        there = λ t ne. but_seen_b x s (machine.log_b_store (geometry x) s v.number).lanes s.history v.number (other (s.lanes v.number).side) _ t (λ r. ne (r ∙ ap (λ (p : Lane). SeenB v.number (other p.side)) h.lane));
      }))

  -- FlogBKeep: what is kept is the lane's own word B
  pub keeps_b : (m : ℕ) → v.lane.phase ≡ LogBStored → v.lane.side < 2 → i ≡ word_of x (KeptB v.number (other v.lane.side)) → m ≡ word_b v.lane.block (next_seq v.lane.half.seq)
      → Allows (holds key) slots id me i (λ _. m) (λ n w. w ≡ b_kept me)
  keeps_b m e two ei em =
      stores m (word_b v.lane.block (next_seq v.lane.half.seq)) (KeptB v.number (other v.lane.side)) (λ n w. w ≡ b_kept me) ei em
      (allows_line counted x o ws slots id v me.1 (KeptB v.number (other v.lane.side)) (λ _. word_b v.lane.block (next_seq v.lane.half.seq))
      (λ n p. record p { phase = Logged; side = other p.side; half = record { lba = p.sector; old = looked p; new = p.block; seq = next_seq p.half.seq } }) live
      (λ s h. (h.number, omega arith))
      (λ s h n is. record {
        next = machine.log_b_keep (geometry x) s v.number;
        quiet = (refl, refl);
        sound = log_b_keep_sound (geometry x) o s v.number h.sound h.number (phase_of x o v s _ h e);
        lanes = refl;
        here = ap (λ (p : Lane). value_of (machine.log_b_keep (geometry x) s v.number) (KeptB v.number (other p.side))) (sym h.lane) ∙ put2_at s.kept.log_b v.number (other (s.lanes v.number).side) _
            ∙ (h.sound.each v.number h.number).halves.named_b (ap is_log_b_stored (phase_of x o v s _ h e)) ∙ ap (λ (p : Lane). word_b p.block (next_seq p.half.seq)) h.lane;
        there = λ t ne. but_kept_b x s (machine.log_b_keep (geometry x) s v.number).lanes s.history v.number (other (s.lanes v.number).side) _ t (λ r. ne (r ∙ ap (λ (p : Lane). KeptB v.number (other p.side)) h.lane));
      }))

  -- MapStore
  pub stores_map : (m : ℕ) → v.lane.phase ≡ Logged → may_enter v.held v.lane.tag ≡ true → i ≡ word_of x (SeenMap (v.lane.sector / 2)) → m ≡ with_entry v.lane.loaded v.lane.sector (normal v.lane.block)
      → Allows (holds key) slots id me i (λ _. m) (λ n w. w ≡ switched me)
  stores_map m e ok ei em =
      stores m (with_entry v.lane.loaded v.lane.sector (normal v.lane.block)) (SeenMap (v.lane.sector / 2)) (λ n w. w ≡ switched me) ei em
      (allows_step counted x o ws slots id v me.1 (SeenMap (v.lane.sector / 2)) (λ _. with_entry v.lane.loaded v.lane.sector (normal v.lane.block)) (λ n w. w ≡ switched me) live
      (λ s h. map_word_in x.sectors v.lane.sector (sector_in x o v s _ h e refl))
      (λ s h n is. record {
        new = record (s.lanes v.number) { phase = Switched; block = looked (s.lanes v.number); words = []; log = (s.lanes v.number).log ++ wrote v.number (s.lanes v.number) ∷ [] };
        next = machine.map_store (geometry x) s v.number;
        hands = map (noted (wrote v.number v.lane)) v.held;
        sound = map_store_sound (geometry x) o s v.number h.sound h.number (phase_of x o v s _ h e);
        lanes = refl;
        enters = subst (λ (p : Lane). Effect s.history (s.history ++ wrote v.number p ∷ []) v.number v.lane.log (p.log ++ wrote v.number p ∷ []) v.held (map (noted (wrote v.number v.lane)) v.held)) (sym h.lane)
            (enters v.held (wrote v.number v.lane) ok refl (all_logged x o v s h (ap is_reading e)));
        here = ap (λ (p : Lane). value_of (machine.map_store (geometry x) s v.number) (SeenMap (p.sector / 2))) (sym h.lane) ∙ put_at s.seen.map_at ((s.lanes v.number).sector / 2) _
            ∙ ap (λ (p : Lane). with_entry p.loaded p.sector (normal p.block)) h.lane;
        there = λ t ne. but_seen_map x s (machine.map_store (geometry x) s v.number).lanes (machine.map_store (geometry x) s v.number).history ((s.lanes v.number).sector / 2) _ t (λ r. ne (r ∙ ap (λ (p : Lane). SeenMap (p.sector / 2)) h.lane));
        tells = ap (λ (p : Lane). (record (with v (record p { phase = Switched; block = looked p; words = []; log = p.log ++ wrote v.number p ∷ [] })) { held = map (noted (wrote v.number v.lane)) v.held }, me.1)) h.lane;
      }))

  -- MapKeep: what is kept is the lane's own map word
  pub keeps_map : (m : ℕ) → v.lane.phase ≡ Switched → i ≡ word_of x (KeptMap (v.lane.sector / 2)) → m ≡ with_entry v.lane.loaded v.lane.sector (normal v.lane.half.new)
      → Allows (holds key) slots id me i (λ _. m) (λ n w. w ≡ map_kept me)
  keeps_map m e ei em =
      stores m (with_entry v.lane.loaded v.lane.sector (normal v.lane.half.new)) (KeptMap (v.lane.sector / 2)) (λ n w. w ≡ map_kept me) ei em
      (allows_line counted x o ws slots id v me.1 (KeptMap (v.lane.sector / 2)) (λ _. with_entry v.lane.loaded v.lane.sector (normal v.lane.half.new)) (λ n p. record p { phase = Kept }) live
      (λ s h. map_word_in x.sectors v.lane.sector (sector_in x o v s _ h e refl))
      (λ s h n is. record {
        next = machine.map_keep (geometry x) s v.number;
        quiet = (refl, refl);
        sound = map_keep_sound (geometry x) o s v.number h.sound h.number (phase_of x o v s _ h e);
        lanes = refl;
        here = ap (λ (p : Lane). value_of (machine.map_keep (geometry x) s v.number) (KeptMap (p.sector / 2))) (sym h.lane) ∙ put_at s.kept.map_at ((s.lanes v.number).sector / 2) _
            ∙ (h.sound.each v.number h.number).knows.wrote (ap is_switched (phase_of x o v s _ h e)) ∙ ap (λ (p : Lane). with_entry p.loaded p.sector (normal p.half.new)) h.lane;
        there = λ t ne. but_kept_map x s (machine.map_keep (geometry x) s v.number).lanes s.history ((s.lanes v.number).sector / 2) _ t (λ r. ne (r ∙ ap (λ (p : Lane). KeptMap (p.sector / 2)) h.lane));
      }))

  -- LockFree
  pub frees_lock : (m : ℕ) → v.lane.phase ≡ Kept → i ≡ word_of x (Lock (lock_of (geometry x) v.lane.sector)) → m ≡ 0
      → Allows (holds key) slots id me i (λ _. m) (λ n w. w ≡ freed me)
  frees_lock m e ei em =
      stores m 0 (Lock (lock_of (geometry x) v.lane.sector)) (λ n w. w ≡ freed me) ei em
      (allows_line counted x o ws slots id v me.1 (Lock (lock_of (geometry x) v.lane.sector)) (λ _. 0) (λ n p. record p { phase = Idle }) live
      (λ s h. lock_in (geometry x) v.lane.sector h.sound.geometry.lanes)
      (λ s h n is. record {
        next = machine.lock_free (geometry x) s v.number;
        quiet = (refl, refl);
        sound = lock_free_sound (geometry x) o s v.number h.sound h.number (phase_of x o v s _ h e);
        lanes = refl;
        here = ap (λ (p : Lane). value_of (machine.lock_free (geometry x) s v.number) (Lock (lock_of (geometry x) p.sector))) (sym h.lane) ∙ put_at s.locks (lock_of (geometry x) (s.lanes v.number).sector) 0;
        there = λ t ne. but_lock x s (machine.lock_free (geometry x) s v.number).lanes s.history (lock_of (geometry x) (s.lanes v.number).sector) 0 t (λ r. ne (r ∙ ap (λ (p : Lane). Lock (lock_of (geometry x) p.sector)) h.lane));
      }))
