-- The steps that change no word of the arena.
use Rattle.std.proofs.Common.{◌≡◌, ℕ, ◌+◌, ◌/◌, ◌<◌, ◌≤◌, ◌≢◌, ◌==◌, inl, inr, suc, Bool, true, false, refl, sym, ap, ◌∙◌, subst, arith, if◌then◌else◌, List, [], ◌∷◌, ◌++◌}
use Rattle.lane_core.specs.Areas.{put, Geometry, entry_at, kind_in, has_bytes}
use Rattle.lane_core.specs.History.{listed}
use Rattle.lane_core.specs.Machine.{Phase, Idle, Scanning, Staging, Staged, Locked, Known, Kept, Called, Looking, Published, Moved, Reading, Lane, State, looked, lock_of}
use Rattle.lane_core.specs.Invariant.{Stages, Knows, IsSound, is_reading, is_filling, has_words, is_locked, is_logged, is_switched, is_log_a_stored, is_log_b_stored, is_seeking, uses_sector, place, only_if, open_entry, stored, saved, is_published}
use Rattle.lane_core.proofs.Put.{same_or_not, never}
use Rattle.lane_core.specs.History.{Cell}
use Rattle.lane_core.specs.Machine.{begin_write, scan_again, scan_on, lock_take, map_load, lock_free, begin_read, look, rtt_set, check_moved, clear_moved, data_load, clear_done, other_lane, with_lane, read}
use Rattle.lane_core.proofs.Frames.{locks_same, readers_same, map_kept_same, quiet_same, quiet_put}
use Rattle.lane_core.proofs.Own.{halves_plain, tells_plain, stages_as, stages_fresh, Free, free_idle, free_scanning, free_staging, free_called, free_looking, reading_published}
use Rattle.lane_core.proofs.Claims.{locks_taken, locks_freed, readers_put, lane_step}
use Rattle.lane_core.proofs.Past.{listed-more, append_none}
use Rattle.arena_open.specs.declared.cell.Cell.TheVariants as cell
use Rattle.nvd_words.specs.declared.tag.Tag.{Tag}

module _ (g : Geometry) (o : ℕ → Cell) (s : State) (l : ℕ) (h : IsSound g o s) (ll : l < g.lanes) where
  -- One compare-and-exchange finds 0. The lane had no sector before
  pub lock_take_sound : (tag : Tag) (sector : ℕ) → (s.lanes l).phase ≡ Staged → sector < g.sectors → s.locks (lock_of g sector) ≡ 0 → IsSound g o (lock_take g s l tag sector)
  lock_take_sound tag sector e ls free =
      let p = s.lanes l in
      let new : Lane = record (s.lanes l) { phase = Locked; tag = tag; sector = sector } in
      let was = h.each l ll in
      lane_step g o s l new s.readers (put s.locks (lock_of g sector) (suc l)) h refl
      (locks_taken g s.locks s.lanes l new (lock_of g sector) ll free (ap (λ ph. if is_locked ph then suc (lock_of g p.sector) else 0) e) refl h.locks)
      (readers_same g s.lanes l new s.readers (sym (ap (λ ph. if is_published ph then suc (looked p) else 0) e)) h.readers)
      (quiet_same g s.lanes l new refl (λ q. never q) (λ _. ap is_filling e) (λ j q. cc) ll h.quiet)
      (map_kept_same g s.lanes l new s.seen.map_at s.kept.map_at (sym (ap (λ ph. if is_switched ph then suc (p.sector / 2) else 0) e)) h.map_kept)
      record {
        stages = stages_as g.width _ _ p.phase Locked p.words p.words (λ _. ap has_words e) (ap (stored g.width) e) (ap (saved g.width) e) was.stages;
        knows = record { in_range = λ _. ls; same = λ t. never t; bytes = λ t. never t; wrote = λ t. never t; scans = λ j t. cc; stages = λ k t. cc };
        halves = halves_plain _ _ _ _ _ _ _ _ (s.lanes l).phase Locked p.side p.half p.block p.sector sector (ap is_log_a_stored e) (ap is_log_b_stored e) (ap is_logged e) refl was.halves;
        sized = was.sized;
        tells = tells_plain g.width _ _ s.history l (s.lanes l).phase Locked p.tag p.sector tag sector p.log p.got p.got (ap is_reading e) refl was.tells;
      }

  -- The lane's phase, words and what it loaded change, and it has no lock, reader word or log
  -- before or after
  pub free_turn : (ph ph' : Phase) (tag : Tag) (sec : ℕ) (ws : List ℕ) (loaded : ℕ) (got : List ℕ) → (s.lanes l).phase ≡ ph → Free ph → Free ph'
      → ((r : ℕ) → r < g.lanes → r ≢ l → is_reading (s.lanes r).phase ≡ true → looked (s.lanes r) ≡ (s.lanes l).block → (is_filling ph' ≡ false) × ((j : ℕ) → ph' ≡ Scanning j → j ≤ place l r))
      → Knows g (s.seen.map_at (sec / 2)) ph' sec loaded (s.lanes l).half
      → Stages g.width (s.seen.data_at (s.lanes l).block) (s.kept.data_at (s.lanes l).block) ph' ws
      → IsSound g o (with_lane s l (record (s.lanes l) { phase = ph'; tag = tag; sector = sec; words = ws; loaded = loaded; got = got }))
  free_turn ph ph' tag sec ws loaded got e f f' fills kn st =
      let p = s.lanes l in
      let new : Lane = record (s.lanes l) { phase = ph'; tag = tag; sector = sec; words = ws; loaded = loaded; got = got } in
      let was = h.each l ll in
      lane_step g o s l new s.readers s.locks h refl
      (locks_same g s.lanes l new s.locks (ap (λ b. if b then suc (lock_of g sec) else 0) f'.locked ∙ sym (ap (λ b. if b then suc (lock_of g p.sector) else 0) (ap is_locked e ∙ f.locked))) h.locks)
      (readers_same g s.lanes l new s.readers (ap (λ b. if b then suc (looked new) else 0) f'.published ∙ sym (ap (λ b. if b then suc (looked p) else 0) (ap is_published e ∙ f.published))) h.readers)
      (quiet_put g s.lanes l new (λ w lw wl t. never (sym f'.reading ∙ t)) fills h.quiet)
      (map_kept_same g s.lanes l new s.seen.map_at s.kept.map_at (ap (λ b. if b then suc (sec / 2) else 0) f'.switched ∙ sym (ap (λ b. if b then suc (p.sector / 2) else 0) (ap is_switched e ∙ f.switched))) h.map_kept)
      record {
        stages = st;
        knows = kn;
        halves = halves_plain _ _ _ _ _ _ _ _ p.phase ph' p.side p.half p.block p.sector sec (ap is_log_a_stored e ∙ f.a) (ap is_log_b_stored e ∙ f.b) (ap is_logged e ∙ f.logged) f'.plain was.halves;
        sized = was.sized;
        tells = tells_plain g.width _ _ s.history l p.phase ph' p.tag p.sector tag sec p.log p.got got (ap is_reading e ∙ f.reading) f'.reading was.tells;
      }

  pub begin_write_sound : (s.lanes l).phase ≡ Idle → IsSound g o (begin_write g s l)
  begin_write_sound e = go (g.lanes == 1) refl
    where
      p : Lane
      p = s.lanes l

      go : (b : Bool) → (g.lanes == 1) ≡ b → IsSound g o (with_lane s l (record (s.lanes l) { phase = if b then Staging 0 else Scanning 0; words = [] }))
      go true q = free_turn Idle (Staging 0) p.tag p.sector [] p.loaded p.got e
          free_idle
          (free_staging 0)
          (λ r lr ne rd eb. absurd (alone r lr ne q))
          (record { in_range = λ t. never t; same = λ t. never t; bytes = λ t. never t; wrote = λ t. never t; scans = λ j t. cc; stages = λ k t. let z : 0 ≡ k = cc in let w = h.geometry.width in omega arith })
          (stages_fresh g.width _ _ p.phase (Staging 0) p.words [] (λ _. refl) (ap (stored g.width) e) (omega arith) (omega arith) (h.each l ll).stages)
        where
          alone : (r : ℕ) → r < g.lanes → r ≢ l → (g.lanes == 1) ≡ true → ⊥
          alone r lr ne q = grind arith
      go false q = free_turn Idle (Scanning 0) p.tag p.sector [] p.loaded p.got e
          free_idle
          (free_scanning 0)
          (λ r lr ne rd eb. (refl, λ j t. let z : 0 ≡ j = cc in omega arith))
          (record { in_range = λ t. never t; same = λ t. never t; bytes = λ t. never t; wrote = λ t. never t; scans = λ j t. let z : 0 ≡ j = cc in several j z q; stages = λ k t. cc })
          (stages_fresh g.width _ _ p.phase (Scanning 0) p.words [] (λ _. refl) (ap (stored g.width) e) refl refl (h.each l ll).stages)
        where
          several : (j : ℕ) → 0 ≡ j → (g.lanes == 1) ≡ false → j + 2 ≤ g.lanes
          several j z q = grind arith

  -- the reader word that was found names the lane's block
  pub scan_again_sound : (j : ℕ) → (s.lanes l).phase ≡ Scanning j → IsSound g o (scan_again g s l)
  scan_again_sound j e =
      let p = s.lanes l in
      free_turn (Scanning j) (Scanning 0) p.tag p.sector p.words p.loaded p.got e (free_scanning j) (free_scanning 0)
      (λ r lr ne rd eb. (refl, λ i t. let z : 0 ≡ i = cc in omega arith))
      (record { in_range = λ t. never t; same = λ t. never t; bytes = λ t. never t; wrote = λ t. never t; scans = λ i t. let z : 0 ≡ i = cc in let more = (h.each l ll).knows.scans j e in omega arith; stages = λ k t. cc })
      (stages_as g.width _ _ p.phase (Scanning 0) p.words p.words (λ t. never t) (ap (stored g.width) e) (ap (saved g.width) e) (h.each l ll).stages)

  -- it doesn't
  pub scan_on_sound : (j : ℕ) → (s.lanes l).phase ≡ Scanning j → s.readers (other_lane l j) ≢ suc (s.lanes l).block → IsSound g o (scan_on g s l j)
  scan_on_sound j e ne_found = go (j + 2 == g.lanes) refl
    where
      p : Lane
      p = s.lanes l

      -- a lane that reads the block comes later
      later : (r : ℕ) → r < g.lanes → r ≢ l → is_reading (s.lanes r).phase ≡ true → looked (s.lanes r) ≡ (s.lanes l).block → j + 1 ≤ place l r
      later r lr ne rd eb =
          let far = h.quiet.unscanned r l j lr ll ne rd eb e in
          elim (same_or_not (place l r) j) [
            | inl q ↦ absurd (ne_found (ap s.readers (sym (the_lane q)) ∙ h.readers r lr ∙ ap (λ b. if b then suc (looked (s.lanes r)) else 0) (reading_published (s.lanes r).phase rd) ∙ ap suc eb))
            | inr nq ↦ omega arith
          ]
        where
          the_lane : place l r ≡ j → r ≡ other_lane l j
          the_lane q = grind arith

      go : (b : Bool) → (j + 2 == g.lanes) ≡ b → IsSound g o (with_lane s l (record (s.lanes l) { phase = if b then Staging 0 else Scanning (j + 1); words = [] }))
      go true q = free_turn (Scanning j) (Staging 0) p.tag p.sector [] p.loaded p.got e (free_scanning j) (free_staging 0)
          (λ r lr ne rd eb. absurd (nobody r lr ne (later r lr ne rd eb) q))
          (record { in_range = λ t. never t; same = λ t. never t; bytes = λ t. never t; wrote = λ t. never t; scans = λ i t. cc; stages = λ k t. let z : 0 ≡ k = cc in let w = h.geometry.width in omega arith })
          (stages_fresh g.width _ _ p.phase (Staging 0) p.words [] (λ _. refl) (ap (stored g.width) e) (omega arith) (omega arith) (h.each l ll).stages)
        where
          nobody : (r : ℕ) → r < g.lanes → r ≢ l → j + 1 ≤ place l r → (j + 2 == g.lanes) ≡ true → ⊥
          nobody r lr ne le q = grind arith
      go false q = free_turn (Scanning j) (Scanning (j + 1)) p.tag p.sector [] p.loaded p.got e (free_scanning j) (free_scanning (j + 1))
          (λ r lr ne rd eb. (refl, λ i t. let z : j + 1 ≡ i = cc in let far = later r lr ne rd eb in omega arith))
          (record { in_range = λ t. never t; same = λ t. never t; bytes = λ t. never t; wrote = λ t. never t; scans = λ i t. let z : j + 1 ≡ i = cc in more i z ((h.each l ll).knows.scans j e) q; stages = λ k t. cc })
          (stages_fresh g.width _ _ p.phase (Scanning (j + 1)) p.words [] (λ _. refl) (ap (stored g.width) e) refl refl (h.each l ll).stages)
        where
          more : (i : ℕ) → j + 1 ≡ i → j + 2 ≤ g.lanes → (j + 2 == g.lanes) ≡ false → i + 2 ≤ g.lanes
          more i z le q = grind arith

  -- a call is given up in the phase in which it began
  pub give_up_sound : (ph : Phase) → Free ph → (s.lanes l).phase ≡ ph → stored g.width ph ≡ 0 → IsSound g o (with_lane s l (record (s.lanes l) { phase = Idle }))
  give_up_sound ph f e none =
      let p = s.lanes l in
      free_turn ph Idle p.tag p.sector p.words p.loaded p.got e f free_idle
      (λ r lr ne rd eb. (refl, λ i t. cc))
      (record { in_range = λ t. never t; same = λ t. never t; bytes = λ t. never t; wrote = λ t. never t; scans = λ i t. cc; stages = λ k t. cc })
      (stages_fresh g.width _ _ p.phase Idle p.words p.words (λ t. never t) (ap (stored g.width) e ∙ none) refl refl (h.each l ll).stages)

  pub begin_read_sound : (tag : Tag) (sector : ℕ) → (s.lanes l).phase ≡ Idle → sector < g.sectors → IsSound g o (begin_read g s l tag sector)
  begin_read_sound tag sector e ls =
      let p = s.lanes l in
      free_turn Idle Called tag sector p.words p.loaded p.got e free_idle free_called
      (λ r lr ne rd eb. (refl, λ i t. cc))
      (record { in_range = λ _. ls; same = λ t. never t; bytes = λ t. never t; wrote = λ t. never t; scans = λ i t. cc; stages = λ k t. cc })
      (stages_fresh g.width _ _ p.phase Called p.words p.words (λ t. never t) (ap (stored g.width) e) refl refl (h.each l ll).stages)

  pub look_sound : (s.lanes l).phase ≡ Called
      → has_bytes (kind_in (entry_at s.seen.map_at (s.lanes l).sector)) ≡ true → IsSound g o (look g s l)
  look_sound e bytes =
      let p = s.lanes l in
      free_turn Called Looking p.tag p.sector p.words (s.seen.map_at (p.sector / 2)) p.got e free_called free_looking
      (λ r lr ne rd eb. (refl, λ i t. cc))
      (record { in_range = λ _. (h.each l ll).knows.in_range (ap uses_sector e); same = λ t. never t; bytes = λ _. bytes; wrote = λ t. never t; scans = λ i t. cc; stages = λ k t. cc })
      (stages_fresh g.width _ _ p.phase Looking p.words p.words (λ t. never t) (ap (stored g.width) e) refl refl (h.each l ll).stages)

  -- the writer looks at the map word under its lock
  pub map_load_sound : (s.lanes l).phase ≡ Locked → IsSound g o (map_load g s l)
  map_load_sound e =
      let p = s.lanes l in
      let new : Lane = record (s.lanes l) { phase = Known; loaded = s.seen.map_at (p.sector / 2) } in
      let was = h.each l ll in
      lane_step g o s l new s.readers s.locks h refl
      (locks_same g s.lanes l new s.locks (sym (ap (λ ph. if is_locked ph then suc (lock_of g p.sector) else 0) e)) h.locks)
      (readers_same g s.lanes l new s.readers (sym (ap (λ ph. if is_published ph then suc (looked p) else 0) e)) h.readers)
      (quiet_same g s.lanes l new refl (λ q. never q) (λ _. ap is_filling e) (λ j q. cc) ll h.quiet)
      (map_kept_same g s.lanes l new s.seen.map_at s.kept.map_at (sym (ap (λ ph. if is_switched ph then suc (p.sector / 2) else 0) e)) h.map_kept)
      record {
        stages = stages_as g.width _ _ p.phase Known p.words p.words (λ _. ap has_words e) (ap (stored g.width) e) (ap (saved g.width) e) was.stages;
        knows = record { in_range = λ _. was.knows.in_range (ap uses_sector e); same = λ t. refl; bytes = λ t. never t; wrote = λ t. never t; scans = λ i t. cc; stages = λ k t. cc };
        halves = halves_plain _ _ _ _ _ _ _ _ (s.lanes l).phase Known p.side p.half p.block p.sector p.sector (ap is_log_a_stored e) (ap is_log_b_stored e) (ap is_logged e) refl was.halves;
        sized = was.sized;
        tells = tells_plain g.width _ _ s.history l (s.lanes l).phase Known p.tag p.sector p.tag p.sector p.log p.got p.got (ap is_reading e) refl was.tells;
      }

  pub lock_free_sound : (s.lanes l).phase ≡ Kept → IsSound g o (lock_free g s l)
  lock_free_sound e =
      let p = s.lanes l in
      let new : Lane = record (s.lanes l) { phase = Idle } in
      let was = h.each l ll in
      lane_step g o s l new s.readers (put s.locks (lock_of g p.sector) 0) h refl
      (locks_freed g s.locks s.lanes l new (lock_of g p.sector) ll (ap (λ ph. if is_locked ph then suc (lock_of g p.sector) else 0) e) refl h.locks)
      (readers_same g s.lanes l new s.readers (sym (ap (λ ph. if is_published ph then suc (looked p) else 0) e)) h.readers)
      (quiet_same g s.lanes l new refl (λ q. never q) (λ q. never q) (λ j q. cc) ll h.quiet)
      (map_kept_same g s.lanes l new s.seen.map_at s.kept.map_at (sym (ap (λ ph. if is_switched ph then suc (p.sector / 2) else 0) e)) h.map_kept)
      record {
        stages = stages_as g.width _ _ p.phase Idle p.words p.words (λ t. never t) (ap (stored g.width) e) (ap (saved g.width) e) was.stages;
        knows = record { in_range = λ t. never t; same = λ t. never t; bytes = λ t. never t; wrote = λ t. never t; scans = λ i t. cc; stages = λ k t. cc };
        halves = halves_plain _ _ _ _ _ _ _ _ (s.lanes l).phase Idle p.side p.half p.block p.sector p.sector (ap is_log_a_stored e) (ap is_log_b_stored e) (ap is_logged e) refl was.halves;
        sized = was.sized;
        tells = tells_plain g.width _ _ s.history l (s.lanes l).phase Idle p.tag p.sector p.tag p.sector p.log p.got p.got (ap is_reading e) refl was.tells;
      }

  pub rtt_set_sound : (s.lanes l).phase ≡ Looking → IsSound g o (rtt_set g s l)
  rtt_set_sound e =
      let p = s.lanes l in
      let new : Lane = record (s.lanes l) { phase = Published } in
      let was = h.each l ll in
      lane_step g o s l new (put s.readers l (suc (looked p))) s.locks h refl
      (locks_same g s.lanes l new s.locks (sym (ap (λ ph. if is_locked ph then suc (lock_of g p.sector) else 0) e)) h.locks)
      (readers_put g s.readers s.lanes l new (suc (looked p)) refl h.readers)
      (quiet_same g s.lanes l new refl (λ q. never q) (λ q. never q) (λ j q. cc) ll h.quiet)
      (map_kept_same g s.lanes l new s.seen.map_at s.kept.map_at (sym (ap (λ ph. if is_switched ph then suc (p.sector / 2) else 0) e)) h.map_kept)
      record {
        stages = stages_as g.width _ _ p.phase Published p.words p.words (λ t. never t) (ap (stored g.width) e) (ap (saved g.width) e) was.stages;
        knows = record { in_range = λ _. was.knows.in_range (ap uses_sector e); same = λ t. never t; bytes = λ _. was.knows.bytes (ap is_seeking e); wrote = λ t. never t; scans = λ i t. cc; stages = λ k t. cc };
        halves = halves_plain _ _ _ _ _ _ _ _ (s.lanes l).phase Published p.side p.half p.block p.sector p.sector (ap is_log_a_stored e) (ap is_log_b_stored e) (ap is_logged e) refl was.halves;
        sized = was.sized;
        tells = tells_plain g.width _ _ s.history l (s.lanes l).phase Published p.tag p.sector p.tag p.sector p.log p.got p.got (ap is_reading e) refl was.tells;
      }

  pub check_moved_sound : (s.lanes l).phase ≡ Published → IsSound g o (check_moved g s l)
  check_moved_sound e =
      let p = s.lanes l in
      let new : Lane = record (s.lanes l) { phase = Moved } in
      let was = h.each l ll in
      lane_step g o s l new s.readers s.locks h refl
      (locks_same g s.lanes l new s.locks (sym (ap (λ ph. if is_locked ph then suc (lock_of g p.sector) else 0) e)) h.locks)
      (readers_same g s.lanes l new s.readers (sym (ap (λ ph. if is_published ph then suc (looked p) else 0) e)) h.readers)
      (quiet_same g s.lanes l new refl (λ q. never q) (λ q. never q) (λ j q. cc) ll h.quiet)
      (map_kept_same g s.lanes l new s.seen.map_at s.kept.map_at (sym (ap (λ ph. if is_switched ph then suc (p.sector / 2) else 0) e)) h.map_kept)
      record {
        stages = stages_as g.width _ _ p.phase Moved p.words p.words (λ t. never t) (ap (stored g.width) e) (ap (saved g.width) e) was.stages;
        knows = record { in_range = λ _. was.knows.in_range (ap uses_sector e); same = λ t. never t; bytes = λ t. never t; wrote = λ t. never t; scans = λ i t. cc; stages = λ k t. cc };
        halves = halves_plain _ _ _ _ _ _ _ _ (s.lanes l).phase Moved p.side p.half p.block p.sector p.sector (ap is_log_a_stored e) (ap is_log_b_stored e) (ap is_logged e) refl was.halves;
        sized = was.sized;
        tells = tells_plain g.width _ _ s.history l (s.lanes l).phase Moved p.tag p.sector p.tag p.sector p.log p.got p.got (ap is_reading e) refl was.tells;
      }

  pub clear_moved_sound : (s.lanes l).phase ≡ Moved → IsSound g o (clear_moved g s l)
  clear_moved_sound e =
      let p = s.lanes l in
      let new : Lane = record (s.lanes l) { phase = Called } in
      let was = h.each l ll in
      lane_step g o s l new (put s.readers l 0) s.locks h refl
      (locks_same g s.lanes l new s.locks (sym (ap (λ ph. if is_locked ph then suc (lock_of g p.sector) else 0) e)) h.locks)
      (readers_put g s.readers s.lanes l new 0 refl h.readers)
      (quiet_same g s.lanes l new refl (λ q. never q) (λ q. never q) (λ j q. cc) ll h.quiet)
      (map_kept_same g s.lanes l new s.seen.map_at s.kept.map_at (sym (ap (λ ph. if is_switched ph then suc (p.sector / 2) else 0) e)) h.map_kept)
      record {
        stages = stages_as g.width _ _ p.phase Called p.words p.words (λ t. never t) (ap (stored g.width) e) (ap (saved g.width) e) was.stages;
        knows = record { in_range = λ _. was.knows.in_range (ap uses_sector e); same = λ t. never t; bytes = λ t. never t; wrote = λ t. never t; scans = λ i t. cc; stages = λ k t. cc };
        halves = halves_plain _ _ _ _ _ _ _ _ (s.lanes l).phase Called p.side p.half p.block p.sector p.sector (ap is_log_a_stored e) (ap is_log_b_stored e) (ap is_logged e) refl was.halves;
        sized = was.sized;
        tells = tells_plain g.width _ _ s.history l (s.lanes l).phase Called p.tag p.sector p.tag p.sector p.log p.got p.got (ap is_reading e) refl was.tells;
      }

  pub data_load_sound : (k : ℕ) → (s.lanes l).phase ≡ Reading k → k < g.width → IsSound g o (data_load g s l k)
  data_load_sound k e lt =
      let p = s.lanes l in
      let new : Lane = record (s.lanes l) { phase = Reading (k + 1); got = p.got ++ s.seen.data_at (looked p) k ∷ [] } in
      let was = h.each l ll in
      lane_step g o s l new s.readers s.locks h refl
      (locks_same g s.lanes l new s.locks (sym (ap (λ ph. if is_locked ph then suc (lock_of g p.sector) else 0) e)) h.locks)
      (readers_same g s.lanes l new s.readers (sym (ap (λ ph. if is_published ph then suc (looked p) else 0) e)) h.readers)
      (quiet_same g s.lanes l new refl (λ q. (ap is_reading e, refl)) (λ q. never q) (λ j q. cc) ll h.quiet)
      (map_kept_same g s.lanes l new s.seen.map_at s.kept.map_at (sym (ap (λ ph. if is_switched ph then suc (p.sector / 2) else 0) e)) h.map_kept)
      record {
        stages = stages_as g.width _ _ p.phase (Reading (k + 1)) p.words p.words (λ t. never t) (ap (stored g.width) e) (ap (saved g.width) e) was.stages;
        knows = record { in_range = λ _. was.knows.in_range (ap uses_sector e); same = λ t. never t; bytes = λ t. never t; wrote = λ t. never t; scans = λ i t. cc; stages = λ k t. cc };
        halves = halves_plain _ _ _ _ _ _ _ _ (s.lanes l).phase (Reading (k + 1)) p.side p.half p.block p.sector p.sector (ap is_log_a_stored e) (ap is_log_b_stored e) (ap is_logged e) refl was.halves;
        sized = was.sized;
        tells = record {
          entries = was.tells.entries ∙ ap (λ b. p.log ++ only_if b (open_entry g.width (s.seen.data_at (looked p)) l p.tag p.sector)) (ap is_reading e);
          loaded = λ i t. let z : k + 1 ≡ i = cc in
              subst (λ n. (n ≤ g.width) × (p.got ++ s.seen.data_at (looked p) k ∷ [] ≡ listed n (s.seen.data_at (looked p)))) z
              (omega arith, ap (λ xs. xs ++ s.seen.data_at (looked p) k ∷ []) (was.tells.loaded k e).1 ∙ sym (listed-more k (s.seen.data_at (looked p))));
        };
      }

  pub clear_done_sound : (s.lanes l).phase ≡ Reading g.width → IsSound g o (clear_done g s l)
  clear_done_sound e =
      let p = s.lanes l in
      let new : Lane = record (s.lanes l) { phase = Idle; got = []; log = p.log ++ read l p (cell.Bytes p.got) ∷ [] } in
      let was = h.each l ll in
      lane_step g o s l new (put s.readers l 0) s.locks h refl
      (locks_same g s.lanes l new s.locks (sym (ap (λ ph. if is_locked ph then suc (lock_of g p.sector) else 0) e)) h.locks)
      (readers_put g s.readers s.lanes l new 0 refl h.readers)
      (quiet_same g s.lanes l new refl (λ q. never q) (λ q. never q) (λ j q. cc) ll h.quiet)
      (map_kept_same g s.lanes l new s.seen.map_at s.kept.map_at (sym (ap (λ ph. if is_switched ph then suc (p.sector / 2) else 0) e)) h.map_kept)
      record {
        stages = stages_as g.width _ _ p.phase Idle p.words p.words (λ t. never t) (ap (stored g.width) e) (ap (saved g.width) e) was.stages;
        knows = record { in_range = λ t. never t; same = λ t. never t; bytes = λ t. never t; wrote = λ t. never t; scans = λ i t. cc; stages = λ k t. cc };
        halves = halves_plain _ _ _ _ _ _ _ _ (s.lanes l).phase Idle p.side p.half p.block p.sector p.sector (ap is_log_a_stored e) (ap is_log_b_stored e) (ap is_logged e) refl was.halves;
        sized = was.sized;
        tells = record {
          entries = was.tells.entries ∙ ap (λ b. p.log ++ only_if b (open_entry g.width (s.seen.data_at (looked p)) l p.tag p.sector)) (ap is_reading e)
              ∙ ap (λ ws. p.log ++ read l p (cell.Bytes ws) ∷ []) (sym (was.tells.loaded g.width e).1) ∙ sym (append_none (p.log ++ read l p (cell.Bytes p.got) ∷ []));
          loaded = λ k t. cc;
        };
      }
