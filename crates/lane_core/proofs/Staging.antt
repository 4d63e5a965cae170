-- Words are stored in the lane's block, and kept.
use Rattle.std.proofs.Common.{◌≡◌, ℕ, ◌+◌, ◌-◌, ◌*◌, ◌/◌, ◌<◌, ◌≤◌, ◌≢◌, ◌==◌, suc, Bool, true, false, refl, sym, ap, ◌∙◌, subst, arith, if◌then◌else◌, [], ◌∷◌, ◌++◌}
use Rattle.lane_core.specs.Areas.{put, Geometry, Areas, mapped, entry_at, store_data}
use Rattle.lane_core.specs.Machine.{Phase, Scanning, Staging, Staged, Lane, State, looked, lock_of}
use Rattle.lane_core.specs.Invariant.{Stages, IsLaneSound, IsSound, is_reading, is_filling, is_locked, is_logged, is_switched, is_log_a_stored, is_log_b_stored, uses_sector, is_published}
use Rattle.lane_core.proofs.Put.{put_at, put_other, put_elim, never}
use Rattle.lane_core.specs.Machine.{data_store, data_keep}
use Rattle.lane_core.specs.History.{Cell}
use Rattle.lane_core.proofs.Past.{cell_in-row}
use Rattle.lane_core.proofs.Frames.{blocks_same, locks_same, readers_same, map_kept_same, quiet_same, tells_row}
use Rattle.lane_core.proofs.Own.{halves_plain, tells_plain, stages_store, stages_keep, stages_done, Free, free_staging, free_staged, seeking_uses}

module _ (g : Geometry) (o : ℕ → Cell) (s : State) (l k w : ℕ) where
  pub data_store_sound : IsSound g o s → l < g.lanes → (s.lanes l).phase ≡ Staging k → k < g.width → IsSound g o (data_store g s l k w)
  data_store_sound h ll e lt =
      record {
        geometry = h.geometry;
        blocks = blocks_same g s.lanes l new s.seen.map_at refl h.blocks;
        locks = locks_same g s.lanes l new s.locks (sym (ap (λ ph. if is_locked ph then suc (lock_of g p.sector) else 0) e)) h.locks;
        readers = readers_same g s.lanes l new s.readers (sym (ap (λ ph. if is_published ph then suc (looked p) else 0) e)) h.readers;
        quiet = quiet_same g s.lanes l new refl (λ q. never q) (λ _. ap is_filling e) (λ j q. cc) ll h.quiet;
        settled = λ t j lt lj. h.settled t j lt lj ∙ sym (ap (λ r. r j) (row_of t lt));
        map_kept = map_kept_same g s.lanes l new s.seen.map_at s.kept.map_at (sym (ap (λ ph. if is_switched ph then suc (p.sector / 2) else 0) e)) h.map_kept;
        each = put_elim (λ i q. i < g.lanes → IsLaneSound g seen s.kept s.history i q) s.lanes l new (λ _. own) others;
        legal = h.legal;
        cells = λ t lt. h.cells t lt ∙ cell_in-row g.width s.seen.data_at seen.data_at (entry_at s.seen.map_at t) t (row_of t lt);
        known_lanes = h.known_lanes;
      }
    where
      p : Lane
      p = s.lanes l

      new : Lane
      new = record (s.lanes l) { phase = Staging (k + 1); words = (s.lanes l).words ++ w ∷ [] }

      seen : Areas
      seen = store_data s.seen (s.lanes l).block k w

      row_of : (t : ℕ) → t < g.sectors → seen.data_at (mapped s.seen.map_at t) ≡ s.seen.data_at (mapped s.seen.map_at t)
      row_of t lt = put_other s.seen.data_at p.block _ (mapped s.seen.map_at t) (h.blocks.apart t l lt ll)

      was : IsLaneSound g s.seen s.kept s.history l (s.lanes l)
      was = h.each l ll

      own : IsLaneSound g seen s.kept s.history l new
      own =
          record {
            stages = subst (λ r. Stages g.width r (s.kept.data_at p.block) (Staging (k + 1)) (p.words ++ w ∷ [])) (sym (put_at s.seen.data_at p.block _))
                (stages_store g.width _ _ p.words k w lt (subst (λ ph. Stages g.width (s.seen.data_at p.block) (s.kept.data_at p.block) ph p.words) e was.stages));
            knows = record { in_range = λ t. never t; same = λ t. never t; bytes = λ t. never t; wrote = λ t. never t; scans = λ j t. cc; stages = λ j t. let q : k + 1 ≡ j = cc in omega arith };
            halves = halves_plain _ _ _ _ _ _ _ _ (s.lanes l).phase (Staging (k + 1)) p.side p.half p.block p.sector p.sector (ap is_log_a_stored e) (ap is_log_b_stored e) (ap is_logged e) refl was.halves;
            sized = was.sized;
            tells = tells_plain g.width _ _ s.history l (s.lanes l).phase (Staging (k + 1)) p.tag p.sector p.tag p.sector p.log p.got p.got (ap is_reading e) refl was.tells;
          }

      others : (i : ℕ) → i ≢ l → i < g.lanes → IsLaneSound g seen s.kept s.history i (s.lanes i)
      others i ne li =
          let him = s.lanes i in
          let his = h.each i li in
          record {
            stages = subst (λ r. Stages g.width r (s.kept.data_at him.block) him.phase him.words)
                (sym (put_other s.seen.data_at p.block _ him.block (λ q. ne (h.blocks.lane_once i l li ll q)))) his.stages;
            knows = his.knows;
            halves = his.halves;
            sized = his.sized;
            tells = tells_row g.width _ _ s.history i him.phase him.tag him.sector him.log him.got
                (λ rd. put_other s.seen.data_at p.block _ (looked him) (λ q. never (sym (h.quiet.still i l li ll ne rd q) ∙ ap is_filling e))) his.tells;
          }

module _ (g : Geometry) (o : ℕ → Cell) (s : State) (l k : ℕ) where
  pub data_keep_sound : IsSound g o s → l < g.lanes → (s.lanes l).phase ≡ Staging k → g.width ≤ k → IsSound g o (data_keep g s l k)
  data_keep_sound h ll e le = go (k + 1 == 2 * g.width) refl
    where
      p : Lane
      p = s.lanes l

      at : ℕ
      at = k - g.width

      kept : Areas
      kept = store_data s.kept (s.lanes l).block (k - g.width) (s.seen.data_at (s.lanes l).block (k - g.width))

      was : IsLaneSound g s.seen s.kept s.history l (s.lanes l)
      was = h.each l ll

      next : Stages g.width (s.seen.data_at p.block) (kept.data_at p.block) (Staging (k + 1)) p.words
      next = subst (λ r. Stages g.width (s.seen.data_at p.block) r (Staging (k + 1)) p.words) (sym (put_at s.kept.data_at p.block _))
          (stages_keep g.width _ _ p.words k (was.knows.stages k e) le (subst (λ ph. Stages g.width (s.seen.data_at p.block) (s.kept.data_at p.block) ph p.words) e was.stages))

      others : (i : ℕ) → i ≢ l → i < g.lanes → IsLaneSound g s.seen kept s.history i (s.lanes i)
      others i ne li =
          let him = s.lanes i in
          let his = h.each i li in
          record {
            stages = subst (λ r. Stages g.width (s.seen.data_at him.block) r him.phase him.words)
                (sym (put_other s.kept.data_at p.block _ him.block (λ q. ne (h.blocks.lane_once i l li ll q)))) his.stages;
            knows = his.knows;
            halves = his.halves;
            sized = his.sized;
            tells = his.tells;
          }

      to : (ph' : Phase) → Free ph' → is_filling ph' ≡ true → uses_sector ph' ≡ false → ((j : ℕ) → ph' ≡ Scanning j → ⊥) → ((j : ℕ) → ph' ≡ Staging j → j < 2 * g.width)
          → Stages g.width (s.seen.data_at p.block) (kept.data_at p.block) ph' p.words → IsSound g o (record s { kept = kept; lanes = put s.lanes l (record (s.lanes l) { phase = ph' }) })
      to ph' f ef eu ej ek st =
          let new : Lane = record (s.lanes l) { phase = ph' } in
          record {
            geometry = h.geometry;
            blocks = blocks_same g s.lanes l new s.seen.map_at refl h.blocks;
            locks = locks_same g s.lanes l new s.locks (ap (λ b. if b then suc (lock_of g p.sector) else 0) (f.locked ∙ sym (ap is_locked e))) h.locks;
            readers = readers_same g s.lanes l new s.readers (ap (λ b. if b then suc (looked p) else 0) (f.published ∙ sym (ap is_published e))) h.readers;
            quiet = quiet_same g s.lanes l new refl (λ q. never (sym f.reading ∙ q)) (λ _. ap is_filling e) (λ j q. absurd (ej j q)) ll h.quiet;
            settled = λ t j lt lj. ap (λ r. r j) (put_other s.kept.data_at p.block _ (mapped s.seen.map_at t) (h.blocks.apart t l lt ll)) ∙ h.settled t j lt lj;
            map_kept = map_kept_same g s.lanes l new s.seen.map_at s.kept.map_at (ap (λ b. if b then suc (p.sector / 2) else 0) (f.switched ∙ sym (ap is_switched e))) h.map_kept;
            each = put_elim (λ i q. i < g.lanes → IsLaneSound g s.seen kept s.history i q) s.lanes l new
                (λ _. record {
                  stages = st;
                  knows = record { in_range = λ t. never (sym eu ∙ t); same = λ t. never (sym f.known ∙ t); bytes = λ t. never (sym eu ∙ seeking_uses ph' t); wrote = λ t. never (sym f.switched ∙ t); scans = λ j t. absurd (ej j t); stages = ek };
                  halves = halves_plain _ _ _ _ _ _ _ _ (s.lanes l).phase ph' p.side p.half p.block p.sector p.sector (ap is_log_a_stored e) (ap is_log_b_stored e) (ap is_logged e) f.plain was.halves;
                  sized = was.sized;
                  tells = tells_plain g.width _ _ s.history l (s.lanes l).phase ph' p.tag p.sector p.tag p.sector p.log p.got p.got (ap is_reading e) f.reading was.tells;
                }) others;
            legal = h.legal;
            cells = h.cells;
            known_lanes = h.known_lanes;
          }

      go : (b : Bool) → (k + 1 == 2 * g.width) ≡ b → IsSound g o (record s { kept = kept; lanes = put s.lanes l (record (s.lanes l) { phase = if b then Staged else Staging (k + 1) }) })
      go true q = to Staged free_staged refl refl (λ j t. cc) (λ j t. cc) (stages_done g.width _ _ p.words (k + 1) (at_end q) next)
        where
          at_end : (k + 1 == 2 * g.width) ≡ true → k + 1 ≡ 2 * g.width
          at_end q = grind arith
      go false q = to (Staging (k + 1)) (free_staging (k + 1)) refl refl (λ j t. cc) (λ j t. let z : k + 1 ≡ j = cc in more j z (was.knows.stages k e) q) next
        where
          more : (j : ℕ) → k + 1 ≡ j → k < 2 * g.width → (k + 1 == 2 * g.width) ≡ false → j < 2 * g.width
          more j z lt q = grind arith
