-- The steps on the log.
use Rattle.std.proofs.Common.{◌≡◌, ℕ, ◌+◌, ◌/◌, ◌^◌, ◌<◌, ◌≢◌, inr, suc, true, refl, sym, ap, ◌∙◌, subst, arith, if◌then◌else◌}
use Rattle.map_table.specs.Entry.{entry_in}
use Rattle.lane_core.specs.Areas.{put, Geometry, Areas, Half, block_in}
use Rattle.lane_core.specs.Machine.{Phase, Known, LogAStored, LogA, LogBStored, Logged, Lane, State, other, looked, lock_of}
use Rattle.lane_core.specs.Invariant.{Halves, Sized, IsLaneSound, IsSound, is_reading, is_filling, has_words, is_locked, is_switched, is_known, uses_sector, stored, saved, is_published}
use Rattle.lane_core.proofs.Put.{put_at, put_other, put_elim, never}
use Rattle.std.proofs.Common.{subst₂}
use Rattle.lane_core.specs.Areas.{word_a, word_b, next_seq}
use Rattle.lane_core.specs.History.{Cell}
use Rattle.lane_core.specs.Machine.{log_a_store, log_a_keep, log_b_store, log_b_keep}
use Rattle.lane_core.proofs.Frames.{blocks_same, locks_same, readers_same, map_kept_same, quiet_same}
use Rattle.lane_core.proofs.Own.{stages_as, tells_plain, InLog, log_known, log_a_stored, log_a, log_b_stored, log_logged, halves_a_store, halves_a_keep, halves_b_store, halves_b_keep, seeking_known}

module _ (g : Geometry) (o : ℕ → Cell) (s : State) (l : ℕ) (h : IsSound g o s) (ll : l < g.lanes) where
  -- a step that changes words of the lane's own group alone
  log_step : (sa sb ka kb : ℕ → ℕ → ℕ) (ph ph' : Phase) (side : ℕ) (half : Half) → (s.lanes l).phase ≡ ph → InLog ph → InLog ph'
      → ((i : ℕ) → i ≢ l → (sa i ≡ s.seen.log_a i) × (sb i ≡ s.seen.log_b i) × (ka i ≡ s.kept.log_a i) × (kb i ≡ s.kept.log_b i))
      → Halves (sa l) (sb l) (ka l) (kb l) (s.seen.map_at ((s.lanes l).sector / 2)) (s.kept.map_at ((s.lanes l).sector / 2)) ph' side half (s.lanes l).block (s.lanes l).sector
      → Sized g half
      → IsSound g o (record s {
        seen = record (s.seen) { log_a = sa; log_b = sb };
        kept = record (s.kept) { log_a = ka; log_b = kb };
        lanes = put s.lanes l (record (s.lanes l) { phase = ph'; side = side; half = half });
      })
  log_step sa sb ka kb ph ph' side half e f f' rest hal size =
      let p = s.lanes l in
      let new : Lane = record (s.lanes l) { phase = ph'; side = side; half = half } in
      let seen : Areas = record (s.seen) { log_a = sa; log_b = sb } in
      let kept : Areas = record (s.kept) { log_a = ka; log_b = kb } in
      let was = h.each l ll in
      record {
        geometry = h.geometry;
        blocks = blocks_same g s.lanes l new s.seen.map_at refl h.blocks;
        locks = locks_same g s.lanes l new s.locks (ap (λ b. if b then suc (lock_of g p.sector) else 0) (f'.locked ∙ sym (ap is_locked e ∙ f.locked))) h.locks;
        readers = readers_same g s.lanes l new s.readers (ap (λ b. if b then suc (looked p) else 0) (f'.published ∙ sym (ap is_published e ∙ f.published))) h.readers;
        quiet = quiet_same g s.lanes l new refl (λ q. never (sym f'.reading ∙ q)) (λ _. ap is_filling e ∙ f.filling) (λ j q. absurd (f'.scans j q)) ll h.quiet;
        settled = h.settled;
        map_kept = map_kept_same g s.lanes l new s.seen.map_at s.kept.map_at (ap (λ b. if b then suc (p.sector / 2) else 0) (f'.switched ∙ sym (ap is_switched e ∙ f.switched))) h.map_kept;
        each = put_elim (λ i q. i < g.lanes → IsLaneSound g seen kept s.history i q) s.lanes l new
            (λ _. record {
              stages = stages_as g.width _ _ p.phase ph' p.words p.words (λ _. ap has_words e ∙ f.words) (ap (stored g.width) e ∙ f.stored_all g.width ∙ sym (f'.stored_all g.width)) (ap (saved g.width) e ∙ f.saved_all g.width ∙ sym (f'.saved_all g.width)) was.stages;
              knows = record { in_range = λ _. was.knows.in_range (ap uses_sector e ∙ f.uses); same = λ _. was.knows.same (ap is_known e ∙ f.known); bytes = λ t. never (sym (seeking_known ph' t) ∙ f'.known); wrote = λ t. never (sym f'.switched ∙ t); scans = λ j t. absurd (f'.scans j t); stages = λ k t. absurd (f'.stages k t) };
              halves = hal;
              sized = size;
              tells = tells_plain g.width _ _ s.history l p.phase ph' p.tag p.sector p.tag p.sector p.log p.got p.got (ap is_reading e ∙ f.reading) f'.reading was.tells;
            })
            (λ i ne li. let him = s.lanes i in let his = h.each i li in record {
              stages = his.stages;
              knows = his.knows;
              halves = subst₂ (λ a b. Halves a b (ka i) (kb i) (s.seen.map_at (him.sector / 2)) (s.kept.map_at (him.sector / 2)) him.phase him.side him.half him.block him.sector) (sym (rest i ne).0) (sym (rest i ne).1)
                  (subst₂ (λ a b. Halves (s.seen.log_a i) (s.seen.log_b i) a b (s.seen.map_at (him.sector / 2)) (s.kept.map_at (him.sector / 2)) him.phase him.side him.half him.block him.sector) (sym (rest i ne).2) (sym (rest i ne).3) his.halves);
              sized = his.sized;
              tells = his.tells;
            });
        legal = h.legal;
        cells = h.cells;
        known_lanes = h.known_lanes;
      }

  -- the lane's halves, at a phase that is known
  at_phase : (ph : Phase) → (s.lanes l).phase ≡ ph → Halves (s.seen.log_a l) (s.seen.log_b l) (s.kept.log_a l) (s.kept.log_b l) (s.seen.map_at ((s.lanes l).sector / 2)) (s.kept.map_at ((s.lanes l).sector / 2)) ph (s.lanes l).side (s.lanes l).half (s.lanes l).block (s.lanes l).sector
  at_phase ph e = let p = s.lanes l in subst (λ ph. Halves (s.seen.log_a l) (s.seen.log_b l) (s.kept.log_a l) (s.kept.log_b l) (s.seen.map_at (p.sector / 2)) (s.kept.map_at (p.sector / 2)) ph p.side p.half p.block p.sector) e (h.each l ll).halves

  -- what the lane has loaded is the map word
  word_known : is_known (s.lanes l).phase ≡ true → s.seen.map_at ((s.lanes l).sector / 2) ≡ (s.lanes l).loaded
  word_known t = (h.each l ll).knows.same t

  block_fits : (s.lanes l).block < 2 ^ 30
  block_fits = let a = h.geometry.fits in let b = h.blocks.lane_in l ll in omega arith

  sector_fits : is_known (s.lanes l).phase ≡ true → uses_sector (s.lanes l).phase ≡ true → ((s.lanes l).sector < 2 ^ 32) × (looked (s.lanes l) < 2 ^ 30)
  sector_fits t u =
      let a = h.geometry.fits in
      let b = (h.each l ll).knows.in_range u in
      let c = h.blocks.map_in (s.lanes l).sector b in
      (omega arith, subst (λ w. block_in (entry_in w (s.lanes l).sector) (s.lanes l).sector < 2 ^ 30) (word_known t) (omega arith))

  looked_in : is_known (s.lanes l).phase ≡ true → uses_sector (s.lanes l).phase ≡ true → looked (s.lanes l) < g.sectors + g.lanes
  looked_in t u = subst (λ w. block_in (entry_in w (s.lanes l).sector) (s.lanes l).sector < g.sectors + g.lanes) (word_known t) (h.blocks.map_in (s.lanes l).sector ((h.each l ll).knows.in_range u))

  pub log_a_store_sound : (s.lanes l).phase ≡ Known → IsSound g o (log_a_store g s l)
  log_a_store_sound e =
      let p = s.lanes l in
      let v : ℕ = word_a p.sector (looked p) in
      log_step (put s.seen.log_a l (put (s.seen.log_a l) (other p.side) v)) s.seen.log_b s.kept.log_a s.kept.log_b Known LogAStored p.side p.half e log_known log_a_stored
      (λ i ne. (put_other s.seen.log_a l _ i ne, refl, refl, refl))
      (subst (λ r. Halves r (s.seen.log_b l) (s.kept.log_a l) (s.kept.log_b l) (s.seen.map_at (p.sector / 2)) (s.kept.map_at (p.sector / 2)) LogAStored p.side p.half p.block p.sector) (sym (put_at s.seen.log_a l _))
      (subst (λ w. Halves (put (s.seen.log_a l) (other p.side) (word_a p.sector (block_in (entry_in w p.sector) p.sector))) (s.seen.log_b l) (s.kept.log_a l) (s.kept.log_b l) (s.seen.map_at (p.sector / 2)) (s.kept.map_at (p.sector / 2)) LogAStored p.side p.half p.block p.sector) (word_known (ap is_known e))
      (halves_a_store _ _ _ _ _ _ p.side p.half p.block p.sector (at_phase Known e)))) (h.each l ll).sized

  pub log_a_keep_sound : (s.lanes l).phase ≡ LogAStored → IsSound g o (log_a_keep g s l)
  log_a_keep_sound e =
      let p = s.lanes l in
      log_step s.seen.log_a s.seen.log_b (put s.kept.log_a l (put (s.kept.log_a l) (other p.side) (s.seen.log_a l (other p.side)))) s.kept.log_b LogAStored LogA p.side p.half e log_a_stored log_a
      (λ i ne. (refl, refl, put_other s.kept.log_a l _ i ne, refl))
      (subst (λ r. Halves (s.seen.log_a l) (s.seen.log_b l) r (s.kept.log_b l) (s.seen.map_at (p.sector / 2)) (s.kept.map_at (p.sector / 2)) LogA p.side p.half p.block p.sector) (sym (put_at s.kept.log_a l _))
      (halves_a_keep _ _ _ _ _ _ p.side p.half p.block p.sector (at_phase LogAStored e))) (h.each l ll).sized

  pub log_b_store_sound : (s.lanes l).phase ≡ LogA → IsSound g o (log_b_store g s l)
  log_b_store_sound e =
      let p = s.lanes l in
      log_step s.seen.log_a (put s.seen.log_b l (put (s.seen.log_b l) (other p.side) (word_b p.block (next_seq p.half.seq)))) s.kept.log_a s.kept.log_b LogA LogBStored p.side p.half e log_a log_b_stored
      (λ i ne. (refl, put_other s.seen.log_b l _ i ne, refl, refl))
      (subst (λ r. Halves (s.seen.log_a l) r (s.kept.log_a l) (s.kept.log_b l) (s.seen.map_at (p.sector / 2)) (s.kept.map_at (p.sector / 2)) LogBStored p.side p.half p.block p.sector) (sym (put_at s.seen.log_b l _))
      (halves_b_store _ _ _ _ _ _ p.side p.half p.block p.sector (at_phase LogA e))) (h.each l ll).sized

  pub log_b_keep_sound : (s.lanes l).phase ≡ LogBStored → IsSound g o (log_b_keep g s l)
  log_b_keep_sound e =
      let p = s.lanes l in
      let half : ℕ → Half = λ w. record { lba = p.sector; old = block_in (entry_in w p.sector) p.sector; new = p.block; seq = next_seq p.half.seq } in
      log_step s.seen.log_a s.seen.log_b s.kept.log_a (put s.kept.log_b l (put (s.kept.log_b l) (other p.side) (s.seen.log_b l (other p.side)))) LogBStored Logged (other p.side) (half p.loaded) e log_b_stored log_logged
      (λ i ne. (refl, refl, refl, put_other s.kept.log_b l _ i ne))
      (subst (λ r. Halves (s.seen.log_a l) (s.seen.log_b l) (s.kept.log_a l) r (s.seen.map_at (p.sector / 2)) (s.kept.map_at (p.sector / 2)) Logged (other p.side) (half p.loaded) p.block p.sector) (sym (put_at s.kept.log_b l _))
      (subst (λ w. Halves (s.seen.log_a l) (s.seen.log_b l) (s.kept.log_a l) (put (s.kept.log_b l) (other p.side) (s.seen.log_b l (other p.side))) (s.seen.map_at (p.sector / 2)) (s.kept.map_at (p.sector / 2)) Logged (other p.side) (half w) p.block p.sector) (word_known (ap is_known e))
      (halves_b_keep _ _ _ _ _ _ p.side p.half p.block p.sector (sector_fits (ap is_known e) (ap uses_sector e)).0 (subst (λ w. block_in (entry_in w p.sector) p.sector < 2 ^ 30) (sym (word_known (ap is_known e))) (sector_fits (ap is_known e) (ap uses_sector e)).1) block_fits (at_phase LogBStored e))))
      (record { old = looked_in (ap is_known e) (ap uses_sector e); new = h.blocks.lane_in l ll; lba = inr ((h.each l ll).knows.in_range (ap uses_sector e)) })
