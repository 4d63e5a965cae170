-- The steps at which a read enters the history.
use Rattle.std.proofs.Common.{◌≡◌, ℕ, ◌/◌, ◌<◌, ◌≤◌, suc, refl, sym, ap, ◌∙◌, subst, arith, if◌then◌else◌, List, [], ◌∷◌, ◌++◌}
use Rattle.map_table.specs.Entry.{entry_in}
use Rattle.lane_core.specs.Areas.{put, Geometry, block_in, entry_at}
use Rattle.lane_core.specs.History.{Entry, listed, end_of}
use Rattle.lane_core.specs.Machine.{Idle, Called, Published, Reading, Lane, State, looked, lock_of}
use Rattle.lane_core.specs.Invariant.{Quiet, IsLaneSound, IsSound, claim, notice, switching, is_reading, is_locked, is_logged, is_switched, is_log_a_stored, is_log_b_stored, is_seeking, uses_sector, only_if, open_entry, stored, saved, is_published}
use Rattle.lane_core.proofs.Put.{put_elim, never}
use Rattle.lane_core.specs.History.{Cell, cell_in, cell_of}
use Rattle.lane_core.specs.Machine.{look_cell, check_same, read}
use Rattle.lane_core.proofs.Frames.{blocks_same, locks_same, readers_same, map_kept_same, quiet_same, quiet_put}
use Rattle.lane_core.proofs.Own.{stages_as, halves_plain}
use Rattle.lane_core.proofs.Past.{after_same, end_of-grown, legal_grown, of_lane-other, of_lane-own, append_none, cell_in-bytes}
use Rattle.arena_open.specs.declared.cell.Cell.TheVariants as cell

module _ (g : Geometry) (o : ℕ → Cell) (s : State) (l : ℕ) (h : IsSound g o s) (ll : l < g.lanes) where
  -- a step at which a read with the present cell enters the history
  read_step : (new : Lane) (c : Cell) → new.block ≡ (s.lanes l).block → (s.lanes l).sector < g.sectors → c ≡ cell_of g s.seen.data_at s.seen.map_at (s.lanes l).sector
      → claim g new ≡ claim g (s.lanes l) → notice new ≡ notice (s.lanes l) → switching new ≡ switching (s.lanes l)
      → Quiet g (put s.lanes l new) → IsLaneSound g s.seen s.kept (s.history ++ read l (s.lanes l) c ∷ []) l new
      → IsSound g o (record s { lanes = put s.lanes l new; history = s.history ++ read l (s.lanes l) c ∷ [] })
  read_step new c eb ls ec el en es quiet own =
      let entry : Entry = read l (s.lanes l) c in
      record {
        geometry = h.geometry;
        blocks = blocks_same g s.lanes l new s.seen.map_at eb h.blocks;
        locks = locks_same g s.lanes l new s.locks el h.locks;
        readers = readers_same g s.lanes l new s.readers en h.readers;
        quiet = quiet;
        settled = h.settled;
        map_kept = map_kept_same g s.lanes l new s.seen.map_at s.kept.map_at es h.map_kept;
        each = put_elim (λ i q. i < g.lanes → IsLaneSound g s.seen s.kept (s.history ++ entry ∷ []) i q) s.lanes l new (λ _. own)
            (λ i ne li. let his = h.each i li in record {
              stages = his.stages;
              knows = his.knows;
              halves = his.halves;
              sized = his.sized;
              tells = record { entries = of_lane-other i s.history entry (λ q. ne (sym q)) ∙ his.tells.entries; loaded = his.tells.loaded };
            });
        legal = legal_grown o s.history entry h.legal (ec ∙ sym (h.cells (s.lanes l).sector ls));
        cells = λ t lt. ap (λ x. x t) (end_of-grown o s.history entry ∙ after_same (end_of o s.history) entry refl) ∙ h.cells t lt;
        known_lanes = λ i gi. of_lane-other i s.history entry (λ q. absurd (omega (arith, q))) ∙ h.known_lanes i gi;
      }

  pub look_cell_sound : (c : Cell) → (s.lanes l).phase ≡ Called → c ≡ cell_of g s.seen.data_at s.seen.map_at (s.lanes l).sector → IsSound g o (look_cell g s l c)
  look_cell_sound c e ec =
      let p = s.lanes l in
      let entry : Entry = read l (s.lanes l) c in
      let new : Lane = record (s.lanes l) { phase = Idle; log = (s.lanes l).log ++ entry ∷ [] } in
      let was = h.each l ll in
      read_step new c refl (was.knows.in_range (ap uses_sector e)) ec
      (sym (ap (λ ph. if is_locked ph then suc (lock_of g p.sector) else 0) e))
      (sym (ap (λ ph. if is_published ph then suc (looked p) else 0) e))
      (sym (ap (λ ph. if is_switched ph then suc (p.sector / 2) else 0) e))
      (quiet_same g s.lanes l new refl (λ q. never q) (λ q. never q) (λ j q. cc) ll h.quiet)
      record {
        stages = stages_as g.width _ _ p.phase Idle p.words p.words (λ t. never t) (ap (stored g.width) e) (ap (saved g.width) e) was.stages;
        knows = record { in_range = λ t. never t; same = λ t. never t; bytes = λ t. never t; wrote = λ t. never t; scans = λ i t. cc; stages = λ k t. cc };
        halves = halves_plain _ _ _ _ _ _ _ _ p.phase Idle p.side p.half p.block p.sector p.sector (ap is_log_a_stored e) (ap is_log_b_stored e) (ap is_logged e) refl was.halves;
        sized = was.sized;
        tells = record {
          entries = of_lane-own l s.history entry refl ∙ ap (λ xs. xs ++ entry ∷ []) (was.tells.entries ∙ ap (λ b. p.log ++ only_if b (open_entry g.width (s.seen.data_at (looked p)) l p.tag p.sector)) (ap is_reading e) ∙ append_none p.log)
              ∙ sym (append_none (p.log ++ entry ∷ []));
          loaded = λ k t. cc;
        };
      }

  -- the sector's entry is the one that was loaded
  pub check_same_sound : (s.lanes l).phase ≡ Published → entry_at s.seen.map_at (s.lanes l).sector ≡ entry_in (s.lanes l).loaded (s.lanes l).sector → IsSound g o (check_same g s l)
  unfolding listed
  check_same_sound e q =
      let p = s.lanes l in
      let row = s.seen.data_at (looked p) in
      let c : Cell = cell.Bytes (listed g.width row) in
      let entry : Entry = read l (s.lanes l) c in
      let new : Lane = record (s.lanes l) { phase = Reading 0; got = [] } in
      let was = h.each l ll in
      let ls = was.knows.in_range (ap uses_sector e) in
      read_step new c refl ls
      (sym (ap (λ x. cell_in g.width s.seen.data_at x p.sector) q ∙ cell_in-bytes g.width s.seen.data_at (entry_in p.loaded p.sector) p.sector (was.knows.bytes (ap is_seeking e))))
      (sym (ap (λ ph. if is_locked ph then suc (lock_of g p.sector) else 0) e))
      (sym (ap (λ ph. if is_published ph then suc (looked p) else 0) e))
      (sym (ap (λ ph. if is_switched ph then suc (p.sector / 2) else 0) e))
      (quiet_put g s.lanes l new
      (λ w lw wl t eb. absurd (h.blocks.apart p.sector w ls lw (ap (λ x. block_in x p.sector) q ∙ eb)))
      (λ r lr ne rd eb. (refl, λ j t. cc)) h.quiet)
      record {
        stages = stages_as g.width _ _ p.phase (Reading 0) p.words p.words (λ t. never t) (ap (stored g.width) e) (ap (saved g.width) e) was.stages;
        knows = record { in_range = λ _. ls; same = λ t. never t; bytes = λ t. never t; wrote = λ t. never t; scans = λ i t. cc; stages = λ k t. cc };
        halves = halves_plain _ _ _ _ _ _ _ _ p.phase (Reading 0) p.side p.half p.block p.sector p.sector (ap is_log_a_stored e) (ap is_log_b_stored e) (ap is_logged e) refl was.halves;
        sized = was.sized;
        tells = record {
          entries = of_lane-own l s.history entry refl ∙ ap (λ xs. xs ++ entry ∷ []) (was.tells.entries ∙ ap (λ b. p.log ++ only_if b (open_entry g.width row l p.tag p.sector)) (ap is_reading e) ∙ append_none p.log);
          loaded = λ k t. let z : 0 ≡ k = cc in subst (λ n. (n ≤ g.width) × (nothing ≡ listed n row)) z (omega arith, sym (listed-none row));
        };
      }
    where
      nothing : List ℕ
      nothing = []

      listed-none : (f : ℕ → ℕ) → listed 0 f ≡ nothing
      listed-none f = refl
