-- An opened arena meets the invariant.
use Rattle.std.proofs.Common.{◌≡◌, ℕ, ◌+◌, ◌<◌, inl, suc, refl, arith, List, sym, ap, ◌∙◌, subst}
use Rattle.lane_core.specs.Areas.{Geometry, Areas, Half, mapped, entry_at, block_in, half_in, IsNewer, seq_in}
use Rattle.lane_core.specs.History.{of_lane, Cell, cell_in}
use Rattle.lane_core.specs.Invariant.{IsSound, Sized}
use Rattle.lane_core.specs.Machine.{State, other}
use Rattle.lane_core.proofs.Put.{never}
use Rattle.lane_core.specs.History.{cell_of, end_of, IsLegal}
use Rattle.lane_core.specs.Cut.{IsCurrent, AreLeft, IsRecoverable, half_at, recovered_entry, Survives}
use Rattle.lane_core.specs.Opening.{opened, IsOpen}
use Rattle.lane_core.specs.Runs.{Event, run, AllFit}
use Rattle.lane_core.proofs.Whole.{run_sound}
use Rattle.lane_core.proofs.Recovering.{recovers}
use Rattle.lane_core.proofs.Cutting.{some_side}

pub opened_sound : (g : Geometry) (areas : Areas) (sides : ℕ → ℕ) → IsOpen g areas sides → IsSound g (cell_of g areas.data_at areas.map_at) (opened areas sides)
unfolding end_of IsLegal of_lane
opened_sound g areas sides h =
    record {
      geometry = h.geometry;
      blocks = record { map_in = h.once.sector_in; lane_in = h.once.lane_in; map_once = h.once.sector_once; lane_once = h.once.lane_once; apart = h.once.apart };
      locks = record { taken = λ l k ll e. absurd (no_suc k e); holder = λ l k lk e. absurd (no_suc l e) };
      readers = λ l ll. refl;
      quiet = record { still = λ r w lr lw ne rd e. refl; unscanned = λ r w j lr lw ne rd e t. cc };
      settled = λ t j lt lj. refl;
      map_kept = λ m. inl refl;
      each = λ l ll. record {
        stages = record { size = λ t. never t; seen_words = λ j lj. absurd (omega arith); kept_words = λ j lj. absurd (omega arith); clean = λ j lj le. refl };
        knows = record { in_range = λ t. never t; same = λ t. never t; bytes = λ t. never t; wrote = λ t. never t; scans = λ j t. cc; stages = λ k t. cc };
        halves = record {
          two = (h.current l ll).two;
          current_a = refl;
          current_b = refl;
          other_a = λ t. refl;
          other_b = λ t. refl;
          current = refl;
          newer = (h.current l ll).newer;
          old = λ t. refl;
          logged = λ t. never t;
          switched = λ t. never t;
          switched_rest = λ t. never t;
          named_a = λ t. never t;
          named_b = λ t. never t;
        };
        sized = h.sized l ll;
        tells = record { entries = refl; loaded = λ k t. cc };
      };
      legal = tt;
      cells = λ t lt. refl;
      known_lanes = λ l gl. refl;
    }
  where
    no_suc : (k : ℕ) → 0 ≡ suc k → ⊥
    no_suc k e = omega arith

-- whatever lanes do after opening, and whenever power is cut then
pub every_cut : (g : Geometry) (areas : Areas) (sides : ℕ → ℕ) (events : List Event) (left : Areas) → IsOpen g areas sides → AllFit g events → AreLeft g (run g (opened areas sides) events).seen (run g (opened areas sides) events).kept left
    → ((l : ℕ) → l < g.lanes → (side : ℕ) × IsCurrent left l side)
    × ((after : ℕ → ℕ) → ((l : ℕ) → l < g.lanes → IsCurrent left l (after l)) → IsRecoverable g (cell_of g areas.data_at areas.map_at) (run g (opened areas sides) events) left after)
every_cut g areas sides events left h f hl =
    let s = run g (opened areas sides) events in
    let o = cell_of g areas.data_at areas.map_at in
    let sound = run_sound g o (opened areas sides) events (opened_sound g areas sides h) f in
    (λ l ll. let x = some_side g o s sound left hl l ll in (x.0, x.1), λ after hs. recovers g o s sound left hl after hs)

-- Opening after a power cut: if the map has the recovered entries, the arena is open again, and its
-- cells are those that survive
pub reopened : (g : Geometry) (o : ℕ → Cell) (s : State) (left again : Areas) (sides : ℕ → ℕ) → IsSound g o s → AreLeft g s.seen s.kept left → ((l : ℕ) → l < g.lanes → IsCurrent left l (sides l))
    → again.log_a ≡ left.log_a → again.log_b ≡ left.log_b → again.data_at ≡ left.data_at → ((t : ℕ) → t < g.sectors → entry_at again.map_at t ≡ recovered_entry left sides g.lanes t)
    → IsOpen g again sides × ((t : ℕ) → t < g.sectors → Survives g o s t (cell_of g again.data_at again.map_at t))
reopened g o s left again sides h hl hs ea eb ed em =
    let r = recovers g o s h left hl sides hs in
    let same : (t : ℕ) → t < g.sectors → mapped again.map_at t ≡ block_in (recovered_entry left sides g.lanes t) t = λ t lt. ap (λ e. block_in e t) (em t lt) in
    let half : (l : ℕ) → half_at again l (sides l) ≡ half_at left l (sides l) = λ l. ap (λ f. half_in (f l (sides l)) (again.log_b l (sides l))) ea ∙ ap (λ f. half_in (left.log_a l (sides l)) (f l (sides l))) eb in (
      record {
        geometry = h.geometry;
        current = λ l ll. record { two = (hs l ll).two; newer = subst (λ f. IsNewer (seq_in (f l (sides l))) (seq_in (f l (other (sides l))))) (sym eb) (hs l ll).newer };
        sized = λ l ll. subst (Sized g) (sym (half l)) (r.sized l ll);
        once = record {
          sector_in = λ t lt. subst (λ b. b < g.sectors + g.lanes) (sym (same t lt)) (r.sound.sector_in t lt);
          lane_in = λ l ll. subst (λ (x : Half). x.old < g.sectors + g.lanes) (sym (half l)) (r.sound.lane_in l ll);
          sector_once = λ t u lt lu e. r.sound.sector_once t u lt lu (sym (same t lt) ∙ e ∙ same u lu);
          lane_once = λ l m ll lm e. r.sound.lane_once l m ll lm (sym (ap (λ (x : Half). x.old) (half l)) ∙ e ∙ ap (λ (x : Half). x.old) (half m));
          apart = λ t l lt ll e. r.sound.apart t l lt ll (sym (same t lt) ∙ e ∙ ap (λ (x : Half). x.old) (half l));
        };
      },
      λ t lt. subst (Survives g o s t) (ap (λ d. cell_in g.width d (recovered_entry left sides g.lanes t) t) (sym ed) ∙ ap (λ e. cell_in g.width again.data_at e t) (sym (em t lt))) (r.contents t lt),
    )
