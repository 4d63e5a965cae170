-- Lock words, reader words, and a step that changes a lane and no word of the arena.
use Rattle.std.proofs.Common.{◌≡◌, ℕ, ◌<◌, ◌≢◌, inl, inr, suc, sym, ap, ◌∙◌, subst, arith}
use Rattle.lane_core.specs.Areas.{put, Geometry}
use Rattle.lane_core.specs.Machine.{Lane, State}
use Rattle.lane_core.specs.Invariant.{Locks, Readers, Quiet, MapKept, IsLaneSound, IsSound, claim, notice}
use Rattle.lane_core.proofs.Put.{put_at, put_other, put_elim, same_or_not}
use Rattle.lane_core.specs.History.{Cell}
use Rattle.lane_core.proofs.Frames.{blocks_same}

suc_not_zero : (n : ℕ) → 0 ≡ suc n → {A : Type 0} → A
suc_not_zero n e = absurd (omega arith)

module _ (g : Geometry) (locks : ℕ → ℕ) (lanes : ℕ → Lane) (l : ℕ) (new : Lane) (k : ℕ) where
  pub locks_taken : l < g.lanes → locks k ≡ 0 → claim g (lanes l) ≡ 0 → claim g new ≡ suc k → Locks g locks lanes → Locks g (put locks k (suc l)) (put lanes l new)
  locks_taken ll free idle takes h =
      record {
        taken = λ i c. put_elim (λ i q. i < g.lanes → claim g q ≡ suc c → put locks k (suc l) c ≡ suc i) lanes l new
            (λ li e. subst (λ c. put locks k (suc l) c ≡ suc l) (the_lock c e) (put_at locks k (suc l)))
            (λ i ne li e. put_other locks k (suc l) c (λ q. suc_not_zero i (sym free ∙ ap locks (sym q) ∙ h.taken i c li e)) ∙ h.taken i c li e) i;
        holder = λ i c lc e. elim (same_or_not c k) [
          | inl q ↦ subst (λ i. (i < g.lanes) × (claim g (put lanes l new i) ≡ suc c)) (the_lane i c q e) (ll, subst (λ p. claim g p ≡ suc c) (sym (put_at lanes l new)) (takes ∙ ap suc (sym q)))
          | inr ne ↦ old i c lc (sym (put_other locks k (suc l) c ne) ∙ e)
        ];
      }
    where
      the_lock : (c : ℕ) → claim g new ≡ suc c → k ≡ c
      the_lock c e = cc

      the_lane : (i c : ℕ) → c ≡ k → put locks k (suc l) c ≡ suc i → l ≡ i
      the_lane i c q e = cc (put_at locks k (suc l))

      old : (i c : ℕ) → c < g.lanes → locks c ≡ suc i → (i < g.lanes) × (claim g (put lanes l new i) ≡ suc c)
      old i c lc e =
          let was = h.holder i c lc e in
          (was.0, ap (claim g) (put_other lanes l new i (λ q. suc_not_zero c (sym idle ∙ ap (λ i. claim g (lanes i)) (sym q) ∙ was.1))) ∙ was.1)

  pub locks_freed : l < g.lanes → claim g (lanes l) ≡ suc k → claim g new ≡ 0 → Locks g locks lanes → Locks g (put locks k 0) (put lanes l new)
  locks_freed ll had idle h =
      record {
        taken = λ i c. put_elim (λ i q. i < g.lanes → claim g q ≡ suc c → put locks k 0 c ≡ suc i) lanes l new
            (λ li e. suc_not_zero c (sym idle ∙ e))
            (λ i ne li e. put_other locks k 0 c (λ q. ne (same_lane i c q (h.taken i c li e))) ∙ h.taken i c li e) i;
        holder = λ i c lc e. elim (same_or_not c k) [
          | inl q ↦ suc_not_zero i (sym (put_at locks k 0) ∙ ap (put locks k 0) (sym q) ∙ e)
          | inr ne ↦ old i c ne lc (sym (put_other locks k 0 c ne) ∙ e)
        ];
      }
    where
      same_lane : (i c : ℕ) → c ≡ k → locks c ≡ suc i → i ≡ l
      same_lane i c q e = cc (h.taken l k ll had)

      same_lock : (i c : ℕ) → i ≡ l → claim g (lanes i) ≡ suc c → c ≡ k
      same_lock i c q e = cc

      old : (i c : ℕ) → c ≢ k → c < g.lanes → locks c ≡ suc i → (i < g.lanes) × (claim g (put lanes l new i) ≡ suc c)
      old i c ne lc e =
          let was = h.holder i c lc e in
          (was.0, ap (claim g) (put_other lanes l new i (λ q. ne (same_lock i c q was.1))) ∙ was.1)

-- a lane's own reader word
pub readers_put : (g : Geometry) (readers : ℕ → ℕ) (lanes : ℕ → Lane) (l : ℕ) (new : Lane) (v : ℕ) → v ≡ notice new → Readers g readers lanes → Readers g (put readers l v) (put lanes l new)
readers_put g readers lanes l new v e h =
    put_elim (λ i q. i < g.lanes → put readers l v i ≡ notice q) lanes l new
    (λ li. put_at readers l v ∙ e)
    (λ i ne li. put_other readers l v i ne ∙ h i li)

-- a step that changes a lane, a lock or a reader word, and no word of the arena
pub lane_step : (g : Geometry) (o : ℕ → Cell) (s : State) (l : ℕ) (new : Lane) (readers locks : ℕ → ℕ) → IsSound g o s → new.block ≡ (s.lanes l).block
    → Locks g locks (put s.lanes l new) → Readers g readers (put s.lanes l new) → Quiet g (put s.lanes l new) → MapKept g s.seen.map_at s.kept.map_at (put s.lanes l new)
    → IsLaneSound g s.seen s.kept s.history l new → IsSound g o (record s { readers = readers; locks = locks; lanes = put s.lanes l new })
lane_step g o s l new readers locks h eb hl hr hq hm own =
    record {
      geometry = h.geometry;
      blocks = blocks_same g s.lanes l new s.seen.map_at eb h.blocks;
      locks = hl;
      readers = hr;
      quiet = hq;
      settled = h.settled;
      map_kept = hm;
      each = put_elim (λ i q. i < g.lanes → IsLaneSound g s.seen s.kept s.history i q) s.lanes l new (λ _. own) (λ i ne. h.each i);
      legal = h.legal;
      cells = h.cells;
      known_lanes = h.known_lanes;
    }
