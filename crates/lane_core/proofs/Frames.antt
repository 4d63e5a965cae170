-- Each part of the invariant survives a change elsewhere.
use Rattle.std.proofs.Common.{◌≡◌, ℕ, ◌+◌, ◌<◌, ◌≤◌, ◌≢◌, inl, inr, Bool, true, false, refl, sym, ap, ◌∙◌, subst, arith, List, [], ◌∷◌, ◌++◌}
use Rattle.lane_core.specs.Areas.{put, Geometry}
use Rattle.lane_core.specs.History.{Entry, listed}
use Rattle.lane_core.specs.Machine.{Phase, Scanning, Lane, looked}
use Rattle.lane_core.specs.Invariant.{Blocks, Locks, Readers, Quiet, MapKept, Tells, claim, notice, switching, is_reading, is_filling, place, only_if, open_entry}
use Rattle.lane_core.proofs.Put.{put_elim, put_same, never}
use Rattle.nvd_words.specs.declared.tag.Tag.{Tag}

module _ (g : Geometry) (lanes : ℕ → Lane) (l : ℕ) (p : Lane) where
  pub blocks_same : (map : ℕ → ℕ) → p.block ≡ (lanes l).block → Blocks g map lanes → Blocks g map (put lanes l p)
  blocks_same map e h =
      let same = put_same (λ (q : Lane). q.block) lanes l p e in
      record {
        map_in = h.map_in;
        lane_in = λ i lt. subst (λ b. b < g.sectors + g.lanes) (sym (same i)) (h.lane_in i lt);
        map_once = h.map_once;
        lane_once = λ i j li lj q. h.lane_once i j li lj (sym (same i) ∙ q ∙ same j);
        apart = λ s i ls li q. h.apart s i ls li (q ∙ same i);
      }

  pub locks_same : (locks : ℕ → ℕ) → claim g p ≡ claim g (lanes l) → Locks g locks lanes → Locks g locks (put lanes l p)
  locks_same locks e h =
      let same = put_same (claim g) lanes l p e in
      record {
        taken = λ i k li q. h.taken i k li (sym (same i) ∙ q);
        holder = λ i k lk q. ((h.holder i k lk q).0, same i ∙ (h.holder i k lk q).1);
      }

  pub readers_same : (readers : ℕ → ℕ) → notice p ≡ notice (lanes l) → Readers g readers lanes → Readers g readers (put lanes l p)
  readers_same readers e h i li = h i li ∙ sym (put_same notice lanes l p e i)

  pub map_kept_same : (seen kept : ℕ → ℕ) → switching p ≡ switching (lanes l) → MapKept g seen kept lanes → MapKept g seen kept (put lanes l p)
  map_kept_same seen kept e h m =
      elim (h m) [
        | inl q ↦ inl q
        | inr w ↦ inr (w.0, w.1, put_same switching lanes l p e w.0 ∙ w.2)
      ]

  -- the lane as a reader, and as the one whose block is read
  pub quiet_put :
      ((w : ℕ) → w < g.lanes → w ≢ l → is_reading p.phase ≡ true → looked p ≡ (lanes w).block → (is_filling (lanes w).phase ≡ false) × ((j : ℕ) → (lanes w).phase ≡ Scanning j → j ≤ place w l))
      → ((r : ℕ) → r < g.lanes → r ≢ l → is_reading (lanes r).phase ≡ true → looked (lanes r) ≡ p.block → (is_filling p.phase ≡ false) × ((j : ℕ) → p.phase ≡ Scanning j → j ≤ place l r))
      → Quiet g lanes → Quiet g (put lanes l p)
  quiet_put reads fills h =
      record {
        still = λ r w lr lw ne.
            put_elim (λ r q. r < g.lanes → r ≢ w → is_reading q.phase ≡ true → looked q ≡ (put lanes l p w).block → is_filling (put lanes l p w).phase ≡ false) lanes l p
            (λ lr ne. put_elim (λ w q. w < g.lanes → l ≢ w → is_reading p.phase ≡ true → looked p ≡ q.block → is_filling q.phase ≡ false) lanes l p
            (λ lw ne. absurd (ne refl))
            (λ w wl lw ne rd e. (reads w lw wl rd e).0) w lw ne)
            (λ r rl lr ne. put_elim (λ w q. w < g.lanes → r ≢ w → is_reading (lanes r).phase ≡ true → looked (lanes r) ≡ q.block → is_filling q.phase ≡ false) lanes l p
            (λ lw ne rd e. (fills r lr rl rd e).0)
            (λ w wl lw ne. h.still r w lr lw ne) w lw ne) r lr ne;
        unscanned = λ r w j lr lw ne.
            put_elim (λ r q. r < g.lanes → r ≢ w → is_reading q.phase ≡ true → looked q ≡ (put lanes l p w).block → (put lanes l p w).phase ≡ Scanning j → j ≤ place w r) lanes l p
            (λ lr ne. put_elim (λ w q. w < g.lanes → l ≢ w → is_reading p.phase ≡ true → looked p ≡ q.block → q.phase ≡ Scanning j → j ≤ place w l) lanes l p
            (λ lw ne. absurd (ne refl))
            (λ w wl lw ne rd e. (reads w lw wl rd e).1 j) w lw ne)
            (λ r rl lr ne. put_elim (λ w q. w < g.lanes → r ≢ w → is_reading (lanes r).phase ≡ true → looked (lanes r) ≡ q.block → q.phase ≡ Scanning j → j ≤ place w r) lanes l p
            (λ lw ne rd e. (fills r lr rl rd e).1 j)
            (λ w wl lw ne. h.unscanned r w j lr lw ne) w lw ne) r lr ne;
      }

  -- the lane reads nothing anew, and stores in nothing anew
  pub quiet_same : p.block ≡ (lanes l).block → (is_reading p.phase ≡ true → (is_reading (lanes l).phase ≡ true) × (looked p ≡ looked (lanes l)))
      → (is_filling p.phase ≡ true → is_filling (lanes l).phase ≡ true) → ((j : ℕ) → p.phase ≡ Scanning j → j ≡ 0)
      → l < g.lanes → Quiet g lanes → Quiet g (put lanes l p)
  quiet_same eb er ef ej ll h =
      quiet_put
      (λ w lw wl rd e. let was = er rd in (h.still l w ll lw (λ q. wl (sym q)) was.0 (sym was.1 ∙ e), λ j. h.unscanned l w j ll lw (λ q. wl (sym q)) was.0 (sym was.1 ∙ e)))
      (λ r lr rl rd e. (quiet_fill r lr rl rd e, λ j q. subst (λ n. n ≤ place l r) (sym (ej j q)) (omega arith)))
      h
    where
      quiet_fill : (r : ℕ) → r < g.lanes → r ≢ l → is_reading (lanes r).phase ≡ true → looked (lanes r) ≡ p.block → is_filling p.phase ≡ false
      quiet_fill r lr rl rd e = decide (is_filling p.phase) refl
        where
          decide : (b : Bool) → is_filling p.phase ≡ b → is_filling p.phase ≡ false
          decide true q = never (sym (h.still r l lr ll rl rd (e ∙ eb)) ∙ ef q)
          decide false q = q

-- a lane's part of the data, if the row is the same
pub tells_row : (width : ℕ) (row row' : ℕ → ℕ) (history : List Entry) (l : ℕ) (phase : Phase) (tag : Tag) (sector : ℕ) (log : List Entry) (got : List ℕ)
    → (is_reading phase ≡ true → row' ≡ row) → Tells width row history l phase tag sector log got → Tells width row' history l phase tag sector log got
tells_row width row row' history l phase tag sector log got same h =
    record {
      entries = h.entries ∙ ap (λ r. log ++ r) (go (is_reading phase) same);
      loaded = λ k e. ((h.loaded k e).0, (h.loaded k e).1 ∙ ap (listed k) (sym (same (ap is_reading e))));
    }
  where
    go : (b : Bool) → (b ≡ true → row' ≡ row) → only_if b (open_entry width row l tag sector) ≡ only_if b (open_entry width row' l tag sector)
    go true q = ap (λ r. open_entry width r l tag sector ∷ []) (sym (q refl))
    go false q = refl
