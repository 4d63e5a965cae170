-- The map word is stored, and the write enters the history; then it is kept.
use Rattle.std.proofs.Common.{◌≡◌, ℕ, ◌+◌, ◌/◌, ◌%◌, ◌^◌, ◌<◌, ◌≢◌, ◌⊎◌, inl, inr, suc, true, false, refl, sym, ap, ◌∙◌, subst, arith, if◌then◌else◌, [], ◌∷◌, ◌++◌, length, get_or}
use Rattle.map_table.specs.Entry.{entry_in, with_entry}
use Rattle.lane_core.specs.Areas.{put, Geometry, Areas, mapped, block_in, store_map, normal}
use Rattle.lane_core.specs.History.{Entry}
use Rattle.lane_core.specs.Machine.{Logged, Switched, Kept, Lane, State, looked, lock_of}
use Rattle.lane_core.specs.Invariant.{Blocks, Halves, IsLaneSound, IsSound, switching, is_reading, has_words, is_locked, is_logged, is_switched, is_log_a_stored, is_log_b_stored, is_known, uses_sector, only_if, open_entry, stored, saved, is_published}
use Rattle.lane_core.proofs.Put.{put_at, put_other, put_elim, same_or_not, never}
use Rattle.std.proofs.Common.{take_all, subst₂}
use Rattle.lane_core.specs.History.{Cell, end_of, cell_in, cell_of}
use Rattle.lane_core.specs.Machine.{map_store, map_keep, wrote}
use Rattle.lane_core.proofs.Frames.{blocks_same, locks_same, readers_same, quiet_same, quiet_put}
use Rattle.lane_core.proofs.Own.{stages_as, tells_plain, halves_plain, halves_switch, halves_word, knows_word, switching_locked}
use Rattle.lane_core.proofs.Entries.{entry_at-stored, entry_at-kept, normal_fits, block_in-normal}
use Rattle.lane_core.proofs.Past.{end_of-grown, legal_grown, of_lane-other, of_lane-own, listed-take, append_none, cell_in-normal}
use Rattle.arena_open.specs.declared.cell.Cell.TheVariants as cell

locks_of : (g : Geometry) (a b : ℕ) → a / 2 ≡ b / 2 → lock_of g a ≡ lock_of g b
unfolding lock_of
locks_of g a b q = ap (λ x. x % g.lanes) q

module _ (g : Geometry) (o : ℕ → Cell) (s : State) (l : ℕ) (h : IsSound g o s) (ll : l < g.lanes) (held : is_locked (s.lanes l).phase ≡ true) where
  -- a lane that has a lock of the same map word is this one
  pub the_lock : (i : ℕ) → i < g.lanes → is_locked (s.lanes i).phase ≡ true → (s.lanes i).sector / 2 ≡ (s.lanes l).sector / 2 → i ≡ l
  the_lock i li t q =
      let mine = h.locks.taken l (lock_of g (s.lanes l).sector) ll (ap (λ b. if b then suc (lock_of g (s.lanes l).sector) else 0) held) in
      let his = h.locks.taken i (lock_of g (s.lanes i).sector) li (ap (λ b. if b then suc (lock_of g (s.lanes i).sector) else 0) t) in
      let same : lock_of g (s.lanes i).sector ≡ lock_of g (s.lanes l).sector = locks_of g _ _ q in
      cc

  pub other_word : (i : ℕ) → i ≢ l → i < g.lanes → is_locked (s.lanes i).phase ≡ true → (s.lanes i).sector / 2 ≢ (s.lanes l).sector / 2
  other_word i ne li t q = ne (the_lock i li t q)

  -- its map word is kept, if it hasn't switched it
  pub word_kept : is_switched (s.lanes l).phase ≡ false → s.kept.map_at ((s.lanes l).sector / 2) ≡ s.seen.map_at ((s.lanes l).sector / 2)
  word_kept f =
      elim (h.map_kept ((s.lanes l).sector / 2)) [
        | inl q ↦ q
        | inr w ↦ absurd (nobody w.0 w.1 w.2)
      ]
    where
      nobody : (i : ℕ) → i < g.lanes → switching (s.lanes i) ≡ suc ((s.lanes l).sector / 2) → ⊥
      nobody i li q =
          let who = switching_locked (s.lanes i) ((s.lanes l).sector / 2) q in
          let same : i ≡ l = the_lock i li who.1 who.2 in
          let t : is_switched (s.lanes l).phase ≡ true = subst (λ j. is_switched (s.lanes j).phase ≡ true) same who.0 in
          never (sym f ∙ t)

module _ (g : Geometry) (o : ℕ → Cell) (s : State) (l : ℕ) (h : IsSound g o s) (ll : l < g.lanes) (e : (s.lanes l).phase ≡ Logged) where
  pub map_store_sound : IsSound g o (map_store g s l)
  map_store_sound =
      record {
        geometry = h.geometry;
        blocks = blocks;
        locks = locks_same g s.lanes l new s.locks (sym (ap (λ ph. if is_locked ph then suc (lock_of g p.sector) else 0) e)) h.locks;
        readers = readers_same g s.lanes l new s.readers (sym (ap (λ ph. if is_published ph then suc (looked p) else 0) e)) h.readers;
        quiet = quiet_put g s.lanes l new (λ w lw wl t. never t) (λ r lr ne rd eb. (refl, λ j t. cc)) h.quiet;
        settled = λ t j lt lj. elim (same_or_not t p.sector) [
          | inl q ↦ subst (λ b. s.kept.data_at b j ≡ s.seen.data_at b j) (sym (mapped_at t q)) (filled j lj)
          | inr ne ↦ subst (λ b. s.kept.data_at b j ≡ s.seen.data_at b j) (sym (mapped_other t ne)) (h.settled t j lt lj)
        ];
        map_kept = λ m. elim (same_or_not m (p.sector / 2)) [
          | inl q ↦ inr (l, ll, ap switching (put_at s.lanes l new) ∙ ap suc (sym q))
          | inr ne ↦ still_kept m ne (h.map_kept m)
        ];
        each = put_elim (λ i q. i < g.lanes → IsLaneSound g seen s.kept (s.history ++ entry ∷ []) i q) s.lanes l new (λ _. own) others;
        legal = legal_grown o s.history entry h.legal tt;
        cells = λ t lt. ap (λ c. c t) (end_of-grown o s.history entry) ∙ elim (same_or_not t p.sector) [
          | inl q ↦ subst (λ t. put (end_of o s.history) p.sector (cell.Bytes p.words) t ≡ cell_of g s.seen.data_at map t) (sym q) (put_at (end_of o s.history) p.sector (cell.Bytes p.words) ∙ the_cell)
          | inr ne ↦ put_other (end_of o s.history) p.sector (cell.Bytes p.words) t ne ∙ h.cells t lt ∙ ap (λ x. cell_in g.width s.seen.data_at x t) (sym (entry_at-kept s.seen.map_at p.loaded p.sector (normal p.block) fits word t ne))
        ];
        known_lanes = λ i gi. of_lane-other i s.history entry (λ q. absurd (omega (arith, q))) ∙ h.known_lanes i gi;
      }
    where
      p : Lane
      p = s.lanes l

      entry : Entry
      entry = wrote l (s.lanes l)

      new : Lane
      new = record (s.lanes l) { phase = Switched; block = looked (s.lanes l); words = []; log = (s.lanes l).log ++ wrote l (s.lanes l) ∷ [] }

      map : ℕ → ℕ
      map = put s.seen.map_at (p.sector / 2) (with_entry p.loaded p.sector (normal p.block))

      seen : Areas
      seen = store_map s.seen (p.sector / 2) (with_entry p.loaded p.sector (normal p.block))

      was : IsLaneSound g s.seen s.kept s.history l (s.lanes l)
      was = h.each l ll

      small : p.block < 2 ^ 30
      small = let a = h.geometry.fits in let b = h.blocks.lane_in l ll in omega arith

      fits : normal p.block < 2 ^ 32
      fits = normal_fits p.block small

      word : s.seen.map_at (p.sector / 2) ≡ p.loaded
      word = was.knows.same (ap is_known e)

      in_map : p.sector < g.sectors
      in_map = was.knows.in_range (ap uses_sector e)

      held : is_locked p.phase ≡ true
      held = ap is_locked e

      old_block : looked p ≡ mapped s.seen.map_at p.sector
      old_block = ap (λ w. block_in (entry_in w p.sector) p.sector) (sym word)

      mapped_own : mapped map p.sector ≡ p.block
      mapped_own = ap (λ x. block_in x p.sector) (entry_at-stored s.seen.map_at p.loaded p.sector (normal p.block) fits word) ∙ block_in-normal p.block p.sector small

      mapped_at : (t : ℕ) → t ≡ p.sector → mapped map t ≡ p.block
      mapped_at t q = ap (mapped map) q ∙ mapped_own

      mapped_other : (t : ℕ) → t ≢ p.sector → mapped map t ≡ mapped s.seen.map_at t
      mapped_other t ne = ap (λ x. block_in x t) (entry_at-kept s.seen.map_at p.loaded p.sector (normal p.block) fits word t ne)

      has_word : (j : ℕ) → j < g.width → s.seen.data_at p.block j ≡ get_or p.words j 0
      has_word j lj = was.stages.seen_words j (subst (λ n. j < n) (sym (ap (stored g.width) e)) lj)

      filled : (j : ℕ) → j < g.width → s.kept.data_at p.block j ≡ s.seen.data_at p.block j
      filled j lj = was.stages.kept_words j (subst (λ n. j < n) (sym (ap (saved g.width) e)) lj) ∙ sym (has_word j lj)

      size : length p.words ≡ g.width
      size = was.stages.size (ap has_words e) ∙ ap (stored g.width) e

      the_cell : cell.Bytes p.words ≡ cell_of g s.seen.data_at map p.sector
      the_cell = sym (ap (λ x. cell_in g.width s.seen.data_at x p.sector) (entry_at-stored s.seen.map_at p.loaded p.sector (normal p.block) fits word)
          ∙ cell_in-normal g.width s.seen.data_at p.block p.sector small
          ∙ ap cell.Bytes (listed-take g.width (s.seen.data_at p.block) p.words (omega (arith, size)) has_word ∙ take_all g.width p.words (omega (arith, size))))

      same : (i : ℕ) → (i ≢ l) → (put s.lanes l new i).block ≡ (s.lanes i).block
      same i ne = ap (λ (q : Lane). q.block) (put_other s.lanes l new i ne)

      blocks : Blocks g map (put s.lanes l new)
      blocks =
          record {
            map_in = λ t lt. elim (same_or_not t p.sector) [
              | inl q ↦ subst (λ b. b < g.sectors + g.lanes) (sym (mapped_at t q)) (h.blocks.lane_in l ll)
              | inr ne ↦ subst (λ b. b < g.sectors + g.lanes) (sym (mapped_other t ne)) (h.blocks.map_in t lt)
            ];
            lane_in = put_elim (λ i q. i < g.lanes → q.block < g.sectors + g.lanes) s.lanes l new
                (λ _. subst (λ b. b < g.sectors + g.lanes) (sym old_block) (h.blocks.map_in p.sector in_map))
                (λ i ne. h.blocks.lane_in i);
            map_once = λ t u lt lu q. elim (same_or_not t p.sector) [
              | inl et ↦ elim (same_or_not u p.sector) [
                | inl eu ↦ et ∙ sym eu
                | inr nu ↦ absurd (h.blocks.apart u l lu ll (sym (mapped_other u nu) ∙ sym q ∙ mapped_at t et))
              ]
              | inr nt ↦ elim (same_or_not u p.sector) [
                | inl eu ↦ absurd (h.blocks.apart t l lt ll (sym (mapped_other t nt) ∙ q ∙ mapped_at u eu))
                | inr nu ↦ h.blocks.map_once t u lt lu (sym (mapped_other t nt) ∙ q ∙ mapped_other u nu)
              ]
            ];
            lane_once = λ i k li lk. put_elim (λ i q. i < g.lanes → q.block ≡ (put s.lanes l new k).block → i ≡ k) s.lanes l new
                (λ _. put_elim (λ k q. k < g.lanes → looked p ≡ q.block → l ≡ k) s.lanes l new
                (λ _ _. refl)
                (λ k ne lk q. absurd (h.blocks.apart p.sector k in_map lk (sym old_block ∙ q))) k lk)
                (λ i ni li. put_elim (λ k q. k < g.lanes → (s.lanes i).block ≡ q.block → i ≡ k) s.lanes l new
                (λ _ q. absurd (h.blocks.apart p.sector i in_map li (sym old_block ∙ sym q)))
                (λ k ne lk q. h.blocks.lane_once i k li lk q) k lk) i li;
            apart = λ t i lt li. put_elim (λ i q. i < g.lanes → mapped map t ≡ q.block → ⊥) s.lanes l new
                (λ _ q. elim (same_or_not t p.sector) [
                  | inl et ↦ h.blocks.apart p.sector l in_map ll (sym old_block ∙ sym q ∙ mapped_at t et)
                  | inr nt ↦ absurd (nt (h.blocks.map_once t p.sector lt in_map (sym (mapped_other t nt) ∙ q ∙ old_block)))
                ])
                (λ i ni li q. elim (same_or_not t p.sector) [
                  | inl et ↦ ni (h.blocks.lane_once i l li ll (sym q ∙ mapped_at t et))
                  | inr nt ↦ h.blocks.apart t i lt li (sym (mapped_other t nt) ∙ q)
                ]) i li;
          }

      still_kept : (m : ℕ) → m ≢ p.sector / 2 → (s.kept.map_at m ≡ s.seen.map_at m) ⊎ ((i : ℕ) × (i < g.lanes) × (switching (s.lanes i) ≡ suc m)) → (s.kept.map_at m ≡ map m) ⊎ ((i : ℕ) × (i < g.lanes) × (switching (put s.lanes l new i) ≡ suc m))
      still_kept m ne (inl q) = inl (q ∙ sym (put_other s.seen.map_at (p.sector / 2) _ m ne))
      still_kept m ne (inr w) = inr (w.0, w.1, ap switching (put_other s.lanes l new w.0 (λ q. not_me w.0 q w.2)) ∙ w.2)
        where
          not_me : (i : ℕ) → i ≡ l → switching (s.lanes i) ≡ suc m → ⊥
          not_me i q t = absurd (zero_suc (sym (ap (λ ph. if is_switched ph then suc (p.sector / 2) else 0) e) ∙ ap (λ i. switching (s.lanes i)) (sym q) ∙ t))
            where
              zero_suc : 0 ≡ suc m → ⊥
              zero_suc z = omega arith

      own : IsLaneSound g seen s.kept (s.history ++ entry ∷ []) l new
      own =
          record {
            stages = record {
              size = λ t. never t;
              seen_words = λ j lj. absurd (omega arith);
              kept_words = λ j lj. absurd (omega arith);
              clean = λ j lj le. subst (λ b. s.kept.data_at b j ≡ s.seen.data_at b j) (sym old_block) (h.settled p.sector j in_map lj);
            };
            knows = record { in_range = λ _. in_map; same = λ t. never t; bytes = λ t. never t; wrote = λ _. put_at s.seen.map_at (p.sector / 2) _ ∙ ap (λ b. with_entry p.loaded p.sector (normal b)) (sym (was.halves.logged (ap is_logged e)).2); scans = λ j t. cc; stages = λ k t. cc };
            halves = subst (λ w. Halves (s.seen.log_a l) (s.seen.log_b l) (s.kept.log_a l) (s.kept.log_b l) w (s.kept.map_at (p.sector / 2)) Switched p.side p.half (looked p) p.sector) (sym (put_at s.seen.map_at (p.sector / 2) _))
                (halves_switch (s.seen.log_a l) (s.seen.log_b l) (s.kept.log_a l) (s.kept.log_b l) p.loaded (s.kept.map_at (p.sector / 2)) p.side p.half p.block p.sector small (word_kept g o s l h ll held (ap is_switched e) ∙ word)
                (subst₂ (λ w ph. Halves (s.seen.log_a l) (s.seen.log_b l) (s.kept.log_a l) (s.kept.log_b l) w (s.kept.map_at (p.sector / 2)) ph p.side p.half p.block p.sector) word e was.halves));
            sized = was.sized;
            tells = record {
              entries = of_lane-own l s.history entry refl ∙ ap (λ xs. xs ++ entry ∷ []) (was.tells.entries ∙ ap (λ b. p.log ++ only_if b (open_entry g.width (s.seen.data_at (looked p)) l p.tag p.sector)) (ap is_reading e) ∙ append_none p.log)
                  ∙ sym (append_none (p.log ++ entry ∷ []));
              loaded = λ k t. cc;
            };
          }

      others : (i : ℕ) → i ≢ l → i < g.lanes → IsLaneSound g seen s.kept (s.history ++ entry ∷ []) i (s.lanes i)
      others i ne li =
          let him = s.lanes i in
          let his = h.each i li in
          record {
            stages = his.stages;
            knows = knows_word g _ _ him.phase him.sector him.loaded him.half (λ t. sym (put_other s.seen.map_at (p.sector / 2) _ (him.sector / 2) (other_word g o s l h ll held i ne li t))) his.knows;
            halves = halves_word _ _ _ _ _ _ _ _ him.phase him.side him.half him.block him.sector (λ t. (sym (put_other s.seen.map_at (p.sector / 2) _ (him.sector / 2) (other_word g o s l h ll held i ne li t)), refl)) his.halves;
            sized = his.sized;
            tells = record {
              entries = of_lane-other i s.history entry (λ q. ne (sym q)) ∙ his.tells.entries;
              loaded = his.tells.loaded;
            };
          }

module _ (g : Geometry) (o : ℕ → Cell) (s : State) (l : ℕ) (h : IsSound g o s) (ll : l < g.lanes) (e : (s.lanes l).phase ≡ Switched) where
  pub map_keep_sound : IsSound g o (map_keep g s l)
  map_keep_sound =
      record {
        geometry = h.geometry;
        blocks = blocks_same g s.lanes l new s.seen.map_at refl h.blocks;
        locks = locks_same g s.lanes l new s.locks (sym (ap (λ ph. if is_locked ph then suc (lock_of g p.sector) else 0) e)) h.locks;
        readers = readers_same g s.lanes l new s.readers (sym (ap (λ ph. if is_published ph then suc (looked p) else 0) e)) h.readers;
        quiet = quiet_same g s.lanes l new refl (λ q. never q) (λ q. never q) (λ j q. cc) ll h.quiet;
        settled = h.settled;
        map_kept = λ m. elim (same_or_not m (p.sector / 2)) [
          | inl q ↦ inl (subst (λ m. kept.map_at m ≡ s.seen.map_at m) (sym q) (put_at s.kept.map_at (p.sector / 2) _))
          | inr ne ↦ still_kept m ne (h.map_kept m)
        ];
        each = put_elim (λ i q. i < g.lanes → IsLaneSound g s.seen kept s.history i q) s.lanes l new
            (λ _. record {
              stages = stages_as g.width _ _ p.phase Kept p.words p.words (λ t. never t) (ap (stored g.width) e) (ap (saved g.width) e) was.stages;
              knows = record { in_range = λ _. was.knows.in_range (ap uses_sector e); same = λ t. never t; bytes = λ t. never t; wrote = λ t. never t; scans = λ j t. cc; stages = λ k t. cc };
              halves = halves_plain _ _ _ _ _ _ _ _ p.phase Kept p.side p.half p.block p.sector p.sector (ap is_log_a_stored e) (ap is_log_b_stored e) (ap is_logged e) refl was.halves;
              sized = was.sized;
              tells = tells_plain g.width _ _ s.history l p.phase Kept p.tag p.sector p.tag p.sector p.log p.got p.got (ap is_reading e) refl was.tells;
            })
            (λ i ne li. let him = s.lanes i in let his = h.each i li in record {
              stages = his.stages;
              knows = his.knows;
              halves = halves_word _ _ _ _ _ _ _ _ him.phase him.side him.half him.block him.sector (λ t. (refl, sym (put_other s.kept.map_at (p.sector / 2) _ (him.sector / 2) (other_word g o s l h ll (ap is_locked e) i ne li t)))) his.halves;
              sized = his.sized;
              tells = his.tells;
            });
        legal = h.legal;
        cells = h.cells;
        known_lanes = h.known_lanes;
      }
    where
      p : Lane
      p = s.lanes l

      new : Lane
      new = record (s.lanes l) { phase = Kept }

      kept : Areas
      kept = store_map s.kept (p.sector / 2) (s.seen.map_at (p.sector / 2))

      was : IsLaneSound g s.seen s.kept s.history l (s.lanes l)
      was = h.each l ll

      still_kept : (m : ℕ) → m ≢ p.sector / 2 → (s.kept.map_at m ≡ s.seen.map_at m) ⊎ ((i : ℕ) × (i < g.lanes) × (switching (s.lanes i) ≡ suc m)) → (kept.map_at m ≡ s.seen.map_at m) ⊎ ((i : ℕ) × (i < g.lanes) × (switching (put s.lanes l new i) ≡ suc m))
      still_kept m ne (inl q) = inl (put_other s.kept.map_at (p.sector / 2) _ m ne ∙ q)
      still_kept m ne (inr w) = inr (w.0, w.1, ap switching (put_other s.lanes l new w.0 (λ q. ne (not_me w.0 q w.2))) ∙ w.2)
        where
          not_me : (i : ℕ) → i ≡ l → switching (s.lanes i) ≡ suc m → m ≡ p.sector / 2
          not_me i q t = let z : suc m ≡ suc (p.sector / 2) = sym t ∙ ap (λ i. switching (s.lanes i)) q ∙ ap (λ ph. if is_switched ph then suc (p.sector / 2) else 0) e in omega arith
