-- Each line of the code is the step of the state that has its name.
use Rattle.std.proofs.Common.{◌≡◌, ℕ, ◌+◌, ◌-◌, ◌*◌, ◌/◌, ◌<◌, ◌≤◌, ◌==◌, nat_lt, if◌then◌else◌, suc, Bool, true, false, List, [], ◌∷◌, ◌++◌, length, get_or, take, drop, replicate, slice_get, slice_set, slice_index, Some, refl, sym, ap, ap₂, ◌∙◌, subst, subst₂, arith, length-set, length-drop, take-suc, take_all, get_or-set_same, get_or-drop, add-one, mod-lt}
use Rattle.std.proofs.lemmas.List.{take-set}
use Rattle.map_table.specs.Entry.{entry_in, with_entry}
use Rattle.map_table.specs.declared.kinds.Kind.{Kind}
use Rattle.map_table.specs.declared.kinds.Kind.TheVariants as kind
use Rattle.arena_open.specs.declared.cell.Cell.{Cell}
use Rattle.arena_open.specs.declared.cell.Cell.TheVariants as cell
use Rattle.lane_core.specs.declared.history.Act.TheVariants as act
use Rattle.lane_core.specs.declared.lane.Lane.{Lane}
use Rattle.lane_core.specs.declared.now.LaneNow.{LaneNow}
use Rattle.lane_core.specs.declared.phase.Phase.{Phase}
use Rattle.lane_core.specs.declared.phase.Phase.TheVariants.{Idle, Scanning, Staging, Staged, Locked, Known, LogAStored, LogA, LogBStored, Logged, Switched, Kept, Called, Looking, Published, Moved, Reading}
use Rattle.lane_core.specs.declared.shape.Shape.{Shape}
use Rattle.lane_core.specs.Areas.{put, kind_in, normal, next_seq, word_a, word_b, entry_at}
use Rattle.lane_core.specs.History.{listed}
use Rattle.lane_core.specs.Machine.{State, lock_of, other, other_lane, looked, wrote, read, scan_again, scan_on, data_store, data_keep, lock_take, map_load, log_a_store, log_a_keep, log_b_store, log_b_keep, map_store, map_keep, lock_free, look, look_cell, rtt_set, check_same, check_moved, clear_moved, data_load, clear_done}
use Rattle.lane_core.specs.Invariant.{stored, uses_sector}
use Rattle.lane_core.specs.Runs.{stepped, found}
use Rattle.lane_core.specs.Places.{IsShape, SeenData, KeptData, SeenMap, KeptMap, SeenA, KeptA, SeenB, KeptB, Reader, Lock, IsIn, word_of, value_of, geometry}
use Rattle.lane_core.specs.Rows.{RowWords, Recorded, grown, stored_in, kept_in, put_in}
use Rattle.lane_core.specs.Lines.{looked_now, read_now, wrote_now, word_at, kept_phase}
use Rattle.lane_core.specs.After.{row_after, lane_after, past_after, lane_looked, past_looked, kind_found, map_found, is_free, is_unmoved, lock_wanted, cell_found, uses_words, uses_cell, uses_looked}
use Rattle.lane_core.specs.Ready.{IsReady}
use Rattle.lane_core.specs.Showing.{Shown, loads, lane_at, lane_of, line_of}
use Rattle.lane_core.proofs.Put.{put_at, put2_at}
use Rattle.lane_core.proofs.Past.{listed-take}
use Rattle.lane_core.proofs.Places.{put_again, data_ends}
use Rattle.lane_core.proofs.Elsewhere.{nowhere, but_seen_data, but_seen_map, but_seen_a, but_seen_b, but_kept_data, but_kept_map, but_kept_a, but_kept_b, but_reader, but_lock}
use Rattle.lane_core.proofs.Showing.{lane_is, still, moves}

module _ (x : Shape) (row : RowWords) (lanes : List LaneNow) (past : Recorded) (s : State) (l : ℕ) (p : LaneNow) (hs : IsShape x) (h : Shown x row lanes past.entries s) (at : slice_get lanes l ≡ Some p) (ready : IsReady x row l p past.room) where
  me : (ph : Phase) → p.phase ≡ ph → s.lanes l ≡ lane_at x.width p ph (s.lanes l).log
  me ph e = lane_is x row lanes past.entries s l p hs h at ph e

  -- what is shown after the lane's line
  abbrev After : Phase → State → Type 0
  After ph t = Shown x (row_after x l row p ph) (slice_set lanes l (lane_after x l row p ph)) (past_after x l row p past ph).entries t

  known : p.phase ≡ Known → After Known (log_a_store (geometry x) s l)
  known e =
      let m = me Known e in
      moves x row lanes past.entries s l p hs h at (log_a_store (geometry x) s l) (record p { phase = LogAStored }) (record (s.lanes l) { phase = LogAStored }) past.entries
      (row_after x l row p Known) (SeenA l (other p.side)) (word_a p.sector (looked_now p)) refl
      (ap (λ (a : Lane). record a { phase = LogAStored }) m)
      (ready.lane, omega arith)
      refl
      (length-set row.pending (word_of x (SeenA l (other p.side))) true)
      (ap (λ (a : Lane). value_of (log_a_store (geometry x) s l) (SeenA l (other a.side))) (sym m) ∙ put2_at s.seen.log_a l (other (s.lanes l).side) _ ∙ ap (λ (a : Lane). word_a a.sector (looked a)) m)
      (λ r ne. but_seen_a x s (log_a_store (geometry x) s l).lanes s.history l (other (s.lanes l).side) _ r (λ z. ne (z ∙ ap (λ (a : Lane). SeenA l (other a.side)) m)))
      h.history

  kept_a : p.phase ≡ LogAStored → After LogAStored (log_a_keep (geometry x) s l)
  kept_a e =
      let m = me LogAStored e in
      let i : (l < x.lanes) × (other p.side < 2) = (ready.lane, omega (arith, ready.side)) in
      moves x row lanes past.entries s l p hs h at (log_a_keep (geometry x) s l) (record p { phase = LogA }) (record (s.lanes l) { phase = LogA }) past.entries
      (row_after x l row p LogAStored) (KeptA l (other p.side)) (word_at x row (SeenA l (other p.side))) refl
      (ap (λ (a : Lane). record a { phase = LogA }) m)
      i
      (ap (λ n. slice_set row.words (n + word_of x (SeenA l (other p.side))) (word_at x row (SeenA l (other p.side)))) h.row_is.arena)
      (length-set row.pending (word_of x (SeenA l (other p.side))) false)
      (ap (λ (a : Lane). value_of (log_a_keep (geometry x) s l) (KeptA l (other a.side))) (sym m) ∙ put2_at s.kept.log_a l (other (s.lanes l).side) _ ∙ ap (λ (a : Lane). s.seen.log_a l (other a.side)) m ∙ sym (h.words (SeenA l (other p.side)) i))
      (λ r ne. but_kept_a x s (log_a_keep (geometry x) s l).lanes s.history l (other (s.lanes l).side) _ r (λ z. ne (z ∙ ap (λ (a : Lane). KeptA l (other a.side)) m)))
      h.history

  log_a : p.phase ≡ LogA → After LogA (log_b_store (geometry x) s l)
  log_a e =
      let m = me LogA e in
      moves x row lanes past.entries s l p hs h at (log_b_store (geometry x) s l) (record p { phase = LogBStored }) (record (s.lanes l) { phase = LogBStored }) past.entries
      (row_after x l row p LogA) (SeenB l (other p.side)) (word_b p.block (next_seq p.half.seq)) refl
      (ap (λ (a : Lane). record a { phase = LogBStored }) m)
      (ready.lane, omega arith)
      refl
      (length-set row.pending (word_of x (SeenB l (other p.side))) true)
      (ap (λ (a : Lane). value_of (log_b_store (geometry x) s l) (SeenB l (other a.side))) (sym m) ∙ put2_at s.seen.log_b l (other (s.lanes l).side) _ ∙ ap (λ (a : Lane). word_b a.block (next_seq a.half.seq)) m)
      (λ r ne. but_seen_b x s (log_b_store (geometry x) s l).lanes s.history l (other (s.lanes l).side) _ r (λ z. ne (z ∙ ap (λ (a : Lane). SeenB l (other a.side)) m)))
      h.history

  kept_b : p.phase ≡ LogBStored → After LogBStored (log_b_keep (geometry x) s l)
  kept_b e =
      let m = me LogBStored e in
      let i : (l < x.lanes) × (other p.side < 2) = (ready.lane, omega (arith, ready.side)) in
      moves x row lanes past.entries s l p hs h at (log_b_keep (geometry x) s l) (lane_after x l row p LogBStored)
      (record (s.lanes l) { phase = Logged; side = other (s.lanes l).side; half = record { lba = (s.lanes l).sector; old = looked (s.lanes l); new = (s.lanes l).block; seq = next_seq (s.lanes l).half.seq } }) past.entries
      (row_after x l row p LogBStored) (KeptB l (other p.side)) (word_at x row (SeenB l (other p.side))) refl
      (ap (λ (a : Lane). record a { phase = Logged; side = other a.side; half = record { lba = a.sector; old = looked a; new = a.block; seq = next_seq a.half.seq } }) m)
      i
      (ap (λ n. slice_set row.words (n + word_of x (SeenB l (other p.side))) (word_at x row (SeenB l (other p.side)))) h.row_is.arena)
      (length-set row.pending (word_of x (SeenB l (other p.side))) false)
      (ap (λ (a : Lane). value_of (log_b_keep (geometry x) s l) (KeptB l (other a.side))) (sym m) ∙ put2_at s.kept.log_b l (other (s.lanes l).side) _ ∙ ap (λ (a : Lane). s.seen.log_b l (other a.side)) m ∙ sym (h.words (SeenB l (other p.side)) i))
      (λ r ne. but_kept_b x s (log_b_keep (geometry x) s l).lanes s.history l (other (s.lanes l).side) _ r (λ z. ne (z ∙ ap (λ (a : Lane). KeptB l (other a.side)) m)))
      h.history

  -- the map word of the lane's sector
  map_in : uses_sector p.phase ≡ true → IsIn x (SeenMap (p.sector / 2))
  map_in e = let a = ready.sector e in omega arith

  all_words : uses_words p.phase ≡ true → take x.width p.words ≡ p.words
  all_words e = take_all x.width p.words (let a = ready.filled.words e in omega arith)

  logged : p.phase ≡ Logged → After Logged (map_store (geometry x) s l)
  logged e =
      let m = me Logged e in
      moves x row lanes past.entries s l p hs h at (map_store (geometry x) s l) (record p { phase = Switched; block = looked_now p; words = [] })
      (record (s.lanes l) { phase = Switched; block = looked (s.lanes l); words = []; log = (s.lanes l).log ++ wrote l (s.lanes l) ∷ [] }) (past.entries ++ wrote_now l p ∷ [])
      (row_after x l row p Logged) (SeenMap (p.sector / 2)) (with_entry p.loaded p.sector (normal p.block)) refl
      (ap (λ (a : Lane). record a { phase = Switched; block = looked a; words = []; log = (s.lanes l).log ++ wrote l (s.lanes l) ∷ [] }) m)
      (map_in (ap uses_sector e))
      refl
      (length-set row.pending (word_of x (SeenMap (p.sector / 2))) true)
      (ap (λ (a : Lane). value_of (map_store (geometry x) s l) (SeenMap (a.sector / 2))) (sym m) ∙ put_at s.seen.map_at ((s.lanes l).sector / 2) _ ∙ ap (λ (a : Lane). with_entry a.loaded a.sector (normal a.block)) m)
      (λ r ne. but_seen_map x s (map_store (geometry x) s l).lanes (map_store (geometry x) s l).history ((s.lanes l).sector / 2) _ r (λ z. ne (z ∙ ap (λ (a : Lane). SeenMap (a.sector / 2)) m)))
      (ap (λ es. es ++ wrote l (s.lanes l) ∷ []) h.history ∙ ap (λ (a : Lane). past.entries ++ wrote l a ∷ []) m
      ∙ ap (λ ws. past.entries ++ record { lane = l; tag = p.tag; sector = p.sector; act = act.Write ws } ∷ []) (all_words (ap uses_words e)))

  switched : p.phase ≡ Switched → After Switched (map_keep (geometry x) s l)
  switched e =
      let m = me Switched e in
      let i : IsIn x (SeenMap (p.sector / 2)) = map_in (ap uses_sector e) in
      moves x row lanes past.entries s l p hs h at (map_keep (geometry x) s l) (record p { phase = Kept }) (record (s.lanes l) { phase = Kept }) past.entries
      (row_after x l row p Switched) (KeptMap (p.sector / 2)) (word_at x row (SeenMap (p.sector / 2))) refl
      (ap (λ (a : Lane). record a { phase = Kept }) m)
      i
      (ap (λ n. slice_set row.words (n + word_of x (SeenMap (p.sector / 2))) (word_at x row (SeenMap (p.sector / 2)))) h.row_is.arena)
      (length-set row.pending (word_of x (SeenMap (p.sector / 2))) false)
      (ap (λ (a : Lane). value_of (map_keep (geometry x) s l) (KeptMap (a.sector / 2))) (sym m) ∙ put_at s.kept.map_at ((s.lanes l).sector / 2) _ ∙ ap (λ (a : Lane). s.seen.map_at (a.sector / 2)) m ∙ sym (h.words (SeenMap (p.sector / 2)) i))
      (λ r ne. but_kept_map x s (map_keep (geometry x) s l).lanes s.history ((s.lanes l).sector / 2) _ r (λ z. ne (z ∙ ap (λ (a : Lane). KeptMap (a.sector / 2)) m)))
      h.history

  lock_lt : (t : ℕ) → lock_of (geometry x) t < x.lanes
  unfolding lock_of
  lock_lt t = mod-lt (t / 2) (let a = ready.lane in omega arith)

  kept : p.phase ≡ Kept → After Kept (lock_free (geometry x) s l)
  kept e =
      let m = me Kept e in
      moves x row lanes past.entries s l p hs h at (lock_free (geometry x) s l) (record p { phase = Idle }) (record (s.lanes l) { phase = Idle }) past.entries
      (row_after x l row p Kept) (Lock (lock_of (geometry x) p.sector)) 0 refl
      (ap (λ (a : Lane). record a { phase = Idle }) m)
      (lock_lt p.sector)
      refl
      refl
      (ap (λ (a : Lane). value_of (lock_free (geometry x) s l) (Lock (lock_of (geometry x) a.sector))) (sym m) ∙ put_at s.locks (lock_of (geometry x) (s.lanes l).sector) 0)
      (λ r ne. but_lock x s (lock_free (geometry x) s l).lanes s.history (lock_of (geometry x) (s.lanes l).sector) 0 r (λ z. ne (z ∙ ap (λ (a : Lane). Lock (lock_of (geometry x) a.sector)) m)))
      h.history

  looking : p.phase ≡ Looking → After Looking (rtt_set (geometry x) s l)
  looking e =
      let m = me Looking e in
      moves x row lanes past.entries s l p hs h at (rtt_set (geometry x) s l) (record p { phase = Published }) (record (s.lanes l) { phase = Published }) past.entries
      (row_after x l row p Looking) (Reader l) (suc (looked_now p)) refl
      (ap (λ (a : Lane). record a { phase = Published }) m)
      ready.lane refl refl
      (put_at s.readers l _ ∙ ap (λ (a : Lane). suc (looked a)) m)
      (λ r ne. but_reader x s (rtt_set (geometry x) s l).lanes s.history l _ r ne)
      h.history

  moved : p.phase ≡ Moved → After Moved (clear_moved (geometry x) s l)
  moved e =
      let m = me Moved e in
      moves x row lanes past.entries s l p hs h at (clear_moved (geometry x) s l) (record p { phase = Called }) (record (s.lanes l) { phase = Called }) past.entries
      (row_after x l row p Moved) (Reader l) 0 refl
      (ap (λ (a : Lane). record a { phase = Called }) m)
      ready.lane refl refl
      (put_at s.readers l 0)
      (λ r ne. but_reader x s (clear_moved (geometry x) s l).lanes s.history l 0 r ne)
      h.history

  -- the map word that the state has
  found_is : (e : uses_sector p.phase ≡ true) → map_found x l row p ≡ s.seen.map_at (p.sector / 2)
  found_is e = h.words (SeenMap (p.sector / 2)) (map_in e)

  locked : p.phase ≡ Locked → After Locked (map_load (geometry x) s l)
  locked e =
      let m = me Locked e in
      still x row lanes past.entries s l p hs h at (map_load (geometry x) s l) (record p { phase = Known; loaded = map_found x l row p })
      (record (s.lanes l) { phase = Known; loaded = s.seen.map_at ((s.lanes l).sector / 2) }) past.entries refl
      (ap (λ (a : Lane). record a { phase = Known; loaded = s.seen.map_at (a.sector / 2) }) m
      ∙ ap (λ w. record (lane_at x.width p Known (s.lanes l).log) { loaded = w }) (sym (found_is (ap uses_sector e))))
      (λ r. nowhere x s (map_load (geometry x) s l).lanes s.history r)
      h.history

  below : (a b : ℕ) → nat_lt a b ≡ true → a < b
  below a b q = grind arith

  not_below : (a b : ℕ) → nat_lt a b ≡ false → b ≤ a
  not_below a b q = grind arith

  -- one word more of the call's words
  stored_more : (k : ℕ) → uses_words p.phase ≡ true → k < x.width → take (stored x.width (Staging k)) p.words ++ get_or p.words k 0 ∷ [] ≡ take (stored x.width (Staging (k + 1))) p.words
  stored_more k u lt =
      let long : k < length p.words = let a = ready.filled.words u in omega arith in
      let here : stored x.width (Staging k) ≡ k = omega arith in
      let there : stored x.width (Staging (k + 1)) ≡ suc k = omega arith in
      ap (λ n. take n p.words ++ get_or p.words k 0 ∷ []) here ∙ sym (take-suc p.words k 0 long) ∙ ap (λ n. take n p.words) (sym there)

  staging_store : (k : ℕ) → p.phase ≡ Staging k → k < x.width → Shown x (stored_in row (word_of x (SeenData p.block k)) (slice_index p.words k)) (slice_set lanes l (record p { phase = Staging (k + 1) })) past.entries (data_store (geometry x) s l k (slice_index p.words k))
  staging_store k e lt =
      let m = me (Staging k) e in
      let w : ℕ = slice_index p.words k in
      moves x row lanes past.entries s l p hs h at (data_store (geometry x) s l k w) (record p { phase = Staging (k + 1) })
      (record (s.lanes l) { phase = Staging (k + 1); words = (s.lanes l).words ++ w ∷ [] }) past.entries
      (stored_in row (word_of x (SeenData p.block k)) w) (SeenData p.block k) w refl
      (ap (λ (a : Lane). record a { phase = Staging (k + 1); words = a.words ++ w ∷ [] }) m
      ∙ ap (λ ws. record (lane_at x.width p (Staging k) (s.lanes l).log) { phase = Staging (k + 1); words = ws }) (stored_more k (ap uses_words e) lt))
      (ready.block, lt)
      refl
      (length-set row.pending (word_of x (SeenData p.block k)) true)
      (ap (λ (a : Lane). put s.seen.data_at a.block (put (s.seen.data_at a.block) k w) p.block k) m ∙ put2_at s.seen.data_at p.block k w)
      (λ r ne. but_seen_data x s (data_store (geometry x) s l k w).lanes s.history (s.lanes l).block k w r (λ z. ne (z ∙ ap (λ (a : Lane). SeenData a.block k) m)))
      h.history

  -- all words are stored
  stored_all : (k : ℕ) → x.width ≤ k → stored x.width (Staging k) ≡ x.width
  stored_all k le = omega arith

  kept_words : (k : ℕ) → x.width ≤ k → (b : Bool) → stored x.width (if b then Staged else Staging (k + 1)) ≡ x.width
  kept_words k le true = refl
  kept_words k le false = stored_all (k + 1) (omega arith)

  kept_loads : (k : ℕ) (b : Bool) → loads (if b then Staged else Staging (k + 1)) ≡ 0
  kept_loads k true = refl
  kept_loads k false = refl

  staging_keep : (k : ℕ) → p.phase ≡ Staging k → x.width ≤ k → Shown x (kept_in row (word_of x (SeenData p.block (k - x.width)))) (slice_set lanes l (record p { phase = kept_phase x k })) past.entries (data_keep (geometry x) s l k)
  staging_keep k e le =
      let m = me (Staging k) e in
      let j : ℕ = k - x.width in
      let i : (p.block < x.sectors + x.lanes) × (j < x.width) = (ready.block, let a = ready.stages k e in omega arith) in
      moves x row lanes past.entries s l p hs h at (data_keep (geometry x) s l k) (record p { phase = kept_phase x k })
      (record (s.lanes l) { phase = kept_phase x k }) past.entries
      (kept_in row (word_of x (SeenData p.block j))) (KeptData p.block j) (word_at x row (SeenData p.block j)) refl
      (ap (λ (a : Lane). record a { phase = kept_phase x k }) m
      ∙ ap₂ (λ n c. record (lane_at x.width p (Staging k) (s.lanes l).log) { phase = kept_phase x k; words = take n p.words; got = take c p.words })
      (stored_all k le ∙ sym (kept_words k le (k + 1 == 2 * x.width))) (sym (kept_loads k (k + 1 == 2 * x.width))))
      i
      (ap (λ n. slice_set row.words (n + word_of x (SeenData p.block j)) (word_at x row (SeenData p.block j))) h.row_is.arena)
      (length-set row.pending (word_of x (SeenData p.block j)) false)
      (ap (λ (a : Lane). value_of (data_keep (geometry x) s l k) (KeptData a.block j)) (sym m) ∙ put2_at s.kept.data_at (s.lanes l).block j _ ∙ ap (λ (a : Lane). s.seen.data_at a.block j) m ∙ sym (h.words (SeenData p.block j) i))
      (λ r ne. but_kept_data x s (data_keep (geometry x) s l k).lanes s.history (s.lanes l).block j _ r (λ z. ne (z ∙ ap (λ (a : Lane). KeptData a.block j) m)))
      h.history

  staging : (k : ℕ) → p.phase ≡ Staging k → After (Staging k) (line_of x s l p (Staging k))
  staging k e = by (nat_lt k x.width) (λ q. staging_store k e (below k x.width q)) (λ q. staging_keep k e (not_below k x.width q))
    where
      by : (b : Bool) → (b ≡ true → Shown x (stored_in row (word_of x (SeenData p.block k)) (slice_index p.words k)) (slice_set lanes l (record p { phase = Staging (k + 1) })) past.entries (data_store (geometry x) s l k (slice_index p.words k)))
          → (b ≡ false → Shown x (kept_in row (word_of x (SeenData p.block (k - x.width)))) (slice_set lanes l (record p { phase = kept_phase x k })) past.entries (data_keep (geometry x) s l k))
          → Shown x (if b then stored_in row (word_of x (SeenData p.block k)) (slice_index p.words k) else kept_in row (word_of x (SeenData p.block (k - x.width))))
          (slice_set lanes l (if b then record p { phase = Staging (k + 1) } else record p { phase = kept_phase x k })) past.entries
          (if b then data_store (geometry x) s l k (slice_index p.words k) else data_keep (geometry x) s l k)
      by true t f = t refl
      by false t f = f refl

  -- nothing changes
  unchanged : Shown x row (slice_set lanes l p) past.entries s
  unchanged = still x row lanes past.entries s l p hs h at s p (s.lanes l) past.entries (sym (put_again s.lanes l (s.lanes l) refl)) (h.each l p at) (λ r. refl) h.history

  staged_takes : p.phase ≡ Staged → Shown x (put_in row (word_of x (Lock (lock_wanted x l row p))) (suc l)) (slice_set lanes l (record p { phase = Locked; tag = p.next; sector = p.next_sector })) past.entries (lock_take (geometry x) s l p.next p.next_sector)
  staged_takes e =
      let m = me Staged e in
      moves x row lanes past.entries s l p hs h at (lock_take (geometry x) s l p.next p.next_sector) (record p { phase = Locked; tag = p.next; sector = p.next_sector })
      (record (s.lanes l) { phase = Locked; tag = p.next; sector = p.next_sector }) past.entries
      (put_in row (word_of x (Lock (lock_wanted x l row p))) (suc l)) (Lock (lock_wanted x l row p)) (suc l) refl
      (ap (λ (a : Lane). record a { phase = Locked; tag = p.next; sector = p.next_sector }) m)
      (lock_lt p.next_sector) refl refl
      (put_at s.locks (lock_wanted x l row p) (suc l))
      (λ r ne. but_lock x s (lock_take (geometry x) s l p.next p.next_sector).lanes s.history (lock_wanted x l row p) (suc l) r ne)
      h.history

  staged : p.phase ≡ Staged → After Staged (line_of x s l p Staged)
  staged e = subst (λ n. Shown x (row_after x l row p Staged) (slice_set lanes l (lane_after x l row p Staged)) past.entries (if n == 0 then lock_take (geometry x) s l p.next p.next_sector else s))
      (h.words (Lock (lock_wanted x l row p)) (lock_lt p.next_sector)) (by (is_free x l row p) (staged_takes e))
    where
      by : (b : Bool) → Shown x (put_in row (word_of x (Lock (lock_wanted x l row p))) (suc l)) (slice_set lanes l (record p { phase = Locked; tag = p.next; sector = p.next_sector })) past.entries (lock_take (geometry x) s l p.next p.next_sector)
          → Shown x (if b then put_in row (word_of x (Lock (lock_wanted x l row p))) (suc l) else row) (slice_set lanes l (if b then record p { phase = Locked; tag = p.next; sector = p.next_sector } else p)) past.entries
          (if b then lock_take (geometry x) s l p.next p.next_sector else s)
      by true t = t
      by false t = unchanged

  scans_again : (j : ℕ) → p.phase ≡ Scanning j → Shown x row (slice_set lanes l (record p { phase = Scanning 0 })) past.entries (scan_again (geometry x) s l)
  scans_again j e =
      still x row lanes past.entries s l p hs h at (scan_again (geometry x) s l) (record p { phase = Scanning 0 }) (record (s.lanes l) { phase = Scanning 0 }) past.entries refl
      (ap (λ (a : Lane). record a { phase = Scanning 0 }) (me (Scanning j) e))
      (λ r. nowhere x s (scan_again (geometry x) s l).lanes s.history r) h.history

  no_words : (n : ℕ) → n ≡ 0 → [] ≡ take n p.words
  no_words n e = ap (λ n. take n p.words) (sym e)

  scans_on : (j : ℕ) → p.phase ≡ Scanning j → Shown x row (slice_set lanes l (record p { phase = if j + 2 == x.lanes then Staging 0 else Scanning (j + 1) })) past.entries (scan_on (geometry x) s l j)
  scans_on j e =
      still x row lanes past.entries s l p hs h at (scan_on (geometry x) s l j) (record p { phase = if j + 2 == x.lanes then Staging 0 else Scanning (j + 1) })
      (record (s.lanes l) { phase = if j + 2 == x.lanes then Staging 0 else Scanning (j + 1); words = [] }) past.entries refl
      (ap (λ (a : Lane). record a { phase = if j + 2 == x.lanes then Staging 0 else Scanning (j + 1); words = [] }) (me (Scanning j) e) ∙ rest (j + 2 == x.lanes))
      (λ r. nowhere x s (scan_on (geometry x) s l j).lanes s.history r) h.history
    where
      none : stored x.width (Staging 0) ≡ 0
      none = omega arith

      rest : (b : Bool) → record (lane_at x.width p (Scanning j) (s.lanes l).log) { phase = if b then Staging 0 else Scanning (j + 1); words = [] } ≡ lane_of x.width (record p { phase = if b then Staging 0 else Scanning (j + 1) }) (s.lanes l).log
      rest true = ap (λ ws. record (lane_at x.width p (Scanning j) (s.lanes l).log) { phase = Staging 0; words = ws }) (no_words (stored x.width (Staging 0)) none)
      rest false = refl

  scanning : (j : ℕ) → p.phase ≡ Scanning j → After (Scanning j) (stepped (geometry x) s l (Scanning j))
  scanning j e =
      subst₂ (λ n b. Shown x row (slice_set lanes l (lane_after x l row p (Scanning j))) past.entries (if n == suc b then scan_again (geometry x) s l else scan_on (geometry x) s l j))
      (h.words (Reader (other_lane l j)) (other_lt j (ready.scans j e))) (ap (λ (a : Lane). a.block) (sym (me (Scanning j) e)))
      (by (word_at x row (Reader (other_lane l j)) == suc p.block))
    where
      other_lt : (j : ℕ) → j + 2 ≤ x.lanes → other_lane l j < x.lanes
      other_lt j le = grind arith

      by : (b : Bool) → Shown x row (slice_set lanes l (record p { phase = if b then Scanning 0 else (if j + 2 == x.lanes then Staging 0 else Scanning (j + 1)) })) past.entries (if b then scan_again (geometry x) s l else scan_on (geometry x) s l j)
      by true = scans_again j e
      by false = scans_on j e

  -- ---- reads

  -- the read stands that found a cell
  entry_is : (ph : Phase) (c d : Cell) → p.phase ≡ ph → c ≡ d → s.history ++ read l (s.lanes l) c ∷ [] ≡ past.entries ++ read_now l p d ∷ []
  entry_is ph c d e q = ap (λ es. es ++ read l (s.lanes l) c ∷ []) h.history ∙ ap₂ (λ (a : Lane) c. past.entries ++ read l a c ∷ []) (me ph e) q

  looks : p.phase ≡ Called → Shown x row (slice_set lanes l (record p { phase = Looking; loaded = map_found x l row p })) past.entries (look (geometry x) s l)
  looks e =
      still x row lanes past.entries s l p hs h at (look (geometry x) s l) (record p { phase = Looking; loaded = map_found x l row p })
      (record (s.lanes l) { phase = Looking; loaded = s.seen.map_at ((s.lanes l).sector / 2) }) past.entries refl
      (ap (λ (a : Lane). record a { phase = Looking; loaded = s.seen.map_at (a.sector / 2) }) (me Called e)
      ∙ ap (λ w. record (lane_at x.width p Looking (s.lanes l).log) { loaded = w }) (sym (found_is (ap uses_sector e))))
      (λ r. nowhere x s (look (geometry x) s l).lanes s.history r)
      h.history

  answers : (c d : Cell) (q : LaneNow) → p.phase ≡ Called → c ≡ d → record (lane_at x.width p Called (s.lanes l).log) { phase = Idle } ≡ lane_of x.width q (s.lanes l).log
      → Shown x row (slice_set lanes l q) (past.entries ++ read_now l p d ∷ []) (look_cell (geometry x) s l c)
  answers c d q e cd own =
      still x row lanes past.entries s l p hs h at (look_cell (geometry x) s l c) q
      (record (s.lanes l) { phase = Idle; log = (s.lanes l).log ++ read l (s.lanes l) c ∷ [] }) (past.entries ++ read_now l p d ∷ []) refl
      (ap (λ (a : Lane). record a { phase = Idle; log = (s.lanes l).log ++ read l (s.lanes l) c ∷ [] }) (me Called e)
      ∙ ap (λ (a : Lane). record a { log = (s.lanes l).log ++ read l (s.lanes l) c ∷ [] }) own)
      (λ r. nowhere x s (look_cell (geometry x) s l c).lanes (look_cell (geometry x) s l c).history r)
      (entry_is Called c d e cd)

  called_by : (k : Kind) → p.phase ≡ Called → Shown x row (slice_set lanes l (lane_looked x l row p k)) (past_looked x l row p past k).entries (found (geometry x) s l k)
  called_by kind.Zero e = answers (cell.Bytes (replicate x.width 0)) (cell.Bytes (replicate (length p.cell) 0)) (lane_looked x l row p kind.Zero) e
      (ap (λ n. cell.Bytes (replicate n 0)) (sym (ready.filled.cell (ap uses_cell e)))) refl
  called_by kind.Bad e = answers cell.Bad cell.Bad (lane_looked x l row p kind.Bad) e refl refl
  called_by kind.Initial e = looks e
  called_by kind.Normal e = looks e

  called : p.phase ≡ Called → After Called (stepped (geometry x) s l Called)
  called e = subst (λ k. Shown x row (slice_set lanes l (lane_after x l row p Called)) (past_after x l row p past Called).entries (found (geometry x) s l k)) same (called_by (kind_found x l row p) e)
    where
      same : kind_found x l row p ≡ kind_in (entry_at s.seen.map_at (s.lanes l).sector)
      same = ap (λ w. kind_in (entry_in w p.sector)) (found_is (ap uses_sector e)) ∙ ap (λ (a : Lane). kind_in (entry_at s.seen.map_at a.sector)) (sym (me Called e))

  -- the words of a block in the row
  block_word : (b k : ℕ) → b < x.sectors + x.lanes → k < x.width → s.seen.data_at b k ≡ get_or (drop (word_of x (SeenData b 0)) row.words) k 0
  block_word b k lb lk =
      sym (h.words (SeenData b k) (lb, lk)) ∙ ap (λ n. get_or row.words n 0) at_k ∙ sym (get_or-drop (word_of x (SeenData b 0)) row.words k 0)
    where
      at_k : word_of x (SeenData b k) ≡ word_of x (SeenData b 0) + k
      at_k = omega arith

  block_words : (b : ℕ) → b < x.sectors + x.lanes → listed x.width (s.seen.data_at b) ≡ take x.width (drop (word_of x (SeenData b 0)) row.words)
  block_words b lb =
      listed-take x.width (s.seen.data_at b) (drop (word_of x (SeenData b 0)) row.words) enough (λ k lk. block_word b k lb lk)
    where
      enough : x.width ≤ length (drop (word_of x (SeenData b 0)) row.words)
      enough = let a = data_ends x hs (let a = ready.lane in omega arith) b lb in let n = h.row_is.size in omega (arith, a, n, length-drop (word_of x (SeenData b 0)) row.words)

  checks_same : p.phase ≡ Published → Shown x row (slice_set lanes l (record p { phase = Reading 0; cell = [] })) (past.entries ++ read_now l p (cell_found x l row p) ∷ []) (check_same (geometry x) s l)
  checks_same e =
      still x row lanes past.entries s l p hs h at (check_same (geometry x) s l) (record p { phase = Reading 0; cell = [] })
      (record (s.lanes l) { phase = Reading 0; got = [] }) (past.entries ++ read_now l p (cell_found x l row p) ∷ []) refl
      (ap (λ (a : Lane). record a { phase = Reading 0; got = [] }) (me Published e))
      (λ r. nowhere x s (check_same (geometry x) s l).lanes (check_same (geometry x) s l).history r)
      (entry_is Published _ (cell_found x l row p) e
      (ap (λ (a : Lane). cell.Bytes (listed x.width (s.seen.data_at (looked a)))) (me Published e) ∙ ap cell.Bytes (block_words (looked_now p) (ready.filled.looked (ap uses_looked e)))))

  checks_moved : p.phase ≡ Published → Shown x row (slice_set lanes l (record p { phase = Moved })) past.entries (check_moved (geometry x) s l)
  checks_moved e =
      still x row lanes past.entries s l p hs h at (check_moved (geometry x) s l) (record p { phase = Moved }) (record (s.lanes l) { phase = Moved }) past.entries refl
      (ap (λ (a : Lane). record a { phase = Moved }) (me Published e))
      (λ r. nowhere x s (check_moved (geometry x) s l).lanes s.history r)
      h.history

  published : p.phase ≡ Published → After Published (stepped (geometry x) s l Published)
  published e =
      subst (λ b. Shown x row (slice_set lanes l (lane_after x l row p Published)) (past_after x l row p past Published).entries (if b then check_same (geometry x) s l else check_moved (geometry x) s l)) same
      (by (is_unmoved x l row p))
    where
      same : is_unmoved x l row p ≡ (entry_at s.seen.map_at (s.lanes l).sector == entry_in (s.lanes l).loaded (s.lanes l).sector)
      same = ap (λ w. entry_in w p.sector == entry_in p.loaded p.sector) (found_is (ap uses_sector e)) ∙ ap (λ (a : Lane). entry_at s.seen.map_at a.sector == entry_in a.loaded a.sector) (sym (me Published e))

      by : (b : Bool) → Shown x row (slice_set lanes l (if b then record p { phase = Reading 0; cell = [] } else record p { phase = Moved }))
          (if b then grown past (read_now l p (cell_found x l row p)) else past).entries (if b then check_same (geometry x) s l else check_moved (geometry x) s l)
      by true = checks_same e
      by false = checks_moved e

  loads_word : (k : ℕ) → p.phase ≡ Reading k → k < x.width → Shown x row (slice_set lanes l (record p { phase = Reading (k + 1); words = slice_set p.words k (word_at x row (SeenData (looked_now p) k)) })) past.entries (data_load (geometry x) s l k)
  loads_word k e lt =
      let m = me (Reading k) e in
      let w : ℕ = word_at x row (SeenData (looked_now p) k) in
      still x row lanes past.entries s l p hs h at (data_load (geometry x) s l k) (record p { phase = Reading (k + 1); words = slice_set p.words k w })
      (record (s.lanes l) { phase = Reading (k + 1); got = (s.lanes l).got ++ s.seen.data_at (looked (s.lanes l)) k ∷ [] }) past.entries refl
      (ap (λ (a : Lane). record a { phase = Reading (k + 1); got = a.got ++ s.seen.data_at (looked a) k ∷ [] }) m
      ∙ ap (λ ws. record (lane_at x.width p (Reading (k + 1)) (s.lanes l).log) { words = []; got = ws }) (more w (sym (h.words (SeenData (looked_now p) k) (ready.filled.looked (ap uses_looked e), lt)))))
      (λ r. nowhere x s (data_load (geometry x) s l k).lanes s.history r)
      h.history
    where
      long : k < length p.words
      long = let a = ready.filled.words (ap uses_words e) in omega arith

      more : (w : ℕ) → s.seen.data_at (looked_now p) k ≡ w → take k p.words ++ s.seen.data_at (looked_now p) k ∷ [] ≡ take (k + 1) (slice_set p.words k w)
      more w q =
          ap (λ v. take k p.words ++ v ∷ []) q
          ∙ ap (λ ws. ws ++ w ∷ []) (sym (take-set p.words k w))
          ∙ ap (λ v. take k (slice_set p.words k w) ++ v ∷ []) (sym (get_or-set_same p.words k w 0 long))
          ∙ sym (take-suc (slice_set p.words k w) k 0 (subst (λ n. k < n) (sym (length-set p.words k w)) long))
          ∙ ap (λ n. take n (slice_set p.words k w)) (sym (add-one k))

  ends_read : (k : ℕ) → p.phase ≡ Reading k → x.width ≤ k → Shown x (put_in row (word_of x (Reader l)) 0) (slice_set lanes l (record p { phase = Idle; words = [] })) past.entries (clear_done (geometry x) s l)
  ends_read k e le =
      let m = me (Reading k) e in
      moves x row lanes past.entries s l p hs h at (clear_done (geometry x) s l) (record p { phase = Idle; words = [] })
      (record (s.lanes l) { phase = Idle; got = []; log = (s.lanes l).log ++ read l (s.lanes l) (cell.Bytes (s.lanes l).got) ∷ [] }) past.entries
      (put_in row (word_of x (Reader l)) 0) (Reader l) 0 refl
      (ap (λ (a : Lane). record a { phase = Idle; got = []; log = (s.lanes l).log ++ read l (s.lanes l) (cell.Bytes (s.lanes l).got) ∷ [] }) m)
      ready.lane refl refl
      (put_at s.readers l 0)
      (λ r ne. but_reader x s (clear_done (geometry x) s l).lanes s.history l 0 r ne)
      h.history

  reading : (k : ℕ) → p.phase ≡ Reading k → After (Reading k) (stepped (geometry x) s l (Reading k))
  reading k e = by (nat_lt k x.width) (λ q. loads_word k e (below k x.width q)) (λ q. ends_read k e (not_below k x.width q))
    where
      by : (b : Bool) → (b ≡ true → Shown x row (slice_set lanes l (record p { phase = Reading (k + 1); words = slice_set p.words k (word_at x row (SeenData (looked_now p) k)) })) past.entries (data_load (geometry x) s l k))
          → (b ≡ false → Shown x (put_in row (word_of x (Reader l)) 0) (slice_set lanes l (record p { phase = Idle; words = [] })) past.entries (clear_done (geometry x) s l))
          → Shown x (if b then row else put_in row (word_of x (Reader l)) 0)
          (slice_set lanes l (if b then record p { phase = Reading (k + 1); words = slice_set p.words k (word_at x row (SeenData (looked_now p) k)) } else record p { phase = Idle; words = [] })) past.entries
          (if b then data_load (geometry x) s l k else clear_done (geometry x) s l)
      by true t f = t refl
      by false t f = f refl

  -- the line of each phase
  pub line_at : (ph : Phase) → p.phase ≡ ph → After ph (line_of x s l p ph)
  line_at Idle e = unchanged
  line_at (Scanning j) e = scanning j e
  line_at (Staging k) e = staging k e
  line_at Staged e = staged e
  line_at Locked e = locked e
  line_at Known e = known e
  line_at LogAStored e = kept_a e
  line_at LogA e = log_a e
  line_at LogBStored e = kept_b e
  line_at Logged e = logged e
  line_at Switched e = switched e
  line_at Kept e = kept e
  line_at Called e = called e
  line_at Looking e = looking e
  line_at Published e = published e
  line_at Moved e = moved e
  line_at (Reading k) e = reading k e
