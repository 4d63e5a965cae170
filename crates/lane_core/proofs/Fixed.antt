-- A step of a lane stores no fixed word.
use Rattle.std.proofs.Common.{◌≡◌, ◌≢◌, ℕ, ◌+◌, ◌-◌, ◌*◌, ◌/◌, ◌<◌, ◌≤◌, nat_lt, if◌then◌else◌, suc, Bool, true, false, List, length, get_or, slice_set, slice_index, refl, sym, ap, ◌∙◌, arith, mod-lt, get_or-set_other}
use Rattle.map_table.specs.Entry.{with_entry}
use Rattle.lane_core.specs.declared.now.LaneNow.{LaneNow}
use Rattle.lane_core.specs.declared.phase.Phase.{Phase}
use Rattle.lane_core.specs.declared.phase.Phase.TheVariants.{Idle, Scanning, Staging, Staged, Locked, Known, LogAStored, LogA, LogBStored, Logged, Switched, Kept, Called, Looking, Published, Moved, Reading}
use Rattle.lane_core.specs.declared.shape.Shape.{Shape}
use Rattle.lane_core.specs.Areas.{normal, next_seq, word_a, word_b}
use Rattle.lane_core.specs.Machine.{lock_of, other}
use Rattle.lane_core.specs.Invariant.{uses_sector}
use Rattle.lane_core.specs.Places.{IsShape, Place, SeenData, KeptData, SeenMap, KeptMap, SeenA, KeptA, SeenB, KeptB, Reader, Lock, IsIn, word_of, geometry}
use Rattle.lane_core.specs.Rows.{RowWords, stored_in, kept_in, put_in}
use Rattle.lane_core.specs.Lines.{looked_now, word_at}
use Rattle.lane_core.specs.After.{row_after, is_free, lock_wanted}
use Rattle.lane_core.specs.Ready.{IsReady}
use Rattle.lane_core.specs.Fixed.{IsFixed, RowHasFixed}
use Rattle.lane_core.proofs.Places.{seen_data_low, seen_map_low, seen_a_low, seen_b_low}

-- nor is the kept copy of a fixed word at a place
pub kept_apart : (x : Shape) → IsShape x → (p : Place) → IsIn x p → (i : ℕ) → IsFixed x i → word_of x p ≢ x.total + i
kept_apart x hs (SeenData b k) m i f = λ e. let a = seen_data_low x hs b k m in omega arith
kept_apart x hs (SeenMap k) m i f = λ e. let a = seen_map_low x hs k m in omega arith
kept_apart x hs (SeenA l side) m i f = λ e. let a = seen_a_low x hs l side m in omega arith
kept_apart x hs (SeenB l side) m i f = λ e. let a = seen_b_low x hs l side m in omega arith
kept_apart x hs (KeptData b k) m i f = λ e. f.apart (SeenData b k) m (omega arith)
kept_apart x hs (KeptMap k) m i f = λ e. f.apart (SeenMap k) m (omega arith)
kept_apart x hs (KeptA l side) m i f = λ e. f.apart (SeenA l side) m (omega arith)
kept_apart x hs (KeptB l side) m i f = λ e. f.apart (SeenB l side) m (omega arith)
kept_apart x hs (Reader l) m i f = λ e. let a = f.inside in omega arith
kept_apart x hs (Lock k) m i f = λ e. let a = f.inside in omega arith

module _ (x : Shape) (row : RowWords) (l : ℕ) (p : LaneNow) (room : ℕ) (ready : IsReady x row l p room) (words : List ℕ) (h : RowHasFixed x words row.words) where
  -- one word at a place is stored
  set_keeps : (place : Place) (v : ℕ) (now : List ℕ) → IsIn x place → now ≡ slice_set row.words (word_of x place) v → RowHasFixed x words now
  set_keeps place v now m e i f = (
    ap (λ ws. get_or ws i 0) e ∙ get_or-set_other row.words (word_of x place) i v 0 (λ q. f.apart place m (sym q)) ∙ (h i f).0,
    ap (λ ws. get_or ws (x.total + i) 0) e ∙ get_or-set_other row.words (word_of x place) (x.total + i) v 0 (λ q. kept_apart x ready.shape place m i f (sym q)) ∙ (h i f).1,
  )

  -- the kept copy of a word
  keep_at : (at v : ℕ) → slice_set row.words (length row.pending + at) v ≡ slice_set row.words (x.total + at) v
  keep_at at v = ap (λ n. slice_set row.words (n + at) v) ready.row.arena

  lock_lt : (t : ℕ) → lock_of (geometry x) t < x.lanes
  unfolding lock_of
  lock_lt t = mod-lt (t / 2) (let a = ready.lane in omega arith)

  map_in : uses_sector p.phase ≡ true → 2 * (p.sector / 2) < x.sectors
  map_in e = let a = ready.sector e in omega arith

  log_in : (l < x.lanes) × (other p.side < 2)
  log_in = (ready.lane, let a = ready.side in omega arith)

  below : (a b : ℕ) → nat_lt a b ≡ true → a < b
  below a b q = grind arith

  not_below : (a b : ℕ) → nat_lt a b ≡ false → b ≤ a
  not_below a b q = grind arith

  staging : (k : ℕ) → p.phase ≡ Staging k → RowHasFixed x words (row_after x l row p (Staging k)).words
  staging k e = by (nat_lt k x.width) refl
    where
      by : (b : Bool) → nat_lt k x.width ≡ b
          → RowHasFixed x words (if b then stored_in row (word_of x (SeenData p.block k)) (slice_index p.words k) else kept_in row (word_of x (SeenData p.block (k - x.width)))).words
      by true q = set_keeps (SeenData p.block k) (slice_index p.words k) _ (ready.block, below k x.width q) refl
      by false q = set_keeps (KeptData p.block (k - x.width)) (word_at x row (SeenData p.block (k - x.width))) _
          (ready.block, let a = ready.stages k e in let c = not_below k x.width q in omega arith)
          (keep_at (word_of x (SeenData p.block (k - x.width))) (word_at x row (SeenData p.block (k - x.width))))

  staged : RowHasFixed x words (row_after x l row p Staged).words
  staged = by (is_free x l row p)
    where
      by : (b : Bool) → RowHasFixed x words (if b then put_in row (word_of x (Lock (lock_wanted x l row p))) (suc l) else row).words
      by true = set_keeps (Lock (lock_wanted x l row p)) (suc l) _ (lock_lt p.next_sector) refl
      by false = h

  reading : (k : ℕ) → RowHasFixed x words (row_after x l row p (Reading k)).words
  reading k = by (nat_lt k x.width)
    where
      by : (b : Bool) → RowHasFixed x words (if b then row else put_in row (word_of x (Reader l)) 0).words
      by true = h
      by false = set_keeps (Reader l) 0 _ ready.lane refl

  pub line_keeps : (ph : Phase) → p.phase ≡ ph → RowHasFixed x words (row_after x l row p ph).words
  line_keeps (Staging k) e = staging k e
  line_keeps Staged e = staged
  line_keeps Known e = set_keeps (SeenA l (other p.side)) (word_a p.sector (looked_now p)) _ log_in refl
  line_keeps LogAStored e = set_keeps (KeptA l (other p.side)) (word_at x row (SeenA l (other p.side))) _ log_in (keep_at (word_of x (SeenA l (other p.side))) (word_at x row (SeenA l (other p.side))))
  line_keeps LogA e = set_keeps (SeenB l (other p.side)) (word_b p.block (next_seq p.half.seq)) _ log_in refl
  line_keeps LogBStored e = set_keeps (KeptB l (other p.side)) (word_at x row (SeenB l (other p.side))) _ log_in (keep_at (word_of x (SeenB l (other p.side))) (word_at x row (SeenB l (other p.side))))
  line_keeps Logged e = set_keeps (SeenMap (p.sector / 2)) (with_entry p.loaded p.sector (normal p.block)) _ (map_in (ap uses_sector e)) refl
  line_keeps Switched e = set_keeps (KeptMap (p.sector / 2)) (word_at x row (SeenMap (p.sector / 2))) _ (map_in (ap uses_sector e)) (keep_at (word_of x (SeenMap (p.sector / 2))) (word_at x row (SeenMap (p.sector / 2))))
  line_keeps Kept e = set_keeps (Lock (lock_of (geometry x) p.sector)) 0 _ (lock_lt p.sector) refl
  line_keeps Looking e = set_keeps (Reader l) (suc (looked_now p)) _ ready.lane refl
  line_keeps Moved e = set_keeps (Reader l) 0 _ ready.lane refl
  line_keeps (Reading k) e = reading k
  line_keeps Idle e = h
  line_keeps (Scanning j) e = h
  line_keeps Locked e = h
  line_keeps Called e = h
  line_keeps Published e = h
