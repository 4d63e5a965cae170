-- A step of a lane marks each word that it stores.
use Rattle.std.proofs.Common.{◌≡◌, ℕ, ◌+◌, ◌-◌, ◌*◌, ◌/◌, ◌<◌, ◌≤◌, nat_lt, if◌then◌else◌, inl, inr, suc, Bool, true, false, List, length, get_or, slice_set, slice_index, refl, sym, ap, ◌∙◌, arith, length-set, get_or-set_other, get_or-set_same}
use Rattle.std.proofs.lemmas.List.{length-replicate}
use Rattle.map_table.specs.Entry.{with_entry}
use Rattle.lane_core.specs.declared.now.LaneNow.{LaneNow}
use Rattle.lane_core.specs.declared.phase.Phase.{Phase}
use Rattle.lane_core.specs.declared.phase.Phase.TheVariants.{Idle, Scanning, Staging, Staged, Locked, Known, LogAStored, LogA, LogBStored, Logged, Switched, Kept, Called, Looking, Published, Moved, Reading}
use Rattle.lane_core.specs.declared.shape.Shape.{Shape}
use Rattle.lane_core.specs.Areas.{normal, next_seq, word_a, word_b}
use Rattle.lane_core.specs.Machine.{lock_of, other}
use Rattle.lane_core.specs.Invariant.{uses_sector}
use Rattle.lane_core.specs.Places.{IsShape, SeenData, SeenMap, SeenA, SeenB, Reader, Lock, word_of, geometry}
use Rattle.lane_core.specs.Rows.{IsMarked, RowWords, new_row, stored_in, kept_in, put_in}
use Rattle.lane_core.specs.Lines.{looked_now}
use Rattle.lane_core.specs.After.{row_after, is_free, lock_wanted}
use Rattle.lane_core.specs.Ready.{IsReady}
use Rattle.lane_core.proofs.Fresh.{first, second}
use Rattle.lane_core.proofs.Places.{seen_data_low, seen_map_low, seen_a_low, seen_b_low}
use Rattle.lane_core.proofs.Put.{same_or_not}

-- a row that was just made
pub new_marked : (x : Shape) → IsShape x → (words : List ℕ) → length words ≡ x.total → (sides : ℕ → ℕ) → IsMarked (new_row words x.lanes)
new_marked x hs words size sides i lt off =
    let count : length (new_row words x.lanes).pending ≡ x.total = length-replicate (length words) false ∙ size in
    first x hs words size sides i (omega (arith, lt, count)) ∙ sym (second x hs words size sides i (omega (arith, lt, count)))
    ∙ ap (λ n. get_or (new_row words x.lanes).words (n + i) 0) (sym count)

module _ (x : Shape) (row : RowWords) (l : ℕ) (p : LaneNow) (room : ℕ) (ready : IsReady x row l p room) (h : IsMarked row) where
  -- a word is stored
  stores : (at v : ℕ) → at < x.total → IsMarked (stored_in row at v)
  stores at v low i lt off = elim (same_or_not i at) [
    | inl e ↦ absurd (let on = sym (get_or-set_same row.pending at true false (omega (arith, low, ready.row.arena))) ∙ ap (λ j. get_or (slice_set row.pending at true) j false) (sym e) ∙ off in cc)
    | inr ne ↦
        let count = length-set row.pending at true in
        get_or-set_other row.words at i v 0 ne ∙ h i (omega (arith, lt, count)) (sym (get_or-set_other row.pending at i true false ne) ∙ off)
        ∙ sym (get_or-set_other row.words at (length row.pending + i) v 0 (λ q. omega (arith, q, low, ready.row.arena)))
        ∙ ap (λ n. get_or (slice_set row.words at v) (n + i) 0) (sym count)
  ]

  -- a word is kept
  keeps : (at : ℕ) → at < x.total → IsMarked (kept_in row at)
  keeps at low i lt off = elim (same_or_not i at) [
    | inl e ↦
        let count = length-set row.pending at false in
        get_or-set_other row.words (length row.pending + at) i (slice_index row.words at) 0 (λ q. omega (arith, q, lt, count)) ∙ ap (λ j. get_or row.words j 0) e
        ∙ sym (get_or-set_same row.words (length row.pending + at) (slice_index row.words at) 0 (omega (arith, low, ready.row.arena, ready.row.size)))
        ∙ ap (λ j. get_or (kept_in row at).words (length row.pending + j) 0) (sym e) ∙ ap (λ n. get_or (kept_in row at).words (n + i) 0) (sym count)
    | inr ne ↦
        let count = length-set row.pending at false in
        get_or-set_other row.words (length row.pending + at) i (slice_index row.words at) 0 (λ q. omega (arith, q, lt, count))
        ∙ h i (omega (arith, lt, count)) (sym (get_or-set_other row.pending at i false false ne) ∙ off)
        ∙ sym (get_or-set_other row.words (length row.pending + at) (length row.pending + i) (slice_index row.words at) 0 (λ q. ne (omega (arith, q))))
        ∙ ap (λ n. get_or (kept_in row at).words (n + i) 0) (sym count)
  ]

  -- a word behind the arena's is set
  puts : (at v : ℕ) → 2 * x.total ≤ at → IsMarked (put_in row at v)
  puts at v far i lt off =
      get_or-set_other row.words at i v 0 (λ q. omega (arith, q, lt, far, ready.row.arena)) ∙ h i lt off
      ∙ sym (get_or-set_other row.words at (length row.pending + i) v 0 (λ q. omega (arith, q, lt, far, ready.row.arena)))

  map_in : uses_sector p.phase ≡ true → 2 * (p.sector / 2) < x.sectors
  map_in e = let a = ready.sector e in omega arith

  log_in : (l < x.lanes) × (other p.side < 2)
  log_in = (ready.lane, let a = ready.side in omega arith)

  below : (a b : ℕ) → nat_lt a b ≡ true → a < b
  below a b q = grind arith

  not_below : (a b : ℕ) → nat_lt a b ≡ false → b ≤ a
  not_below a b q = grind arith

  staging : (k : ℕ) → p.phase ≡ Staging k → IsMarked (row_after x l row p (Staging k))
  staging k e = by (nat_lt k x.width) refl
    where
      by : (b : Bool) → nat_lt k x.width ≡ b
          → IsMarked (if b then stored_in row (word_of x (SeenData p.block k)) (slice_index p.words k) else kept_in row (word_of x (SeenData p.block (k - x.width))))
      by true q = stores (word_of x (SeenData p.block k)) (slice_index p.words k) (seen_data_low x ready.shape p.block k (ready.block, below k x.width q))
      by false q = keeps (word_of x (SeenData p.block (k - x.width)))
          (seen_data_low x ready.shape p.block (k - x.width) (ready.block, let a = ready.stages k e in let c = not_below k x.width q in omega arith))

  staged : IsMarked (row_after x l row p Staged)
  staged = by (is_free x l row p)
    where
      by : (b : Bool) → IsMarked (if b then put_in row (word_of x (Lock (lock_wanted x l row p))) (suc l) else row)
      by true = puts (word_of x (Lock (lock_wanted x l row p))) (suc l) (omega arith)
      by false = h

  reading : (k : ℕ) → IsMarked (row_after x l row p (Reading k))
  reading k = by (nat_lt k x.width)
    where
      by : (b : Bool) → IsMarked (if b then row else put_in row (word_of x (Reader l)) 0)
      by true = h
      by false = puts (word_of x (Reader l)) 0 (omega arith)

  pub line_marks : (ph : Phase) → p.phase ≡ ph → IsMarked (row_after x l row p ph)
  line_marks (Staging k) e = staging k e
  line_marks Staged e = staged
  line_marks Known e = stores (word_of x (SeenA l (other p.side))) (word_a p.sector (looked_now p)) (seen_a_low x ready.shape l (other p.side) log_in)
  line_marks LogAStored e = keeps (word_of x (SeenA l (other p.side))) (seen_a_low x ready.shape l (other p.side) log_in)
  line_marks LogA e = stores (word_of x (SeenB l (other p.side))) (word_b p.block (next_seq p.half.seq)) (seen_b_low x ready.shape l (other p.side) log_in)
  line_marks LogBStored e = keeps (word_of x (SeenB l (other p.side))) (seen_b_low x ready.shape l (other p.side) log_in)
  line_marks Logged e = stores (word_of x (SeenMap (p.sector / 2))) (with_entry p.loaded p.sector (normal p.block)) (seen_map_low x ready.shape (p.sector / 2) (map_in (ap uses_sector e)))
  line_marks Switched e = keeps (word_of x (SeenMap (p.sector / 2))) (seen_map_low x ready.shape (p.sector / 2) (map_in (ap uses_sector e)))
  line_marks Kept e = puts (word_of x (Lock (lock_of (geometry x) p.sector))) 0 (omega arith)
  line_marks Looking e = puts (word_of x (Reader l)) (suc (looked_now p)) (omega arith)
  line_marks Moved e = puts (word_of x (Reader l)) 0 (omega arith)
  line_marks (Reading k) e = reading k
  line_marks Idle e = h
  line_marks (Scanning j) e = h
  line_marks Locked e = h
  line_marks Called e = h
  line_marks Published e = h
