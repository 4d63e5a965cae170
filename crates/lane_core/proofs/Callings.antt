-- A call that begins keeps what a core keeps.
use Rattle.std.proofs.Common.{◌≡◌, ℕ, ◌<◌, ◌≤◌, ◌==◌, if◌then◌else◌, zero, suc, Bool, true, false, List, [], ◌∷◌, length, take, slice_get, slice_set, Some, refl, sym, ap, ◌∙◌, subst, arith, length-set}
use Rattle.nvd_words.specs.declared.tag.Tag.{Tag}
use Rattle.lane_core.specs.declared.history.Entry.{Entry}
use Rattle.lane_core.specs.declared.lane.Lane.{Lane}
use Rattle.lane_core.specs.declared.now.LaneNow.{LaneNow}
use Rattle.lane_core.specs.declared.phase.Phase.{Phase}
use Rattle.lane_core.specs.declared.phase.Phase.TheVariants.{Idle, Scanning, Staging, Called}
use Rattle.lane_core.specs.declared.shape.Shape.{Shape}
use Rattle.lane_core.specs.History.{Cells}
use Rattle.lane_core.specs.Machine.{State, first_phase, begin_read, begin_write}
use Rattle.lane_core.specs.Invariant.{stored}
use Rattle.lane_core.specs.Places.{IsShape, geometry}
use Rattle.lane_core.specs.Rows.{RowWords, Recorded}
use Rattle.lane_core.specs.After.{uses_cell, uses_looked}
use Rattle.lane_core.specs.Showing.{Shown, lane_at, lane_of}
use Rattle.lane_core.specs.Cores.{owing, ShowsSound}
use Rattle.lane_core.specs.Begins.{is_idle, read_begun, write_begun}
use Rattle.lane_core.proofs.Put.{never}
use Rattle.lane_core.proofs.Elsewhere.{nowhere}
use Rattle.lane_core.proofs.Showing.{lane_is, lane_lt, still}
use Rattle.lane_core.proofs.Turns.{begin_read_sound, begin_write_sound}
use Rattle.lane_core.proofs.Cores.{owing_few, filled_set}

module _ (x : Shape) (row : RowWords) (lanes : List LaneNow) (entries : List Entry) (s : State) (l : ℕ) (p : LaneNow) (hs : IsShape x) (h : Shown x row lanes entries s) (at : slice_get lanes l ≡ Some p) (idle : p.phase ≡ Idle) where
  me : s.lanes l ≡ lane_at x.width p Idle (s.lanes l).log
  me = lane_is x row lanes entries s l p hs h at Idle idle

  pub read_shown : (tag : Tag) (sector : ℕ) (words cell : List ℕ) → Shown x row (slice_set lanes l (read_begun p tag sector words cell)) entries (begin_read (geometry x) s l tag sector)
  read_shown tag sector words cell =
      still x row lanes entries s l p hs h at (begin_read (geometry x) s l tag sector) (read_begun p tag sector words cell)
      (record (s.lanes l) { phase = Called; tag = tag; sector = sector }) entries refl
      (ap (λ (a : Lane). record a { phase = Called; tag = tag; sector = sector }) me)
      (λ r. nowhere x s (begin_read (geometry x) s l tag sector).lanes s.history r)
      h.history

  pub write_shown : (tag : Tag) (sector : ℕ) (words : List ℕ) → Shown x row (slice_set lanes l (write_begun x p tag sector words)) entries (begin_write (geometry x) s l)
  write_shown tag sector words =
      still x row lanes entries s l p hs h at (begin_write (geometry x) s l) (write_begun x p tag sector words)
      (record (s.lanes l) { phase = first_phase (geometry x); words = [] }) entries refl
      (ap (λ (a : Lane). record a { phase = first_phase (geometry x); words = [] }) me ∙ rest (x.lanes == 1))
      (λ r. nowhere x s (begin_write (geometry x) s l).lanes s.history r)
      h.history
    where
      none : stored x.width (Staging 0) ≡ 0
      none = omega arith

      rest : (b : Bool) → record (lane_at x.width p Idle (s.lanes l).log) { phase = if b then Staging 0 else Scanning 0; words = [] }
          ≡ lane_of x.width (record p { phase = if b then Staging 0 else Scanning 0; words = words; next = tag; next_sector = sector }) (s.lanes l).log
      rest true = ap (λ n. record (lane_at x.width p Idle (s.lanes l).log) { phase = Staging 0; words = take n words }) (sym none)
      rest false = refl

module _ (x : Shape) (row : RowWords) (lanes : List LaneNow) (past past' : Recorded) (o : Cells) (s : State) (l : ℕ) (p : LaneNow) (h : ShowsSound x row lanes past o s) (at : slice_get lanes l ≡ Some p) (idle : p.phase ≡ Idle) (same : past'.entries ≡ past.entries) (room : length lanes ≤ past'.room) where
  phase_is : (s.lanes l).phase ≡ Idle
  phase_is = ap (λ (a : Lane). a.phase) (h.shown.each l p at) ∙ idle

  lt : l < x.lanes
  lt = lane_lt x row lanes past.entries s l p h.shape h.shown at

  enough : (q : LaneNow) → owing (slice_set lanes l q) ≤ past'.room
  enough q = let a = owing_few (slice_set lanes l q) in let b = length-set lanes l q in omega (arith, a, b, room)

  pub read_core : (tag : Tag) (sector : ℕ) (words cell : List ℕ) → sector < x.sectors → length words ≡ x.width → length cell ≡ x.width
      → ShowsSound x row (slice_set lanes l (read_begun p tag sector words cell)) past' o (begin_read (geometry x) s l tag sector)
  read_core tag sector words cell ls lw lc = record {
    shape = h.shape;
    shown = subst (λ es. Shown x row (slice_set lanes l (read_begun p tag sector words cell)) es (begin_read (geometry x) s l tag sector)) (sym same) (read_shown x row lanes past.entries s l p h.shape h.shown at idle tag sector words cell);
    sound = begin_read_sound (geometry x) o s l h.sound lt tag sector phase_is ls;
    filled = filled_set x row lanes past o s l p h at (read_begun p tag sector words cell) (record { words = λ u. lw; cell = λ u. lc; next = λ u. never u; looked = λ u. never u });
    room = enough (read_begun p tag sector words cell);
  }

  pub write_core : (tag : Tag) (sector : ℕ) (words : List ℕ) → sector < x.sectors → length words ≡ x.width
      → ShowsSound x row (slice_set lanes l (write_begun x p tag sector words)) past' o (begin_write (geometry x) s l)
  write_core tag sector words ls lw = record {
    shape = h.shape;
    shown = subst (λ es. Shown x row (slice_set lanes l (write_begun x p tag sector words)) es (begin_write (geometry x) s l)) (sym same) (write_shown x row lanes past.entries s l p h.shape h.shown at idle tag sector words);
    sound = begin_write_sound (geometry x) o s l h.sound lt phase_is;
    filled = filled_set x row lanes past o s l p h at (write_begun x p tag sector words) (record {
      words = λ u. lw;
      cell = λ u. never (sym (no_cell (x.lanes == 1)) ∙ u);
      next = λ u. ls;
      looked = λ u. never (sym (no_looked (x.lanes == 1)) ∙ u);
    });
    room = enough (write_begun x p tag sector words);
  }
    where
      no_cell : (b : Bool) → uses_cell (if b then Staging 0 else Scanning 0) ≡ false
      no_cell true = refl
      no_cell false = refl

      no_looked : (b : Bool) → uses_looked (if b then Staging 0 else Scanning 0) ≡ false
      no_looked true = refl
      no_looked false = refl

pub some_lane : (xs : List LaneNow) (l : ℕ) → l < length xs → (p : LaneNow) × (slice_get xs l ≡ Some p)
some_lane [] l lt = absurd (omega arith)
some_lane (x ∷ xs) zero lt = (x, refl)
some_lane (x ∷ xs) (suc l) lt = some_lane xs l (omega arith)

pub idle_is : (ph : Phase) → is_idle ph ≡ true → ph ≡ Idle
idle_is Idle e = refl
idle_is _ e = never e
