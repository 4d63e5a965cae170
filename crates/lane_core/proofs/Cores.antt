-- A step of a lane keeps what a core keeps.
use Rattle.std.proofs.Common.{◌≡◌, ℕ, ◌+◌, ◌*◌, ◌/◌, ◌<◌, ◌≤◌, ◌==◌, nat_lt, if◌then◌else◌, inl, inr, zero, suc, Bool, true, false, List, [], ◌∷◌, length, get_or, slice_get, slice_set, slice_index, Some, refl, sym, ap, ◌∙◌, subst, arith, length-set, get_or-set_same, get_or-set_other}
use Rattle.std.proofs.lemmas.Option.{get_or_from_slice_get, slice_get_within, slice_get-get_or}
use Rattle.map_table.specs.Entry.{entry_in}
use Rattle.map_table.specs.declared.kinds.Kind.{Kind}
use Rattle.map_table.specs.declared.kinds.Kind.TheVariants as kind
use Rattle.lane_core.specs.declared.lane.Lane.{Lane}
use Rattle.lane_core.specs.declared.now.LaneNow.{LaneNow}
use Rattle.lane_core.specs.declared.phase.Phase.{Phase}
use Rattle.lane_core.specs.declared.phase.Phase.TheVariants.{Idle, Scanning, Staging, Staged, Locked, Known, LogAStored, LogA, LogBStored, Logged, Switched, Kept, Called, Looking, Published, Moved, Reading}
use Rattle.lane_core.specs.declared.shape.Shape.{Shape}
use Rattle.lane_core.specs.Areas.{block_in}
use Rattle.lane_core.specs.History.{Cells}
use Rattle.lane_core.specs.Machine.{State, data_store, data_keep}
use Rattle.lane_core.specs.Invariant.{IsSound, uses_sector}
use Rattle.lane_core.specs.Places.{SeenMap, geometry}
use Rattle.lane_core.specs.Rows.{RowWords, Recorded, grown}
use Rattle.lane_core.specs.Lines.{looked_now, read_now}
use Rattle.lane_core.specs.After.{cell_found, row_after, lane_after, past_after, lane_looked, past_looked, kind_found, map_found, is_free, is_unmoved, uses_words, uses_cell, uses_looked, wants_lock, owes_entry}
use Rattle.lane_core.specs.Ready.{IsFilled, IsReady}
use Rattle.lane_core.specs.Showing.{lane_of, line_of}
use Rattle.lane_core.specs.Cores.{owed, owing, ShowsSound}
use Rattle.lane_core.proofs.Put.{never, same_or_not}
use Rattle.lane_core.proofs.Showing.{lane_lt}
use Rattle.lane_core.proofs.Simulated.{line_at}
use Rattle.lane_core.proofs.Staging.{data_store_sound, data_keep_sound}
use Rattle.lane_core.proofs.Whole.{took_sound, stepped_sound}

some_same : {a b : LaneNow} → Some a ≡ Some b → a ≡ b
some_same e = cc

-- how many owe an entry after one lane changed
owing_set : (xs : List LaneNow) (l : ℕ) (p q : LaneNow) → slice_get xs l ≡ Some p → owing (slice_set xs l q) + owed p.phase ≡ owing xs + owed q.phase
owing_set [] l p q e = cc
owing_set (x ∷ xs) zero p q e = subst (λ (x : LaneNow). owed q.phase + owing xs + owed p.phase ≡ owed x.phase + owing xs + owed q.phase) (sym (some_same e)) (omega arith)
owing_set (x ∷ xs) (suc l) p q e = let r = owing_set xs l p q e in omega (arith, r)

pub owing_few : (xs : List LaneNow) → owing xs ≤ length xs
owing_few [] = omega arith
owing_few (x ∷ xs) = let r = owing_few xs in one (owes_entry x.phase) r
  where
    one : (b : Bool) → owing xs ≤ length xs → (if b then 1 else 0) + owing xs ≤ length (x ∷ xs)
    one true r = omega arith
    one false r = omega arith

-- a lane that owes one is among them
owing_some : (xs : List LaneNow) (l : ℕ) (p : LaneNow) → slice_get xs l ≡ Some p → owes_entry p.phase ≡ true → 0 < owing xs
owing_some [] l p e o = cc
owing_some (x ∷ xs) zero p e o = subst (λ n. 0 < n + owing xs) (sym (ap (λ b. if b then 1 else 0) (ap (λ (y : LaneNow). owes_entry y.phase) (some_same e) ∙ o))) (omega arith)
owing_some (x ∷ xs) (suc l) p e o = let r = owing_some xs l p e o in omega (arith, r)

module _ (x : Shape) (row : RowWords) (lanes : List LaneNow) (past : Recorded) (o : Cells) (s : State) (l : ℕ) (p : LaneNow) (h : ShowsSound x row lanes past o s) (at : slice_get lanes l ≡ Some p) where
  lt : l < x.lanes
  lt = lane_lt x row lanes past.entries s l p h.shape h.shown at

  -- the state's lane is that of the core
  same : s.lanes l ≡ lane_of x.width p (s.lanes l).log
  same = h.shown.each l p at

  phase_is : (s.lanes l).phase ≡ p.phase
  phase_is = ap (λ (a : Lane). a.phase) same

  -- the lane is ready for its step
  pub ready : IsReady x row l p past.room
  ready =
      let his = h.sound.each l lt in
      record {
        shape = h.shape;
        row = h.shown.row_is;
        lane = lt;
        filled = h.filled l p at;
        room = λ e. let a = owing_some lanes l p at e in let b = h.room in omega arith;
        block = subst (λ (a : Lane). a.block < x.sectors + x.lanes) same (h.sound.blocks.lane_in l lt);
        side = subst (λ (a : Lane). a.side < 2) same his.halves.two;
        seq_low = subst (λ (a : Lane). 0 < a.half.seq) same his.halves.newer.0;
        seq_high = subst (λ (a : Lane). a.half.seq ≤ 3) same his.halves.newer.1;
        scans = λ j e. his.knows.scans j (phase_is ∙ e);
        stages = λ k e. his.knows.stages k (phase_is ∙ e);
        reads = λ k e. (his.tells.loaded k (phase_is ∙ e)).0;
        sector = λ e. subst (λ (a : Lane). a.sector < x.sectors) same (his.knows.in_range (ap uses_sector phase_is ∙ e));
      }

  -- the line keeps the invariant
  line_sound : (ph : Phase) → p.phase ≡ ph → IsSound (geometry x) o (line_of x s l p ph)
  line_sound (Staging k) e = by (nat_lt k x.width) refl
    where
      below : nat_lt k x.width ≡ true → k < x.width
      below q = grind arith

      not_below : nat_lt k x.width ≡ false → x.width ≤ k
      not_below q = grind arith

      by : (b : Bool) → nat_lt k x.width ≡ b → IsSound (geometry x) o (if b then data_store (geometry x) s l k (slice_index p.words k) else data_keep (geometry x) s l k)
      by true q = data_store_sound (geometry x) o s l k (slice_index p.words k) h.sound lt (phase_is ∙ e) (below q)
      by false q = data_keep_sound (geometry x) o s l k h.sound lt (phase_is ∙ e) (not_below q)
  line_sound Staged e = took_sound (geometry x) o s l h.sound lt p.next p.next_sector ((h.filled l p at).next (ap wants_lock e)) Staged (phase_is ∙ e)
  line_sound Idle e = stepped_sound (geometry x) o s l h.sound lt Idle (phase_is ∙ e)
  line_sound (Scanning j) e = stepped_sound (geometry x) o s l h.sound lt (Scanning j) (phase_is ∙ e)
  line_sound Locked e = stepped_sound (geometry x) o s l h.sound lt Locked (phase_is ∙ e)
  line_sound Known e = stepped_sound (geometry x) o s l h.sound lt Known (phase_is ∙ e)
  line_sound LogAStored e = stepped_sound (geometry x) o s l h.sound lt LogAStored (phase_is ∙ e)
  line_sound LogA e = stepped_sound (geometry x) o s l h.sound lt LogA (phase_is ∙ e)
  line_sound LogBStored e = stepped_sound (geometry x) o s l h.sound lt LogBStored (phase_is ∙ e)
  line_sound Logged e = stepped_sound (geometry x) o s l h.sound lt Logged (phase_is ∙ e)
  line_sound Switched e = stepped_sound (geometry x) o s l h.sound lt Switched (phase_is ∙ e)
  line_sound Kept e = stepped_sound (geometry x) o s l h.sound lt Kept (phase_is ∙ e)
  line_sound Called e = stepped_sound (geometry x) o s l h.sound lt Called (phase_is ∙ e)
  line_sound Looking e = stepped_sound (geometry x) o s l h.sound lt Looking (phase_is ∙ e)
  line_sound Published e = stepped_sound (geometry x) o s l h.sound lt Published (phase_is ∙ e)
  line_sound Moved e = stepped_sound (geometry x) o s l h.sound lt Moved (phase_is ∙ e)
  line_sound (Reading k) e = stepped_sound (geometry x) o s l h.sound lt (Reading k) (phase_is ∙ e)

  -- the lane has its words after the line, and the room for its entry is there
  record Left (q : LaneNow) (after : Recorded) : Type 0 where
    filled : IsFilled x q
    room : owed q.phase + past.room ≤ owed p.phase + after.room

  f : IsFilled x p
  f = h.filled l p at

  -- the phase of p is known
  owes : (ph : Phase) (n m : ℕ) → p.phase ≡ ph → n ≤ owed ph + m → n ≤ owed p.phase + m
  owes ph n m e le = subst (λ ph. n ≤ owed ph + m) (sym e) le

  -- only the words are needed
  with_words : (q : LaneNow) → length q.words ≡ x.width → uses_cell q.phase ≡ false → wants_lock q.phase ≡ false → uses_looked q.phase ≡ false → IsFilled x q
  with_words q w a b c = record { words = λ u. w; cell = λ u. never (sym a ∙ u); next = λ u. never (sym b ∙ u); looked = λ u. never (sym c ∙ u) }

  -- nothing is needed
  with_none : (q : LaneNow) → uses_words q.phase ≡ false → uses_cell q.phase ≡ false → wants_lock q.phase ≡ false → uses_looked q.phase ≡ false → IsFilled x q
  with_none q w a b c = record { words = λ u. never (sym w ∙ u); cell = λ u. never (sym a ∙ u); next = λ u. never (sym b ∙ u); looked = λ u. never (sym c ∙ u) }

  -- a write that hasn't its lock
  with_next : (q : LaneNow) → length q.words ≡ x.width → q.next_sector < x.sectors → uses_cell q.phase ≡ false → uses_looked q.phase ≡ false → IsFilled x q
  with_next q w n a c = record { words = λ u. w; cell = λ u. never (sym a ∙ u); next = λ u. n; looked = λ u. never (sym c ∙ u) }

  -- a read that looks at its block, with the room for its entry's cell
  with_cell : (q : LaneNow) → length q.words ≡ x.width → length q.cell ≡ x.width → wants_lock q.phase ≡ false → (uses_looked q.phase ≡ true → looked_now q < x.sectors + x.lanes) → IsFilled x q
  with_cell q w c b k = record { words = λ u. w; cell = λ u. c; next = λ u. never (sym b ∙ u); looked = k }

  by_scan : (P : Phase → Type 0) (b c : Bool) (j : ℕ) → P (Scanning 0) → P (Staging 0) → P (Scanning (j + 1)) → P (if b then Scanning 0 else (if c then Staging 0 else Scanning (j + 1)))
  by_scan P true c j u v w = u
  by_scan P false true j u v w = v
  by_scan P false false j u v w = w

  left_scanning : (j : ℕ) → p.phase ≡ Scanning j → Left (lane_after x l row p (Scanning j)) past
  left_scanning j e =
      by_scan (λ ph. Left (record p { phase = ph }) past) _ _ j (one (Scanning 0) refl refl refl) (one (Staging 0) refl refl refl) (one (Scanning (j + 1)) refl refl refl)
    where
      one : (ph : Phase) → uses_cell ph ≡ false → uses_looked ph ≡ false → owes_entry ph ≡ true → Left (record p { phase = ph }) past
      one ph a c d = record {
        filled = with_next (record p { phase = ph }) (f.words (ap uses_words e)) (f.next (ap wants_lock e)) a c;
        room = owes (Scanning j) (owed ph + past.room) past.room e (subst (λ b. (if b then 1 else 0) + past.room ≤ 1 + past.room) (sym d) (omega arith));
      }

  choose : (P : LaneNow → Type 0) (b : Bool) (u v : LaneNow) → P u → P v → P (if b then u else v)
  choose P true u v a c = a
  choose P false u v a c = c

  left_staging : (k : ℕ) → p.phase ≡ Staging k → Left (lane_after x l row p (Staging k)) past
  left_staging k e =
      choose (λ q. Left q past) (nat_lt k x.width) _ _ (one (Staging (k + 1)) refl refl refl) (kept (k + 1 == 2 * x.width))
    where
      one : (ph : Phase) → uses_cell ph ≡ false → uses_looked ph ≡ false → owes_entry ph ≡ true → Left (record p { phase = ph }) past
      one ph a c d = record {
        filled = with_next (record p { phase = ph }) (f.words (ap uses_words e)) (f.next (ap wants_lock e)) a c;
        room = owes (Staging k) (owed ph + past.room) past.room e (subst (λ b. (if b then 1 else 0) + past.room ≤ 1 + past.room) (sym d) (omega arith));
      }

      kept : (b : Bool) → Left (record p { phase = if b then Staged else Staging (k + 1) }) past
      kept true = one Staged refl refl refl
      kept false = one (Staging (k + 1)) refl refl refl

  left_staged : p.phase ≡ Staged → Left (lane_after x l row p Staged) past
  left_staged e = choose (λ q. Left q past) (is_free x l row p) _ _
      (record { filled = with_words _ (f.words (ap uses_words e)) refl refl refl; room = owes Staged _ past.room e (omega arith) })
      (record { filled = f; room = omega arith })

  -- the block of an entry that the map has
  block_found : p.phase ≡ Called → looked_now (record p { phase = Looking; loaded = map_found x l row p }) < x.sectors + x.lanes
  block_found e =
      let ls : p.sector < x.sectors = ready.sector (ap uses_sector e) in
      subst (λ w. block_in (entry_in w p.sector) p.sector < x.sectors + x.lanes) (sym (h.shown.words (SeenMap (p.sector / 2)) (omega arith))) (h.sound.blocks.map_in p.sector ls)

  left_called : (k : Kind) → p.phase ≡ Called → Left (lane_looked x l row p k) (past_looked x l row p past k)
  left_called kind.Zero e = record { filled = with_none _ refl refl refl refl; room = owes Called _ _ e (omega arith) }
  left_called kind.Bad e = record { filled = with_none _ refl refl refl refl; room = owes Called _ _ e (omega arith) }
  left_called kind.Initial e = record { filled = with_cell _ (f.words (ap uses_words e)) (f.cell (ap uses_cell e)) refl (λ u. block_found e); room = owes Called _ past.room e (omega arith) }
  left_called kind.Normal e = record { filled = with_cell _ (f.words (ap uses_words e)) (f.cell (ap uses_cell e)) refl (λ u. block_found e); room = owes Called _ past.room e (omega arith) }

  left_published : p.phase ≡ Published → Left (lane_after x l row p Published) (past_after x l row p past Published)
  left_published e = by (is_unmoved x l row p)
    where
      by : (b : Bool) → Left (if b then record p { phase = Reading 0; cell = [] } else record p { phase = Moved }) (if b then grown past (read_now l p (cell_found x l row p)) else past)
      by true = record {
        filled = record { words = λ u. f.words (ap uses_words e); cell = λ u. never u; next = λ u. never u; looked = λ u. f.looked (ap uses_looked e) };
        room = owes Published _ _ e (omega arith);
      }
      by false = record { filled = with_cell _ (f.words (ap uses_words e)) (f.cell (ap uses_cell e)) refl (λ u. never u); room = owes Published _ past.room e (omega arith) }

  left_reading : (k : ℕ) → p.phase ≡ Reading k → Left (lane_after x l row p (Reading k)) past
  left_reading k e = choose (λ q. Left q past) (nat_lt k x.width) _ _
      (record {
        filled = record { words = λ u. length-set p.words k _ ∙ f.words (ap uses_words e); cell = λ u. never u; next = λ u. never u; looked = λ u. f.looked (ap uses_looked e) };
        room = owes (Reading k) _ past.room e (omega arith);
      })
      (record { filled = with_none _ refl refl refl refl; room = owes (Reading k) _ past.room e (omega arith) })

  left_at : (ph : Phase) → p.phase ≡ ph → Left (lane_after x l row p ph) (past_after x l row p past ph)
  left_at Idle e = record { filled = f; room = omega arith }
  left_at (Scanning j) e = left_scanning j e
  left_at (Staging k) e = left_staging k e
  left_at Staged e = left_staged e
  left_at Locked e = record { filled = with_words _ (f.words (ap uses_words e)) refl refl refl; room = owes Locked _ past.room e (omega arith) }
  left_at Known e = record { filled = with_words _ (f.words (ap uses_words e)) refl refl refl; room = owes Known _ past.room e (omega arith) }
  left_at LogAStored e = record { filled = with_words _ (f.words (ap uses_words e)) refl refl refl; room = owes LogAStored _ past.room e (omega arith) }
  left_at LogA e = record { filled = with_words _ (f.words (ap uses_words e)) refl refl refl; room = owes LogA _ past.room e (omega arith) }
  left_at LogBStored e = record { filled = with_words _ (f.words (ap uses_words e)) refl refl refl; room = owes LogBStored _ past.room e (omega arith) }
  left_at Logged e = record { filled = with_none _ refl refl refl refl; room = owes Logged _ _ e (omega arith) }
  left_at Switched e = record { filled = with_none _ refl refl refl refl; room = owes Switched _ past.room e (omega arith) }
  left_at Kept e = record { filled = with_none _ refl refl refl refl; room = owes Kept _ past.room e (omega arith) }
  left_at Called e = left_called (kind_found x l row p) e
  left_at Looking e = record { filled = with_cell _ (f.words (ap uses_words e)) (f.cell (ap uses_cell e)) refl (λ u. f.looked (ap uses_looked e)); room = owes Looking _ past.room e (omega arith) }
  left_at Published e = left_published e
  left_at Moved e = record { filled = with_cell _ (f.words (ap uses_words e)) (f.cell (ap uses_cell e)) refl (λ u. never u); room = owes Moved _ past.room e (omega arith) }
  left_at (Reading k) e = left_reading k e

  pub filled_set : (q : LaneNow) → IsFilled x q → (i : ℕ) (r : LaneNow) → slice_get (slice_set lanes l q) i ≡ Some r → IsFilled x r
  filled_set q fq i r is = elim (same_or_not i l) [
    | inl e ↦ subst (IsFilled x) (sym (get_or-set_same lanes l q r (slice_get_within lanes l p at)) ∙ ap (λ j. get_or (slice_set lanes l q) j r) (sym e) ∙ get_or_from_slice_get (slice_set lanes l q) i r r is) fq
    | inr ne ↦ h.filled i r (slice_get-get_or lanes i r (subst (λ n. i < n) (length-set lanes l q) (slice_get_within (slice_set lanes l q) i r is))
        ∙ ap Some (sym (get_or-set_other lanes l i q r ne) ∙ get_or_from_slice_get (slice_set lanes l q) i r r is))
  ]

  -- after its line the core shows a sound state again
  pub stepped_core : ShowsSound x (row_after x l row p p.phase) (slice_set lanes l (lane_after x l row p p.phase)) (past_after x l row p past p.phase) o (line_of x s l p p.phase)
  stepped_core =
      let left = left_at p.phase refl in
      let q : LaneNow = lane_after x l row p p.phase in
      record {
        shape = h.shape;
        shown = line_at x row lanes past s l p h.shape h.shown at ready p.phase refl;
        sound = line_sound p.phase refl;
        filled = filled_set q left.filled;
        room = let a = owing_set lanes l p q at in let b = left.room in let c = h.room in omega arith;
      }
