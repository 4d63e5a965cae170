-- The lanes' seats while they are made.
use Rattle.std.proofs.Common.{◌≡◌, ℕ, zero, suc, ◌+◌, ◌-◌, ◌<◌, ◌≤◌, inl, inr, List, [], ◌∷◌, ◌++◌, length, false, refl, sym, ap, ◌∙◌, subst, arith, length-append, add-one}
use Rattle.std.proofs.lemmas.List.{get_or_default}
use Rattle.std.specs.Prelude.{All, slice_index_or}
use mathlib.Core.Option.{some}
use lib.ListN.{get_elem?}
use Rattle.atomic_table.specs.Seated.{TableId}
use Rattle.atomic_table.specs.Table.{Splits, Me}
use Rattle.atomic_table.proofs.Lists.{at_index}
use Rattle.arena_open.specs.declared.cell.Cell.{Cell}
use Rattle.arena_open.specs.declared.opened.LaneState.{LaneState}
use Rattle.lane_core.specs.declared.shape.Shape.{Shape}
use Rattle.lane_core.specs.Areas.{seq_in}
use Rattle.lane_core.specs.Cut.{half_at}
use Rattle.lane_table.specs.declared.lanes.Lane.{Lane}
use Rattle.lane_table.specs.declared.table.Key.{Key}
use Rattle.lane_table.specs.declared.table.Owned.{Owned}
use Rattle.lane_table.specs.declared.table.PassPart.{PassPart}
use Rattle.lane_table.specs.declared.table.View.{View}
use Rattle.lane_table.specs.Begun.{AreFresh, IsBegun, IsNew, IsFresh, lane_at}
use Rattle.lane_table.specs.Kits.{IsAt, held_in}
use Rattle.lane_table.specs.Law.{keeper, seated, dealt, next_seat, opened_from, opened_owned, first_loose, unmade_from, others, areas_in, words_of, side_of}
use Rattle.lane_table.proofs.Moves.{rule}
use Rattle.lane_table.proofs.Splits.{splits, at_end}

-- the next lane that waits
pub waits : (k : Key) (n total : ℕ) → n < total → opened_from k n (total - n) ≡ opened_owned k n ∷ opened_from k (n + 1) (total - (n + 1))
waits k n total lt = ap (opened_from k n) (one_less n total lt) ∙ ap (λ m. opened_owned k n ∷ opened_from k m (total - (n + 1))) (next n)
  where
    one_less : (n total : ℕ) → n < total → total - n ≡ suc (total - (n + 1))
    one_less n total lt = omega arith

    next : (n : ℕ) → suc n ≡ n + 1
    next n = omega arith

pub splits_as : {S : Type 0} (x : Shape) (c : ℕ → Cell) (ws : List ℕ) (id : ℕ) (v : View) (o : Owned) (os : List Owned) (ps : List PassPart) → v ≡ keeper (o ∷ os) ps → Splits {S = S} (rule x c ws) id v (dealt v) (next_seat v)
splits_as {S = S} x c ws id v o os ps is = subst (λ v. Splits {S = S} (rule x c ws) id v (dealt v) (next_seat v)) (sym is) (splits x c ws id (keeper (o ∷ os) ps) o os refl refl)

-- the new seat, and the dealer after it
pub seat_is : {S : Type 0} (m d : Me S View) (os : List Owned) (o : Owned) (rest : List Owned) (ps : List PassPart) → m ≡ (next_seat d.0, []) → d ≡ (keeper os ps, []) → os ≡ o ∷ rest → m ≡ (seated o ps, [])
seat_is m d os o rest ps q is w = q ∙ ap (λ d. (next_seat d.0, [])) is ∙ ap (λ os. (next_seat (keeper os ps), [])) w

pub dealer_is : {S : Type 0} (m d : Me S View) (os : List Owned) (o : Owned) (rest : List Owned) (ps : List PassPart) → m ≡ (dealt d.0, d.1) → d ≡ (keeper os ps, []) → os ≡ o ∷ rest → m ≡ (keeper rest [], [])
dealer_is m d os o rest ps q is w = q ∙ ap (λ d. (dealt d.0, d.1)) is ∙ ap (λ os. (dealt (keeper os ps), [])) w

-- the first lane's seat makes the passes
pub first_makes : (l : ℕ) → l ≡ 0 → first_loose l ≡ unmade_from 0 ∷ others (first_loose l)
first_makes zero e = refl
first_makes (suc l) e = absurd (omega arith)

-- one lane on, no pass is left to hand out
pub none_later : (n : ℕ) → first_loose (n + 1) ≡ []
none_later n = ap first_loose (add-one n)

-- a lane's seat is as the code takes it
pub new_seat : {S : Type 0} (k : Key) (l : ℕ) (state : LaneState) (me : Me S View) (ps : List PassPart) → IsBegun k → l < k.shape.lanes → me ≡ (seated (opened_owned k l) ps, []) → (l ≡ 0 → ps ≡ unmade_from 0 ∷ others ps) → state ≡ lane_at k.lanes.value l → IsNew l state me
new_seat k l state me ps b lt is first st =
    let a = areas_in k.shape (words_of k) in
    let same : state.group.half ≡ half_at a l (side_of k l) = ap (λ (s : LaneState). s.group.half) st ∙ b.halves l lt in
    let side : state.group.side ≡ side_of k l = ap (λ (s : LaneState). s.group.side) st in
    let block : state.free ≡ (half_at a l (side_of k l)).old = ap (λ (s : LaneState). s.free) st ∙ b.free l lt ∙ ap (λ h. h.old) (b.halves l lt) in
    let current = b.opens.current l lt in
    let seq : state.group.half.seq ≡ seq_in (a.log_b l (side_of k l)) = ap (λ h. h.seq) same in
    record {
      live = ap (λ m. m.0.live) is;
      numbered = (ap (λ m. m.0.number) is, subst (λ (x : Shape). l < x.lanes) (sym (ap (λ m. m.0.shape) is)) lt);
      alone = (ap (λ m. m.0.rest) is, ap (λ m. m.1) is);
      log = ap (λ m. m.0.lane.log) is;
      held = ap (λ m. m.0.held) is;
      makes = λ z. ap (λ m. m.0.loose) is ∙ first z ∙ ap (λ m. unmade_from 0 ∷ others m.0.loose) (sym is);
      phase = ap (λ m. m.0.lane.phase) is;
      mine = record {
        number = ap (λ m. m.0.number) is;
        block = ap (λ m. m.0.lane.block) is ∙ sym block;
        side = ap (λ m. m.0.lane.side) is ∙ sym side;
        seq = ap (λ m. m.0.lane.half.seq) is ∙ sym seq;
        two = subst (λ n. n < 2) (sym side) current.two;
        written = subst (λ n. 1 ≤ n) (sym seq) current.newer.0;
        ring = subst (λ n. n ≤ 3) (sym seq) current.newer.1;
      };
      in_range = subst (λ (x : Shape). state.free < x.sectors + x.lanes) (sym (ap (λ m. m.0.shape) is)) (subst (λ n. n < k.shape.sectors + k.shape.lanes) (sym block) (b.opens.sized l lt).old);
    }

pub fresh : (table : TableId) (k : Key) (l : ℕ) (lane : Lane) → lane.kit.seat.table_id ≡ table → lane.kit.seat.me ≡ (seated (opened_owned k l) (first_loose l), []) → lane.kit.number ≡ l → lane.kit.made ≡ 0 → lane.kit.fuse.set ≡ false → IsFresh table k l lane
fresh table k l lane t is n m f = record {
  at = (t, ap (λ m. m.0.shape) is);
  number = n;
  owned = ap (λ (n : ℕ). record { number = n; lane = lane.kit.seat.me.0.lane; shape = lane.kit.seat.me.0.shape; held = lane.kit.seat.me.0.held; steps = lane.kit.seat.me.0.count.steps }) n
      ∙ ap (λ m. record { number = l; lane = m.0.lane; shape = m.0.shape; held = m.0.held; steps = m.0.count.steps }) is;
  loose = ap (λ m. m.0.loose) is;
  made = m;
  no_fuse = f;
}

pub fresh_push : (table : TableId) (k : Key) (ls : List Lane) (lane : Lane) → ((l : ℕ) (d : Lane) → get_elem? ls l ≡ some d → IsFresh table k l d) → IsFresh table k (length ls) lane
    → (l : ℕ) (d : Lane) → get_elem? (ls ++ lane ∷ []) l ≡ some d → IsFresh table k l d
fresh_push table k ls lane front new l d at = elim (at_end ls lane d l at) [
  | inl q ↦ front l d q
  | inr q ↦ subst (λ (d : Lane). IsFresh table k l d) q.1 (subst (λ l. IsFresh table k l lane) (sym q.0) new)
]

pub count_push : {A : Type 0} (ys es : List A) (e : A) (n : ℕ) → ys ≡ es ++ e ∷ [] → length es ≡ n → length ys ≡ n + 1
count_push ys es e n q c = omega (arith, ap length q, length-append es (e ∷ []), c)

-- the lanes of a new table are those of its arena
pub are_own : (table : TableId) (k : Key) (x : Shape) (lanes : List Lane) → k.shape ≡ x → AreFresh table k lanes → All (λ l. IsAt table x l.kit) lanes
are_own table k x lanes is f i d lt =
    let lane = slice_index_or lanes i d in
    let at = (f.each i lane (at_index lanes i lane lt (get_or_default lanes i d lane lt))).at in
    (at.0, at.1 ∙ is)

-- and have no pass and have made none
pub are_free : (table : TableId) (k : Key) (lanes : List Lane) → AreFresh table k lanes → All (λ l. (held_in l.kit ≡ []) × (l.kit.made ≡ 0)) lanes
are_free table k lanes f i d lt =
    let lane = slice_index_or lanes i d in
    let is = f.each i lane (at_index lanes i lane lt (get_or_default lanes i d lane lt)) in (ap (λ (o : Owned). o.held) is.owned, is.made)
