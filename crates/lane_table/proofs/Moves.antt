-- A step on one word and one view is the step of the state.
use Rattle.std.proofs.Common.{◌≡◌, ℕ, ◌+◌, ◌<◌, ◌≢◌, inl, inr, true, false, List, ◌∷◌, ◌++◌, length, refl, sym, ap, ◌∙◌, subst, slice_index, slice_set, length-set, get_or-set_other, arith, zero, suc}
use lib.ListN.{get_elem?}
use mathlib.Core.Option.{some, some-injective}
use Rattle.atomic_table.specs.Table.{State as TableState, Allows, Me, keeps}
use Rattle.atomic_table.proofs.Lists.{at_set}
use Rattle.arena_open.specs.declared.cell.Cell.{Cell}
use Rattle.lane_core.specs.declared.lane.Lane.{Lane}
use Rattle.lane_core.specs.declared.phase.Phase.{Phase}
use Rattle.lane_core.specs.declared.shape.Shape.{Shape}
use Rattle.lane_core.specs.Areas.{put}
use Rattle.lane_core.specs.Fixed.{RowHasFixed}
use Rattle.lane_core.specs.Machine.{State, looked}
use Rattle.lane_core.specs.History.{of_lane}
use Rattle.lane_core.specs.Invariant.{IsSound, is_reading, only_if, open_entry}
use Rattle.lane_core.specs.Places.{IsShape, Place, IsIn, word_of, value_of, row_size, geometry}
use Rattle.lane_core.proofs.Fixed.{kept_apart}
use Rattle.lane_core.proofs.Past.{append_none}
use Rattle.lane_core.proofs.Put.{put_at, put_other}
use Rattle.lane_core.proofs.Places.{shows_stored, in_table}
use Rattle.lane_table.specs.declared.table.Count.{Count}
use Rattle.lane_table.specs.declared.table.Owned.{Owned}
use Rattle.lane_table.specs.declared.table.View.{View}
use Rattle.lane_table.specs.declared.table.PassPart.{PassPart}
use Rattle.lane_table.specs.Law.{Holds, Seats, Passes, own, owned, owned_by, with_by}
use Rattle.lane_table.proofs.Passes.{Effect, passes_put, quiet}

-- the table's fact: its words and views tell a state
abbrev pub rule : {S : Type 0} → Shape → (ℕ → Cell) → List ℕ → TableState S View → Type 0
rule x o ws s = Holds x o ws s.words s.views

-- ---- a live seat's own lane

pub owned_live : (u : View) → u.live ≡ true → owned u ≡ own u ∷ u.rest
owned_live u e = ap (λ b. owned_by b (own u) u.rest) e

-- what a live seat knows of its lane
pub mine_of : (x : Shape) (views : List View) (lanes : ℕ → Lane) (id : ℕ) (v : View) → get_elem? views id ≡ some v → v.live ≡ true → Seats x views lanes → (v.number < x.lanes) × (lanes v.number ≡ v.lane) × (v.shape ≡ x)
mine_of x views lanes id v at live h = h.known id 0 v (own v) at (ap (λ os. get_elem? os 0) (owned_live v live))

module _ (x : Shape) (views : List View) (lanes : ℕ → Lane) (id : ℕ) (v : View) (p : Lane) (c : Count) (hs : List PassPart) (at : get_elem? views id ≡ some v) (live : v.live ≡ true) (h : Seats x views lanes) where
  abbrev w : View
  w = record v { lane = p; count = c; held = hs }

  -- a lane that is had after the step: one of before, or the one that changed
  data Was (i k : ℕ) (o : Owned) : Type 0 where
    Old : (i ≡ id → k ≡ 0 → ⊥) → (u : View) → get_elem? views i ≡ some u → get_elem? (owned u) k ≡ some o → Was i k o
    Mine : i ≡ id → k ≡ 0 → own w ≡ o → Was i k o

  was_mine : (i k : ℕ) (o : Owned) → i ≡ id → get_elem? (own w ∷ v.rest) k ≡ some o → Was i k o
  was_mine i zero o q e = Mine q refl (some-injective _ o e)
  was_mine i (suc k) o q e = Old (λ _ z. omega arith) v (ap (get_elem? views) q ∙ at) (ap (λ os. get_elem? os (suc k)) (owned_live v live) ∙ e)

  was : (i k : ℕ) (u : View) (o : Owned) → get_elem? (slice_set views id w) i ≡ some u → get_elem? (owned u) k ≡ some o → Was i k o
  was i k u o e a = elim (at_set views id i w u e) [
    | inl q ↦ was_mine i k o q.0 (sym (ap (λ os. get_elem? os k) (owned_live w live)) ∙ subst (λ (u : View). get_elem? (owned u) k ≡ some o) (sym q.1) a)
    | inr q ↦ Old (λ z _. q.0 z) u q.1 a
  ]

  known_by : (i k : ℕ) (o : Owned) → Was i k o → (o.number < x.lanes) × (put lanes v.number p o.number ≡ o.lane) × (o.shape ≡ x)
  known_by i k o (Old ne u e a) = let r = h.known i k u o e a in
      (r.0, put_other lanes v.number p o.number (λ z. let t = h.once i id k 0 u v o (own v) e at a (ap (λ os. get_elem? os 0) (owned_live v live)) z in ne t.0 t.1) ∙ r.1, r.2)
  known_by i k o (Mine q z r) =
      let m = mine_of x views lanes id v at live h in
      subst (λ (o : Owned). (o.number < x.lanes) × (put lanes v.number p o.number ≡ o.lane) × (o.shape ≡ x)) r (m.0, put_at lanes v.number p, m.2)

  before : (i k : ℕ) (o : Owned) → Was i k o → (u : View) × (p : Owned) × (get_elem? views i ≡ some u) × (get_elem? (owned u) k ≡ some p) × (p.number ≡ o.number)
  before i k o (Old ne u e a) = (u, o, e, a, refl)
  before i k o (Mine q z r) = (v, own v, ap (get_elem? views) q ∙ at, ap (get_elem? (owned v)) z ∙ ap (λ os. get_elem? os 0) (owned_live v live), ap (λ (o : Owned). o.number) r)

  -- a live seat's lane changes, in its view and in the state
  pub seats_put : Seats x (slice_set views id w) (put lanes v.number p)
  seats_put =
      record {
        known = λ i k u o e a. known_by i k o (was i k u o e a);
        once = λ i j k m u t o p e f a b z. let r = before i k o (was i k u o e a) in let y = before j m p (was j m t p f b) in h.once i j k m r.0 y.0 r.1 y.1 r.2 y.2 r.3 y.3 (r.4 ∙ z ∙ sym y.4);
      }

-- ---- one step

-- a word at a place is stored: the words that no lane stores stay
fixed_set : (x : Shape) → IsShape x → (ws words : List ℕ) (p : Place) (n : ℕ) → IsIn x p → RowHasFixed x ws words → RowHasFixed x ws (slice_set words (word_of x p) n)
fixed_set x hs ws words p n m h i f = (
  get_or-set_other words (word_of x p) i n 0 (λ q. f.apart p m (sym q)) ∙ (h i f).0,
  get_or-set_other words (word_of x p) (x.total + i) n 0 (λ q. kept_apart x hs p m i f (sym q)) ∙ (h i f).1,
)

in_words : (x : Shape) → IsShape x → (words : List ℕ) → length words ≡ row_size x → (p : Place) → IsIn x p → word_of x p < length words
in_words x h words size p i = subst (λ n. word_of x p < n) (sym size) (in_table x h p i)

-- what a step of the lane at the place p does, which finds n and is counted by k
pub record Goes {S : Type 0} (k : ℕ → Count → Count) (x : Shape) (o : ℕ → Cell) (v : View) (held : List (ℕ × S)) (p : Place) (f : ℕ → ℕ) (then : ℕ → Me S View → Type 0) (s : State) (n : ℕ) : Type 0 where
  pub new : Lane
  pub next : State
  pub hands : List PassPart  -- the pass that the lane holds after it
  pub sound : IsSound (geometry x) o next
  pub lanes : next.lanes ≡ put s.lanes v.number new
  pub enters : Effect s.history next.history v.number v.lane.log new.log v.held hands
  pub here : value_of next p ≡ f n
  pub there : (q : Place) → q ≢ p → value_of next q ≡ value_of s q
  pub tells : then n (record (with_by k n v new) { held = hands }, held)

-- what is so of the state and the view when the step is made
pub record Stands (x : Shape) (o : ℕ → Cell) (v : View) (s : State) : Type 0 where
  pub sound : IsSound (geometry x) o s
  pub number : v.number < x.lanes
  pub lane : s.lanes v.number ≡ v.lane
  pub shape : v.shape ≡ x

-- the phase that the view says
pub phase_of : (x : Shape) (o : ℕ → Cell) (v : View) (s : State) (ph : Phase) → Stands x o v s → v.lane.phase ≡ ph → (s.lanes v.number).phase ≡ ph
phase_of x o v s ph h e = ap (λ (p : Lane). p.phase) h.lane ∙ e

-- a lane that reads no words has all of its calls in its log
pub all_logged : (x : Shape) (o : ℕ → Cell) (v : View) (s : State) → Stands x o v s → is_reading v.lane.phase ≡ false → of_lane v.number s.history ≡ v.lane.log
all_logged x o v s h e =
    let p = s.lanes v.number in
    (h.sound.each v.number h.number).tells.entries
    ∙ ap (λ b. p.log ++ only_if b (open_entry x.width (s.seen.data_at (looked p)) v.number p.tag p.sector)) (ap (λ (p : Lane). is_reading p.phase) h.lane ∙ e)
    ∙ append_none p.log ∙ ap (λ (p : Lane). p.log) h.lane

-- a step that takes no slot and returns none
pub allows_step : {S : Type 0} (k : ℕ → Count → Count) (x : Shape) (o : ℕ → Cell) (ws : List ℕ) (slots id : ℕ) (v : View) (held : List (ℕ × S)) (p : Place) (f : ℕ → ℕ) (then : ℕ → Me S View → Type 0) → v.live ≡ true
    → ((s : State) → Stands x o v s → IsIn x p)
    → ((s : State) → Stands x o v s → (n : ℕ) → n ≡ value_of s p → Goes k x o v held p f then s n)
    → Allows (rule x o ws) slots id (v, held) (word_of x p) f then
allows_step {S = S} k x o ws slots id v held p f then live inside goes t has size at fits = (
  record (with_by k n v r.new) { held = r.hands },
  keeps,
  tt,
  (
    r.next,
    record {
      sound = r.sound;
      shape = has.1.shape;
      size = length-set t.words (word_of x p) (f n) ∙ has.1.size;
      shown = shows_stored x has.1.shape t.words s r.next p (f n) i (in_words x has.1.shape t.words has.1.size p i) has.1.shown r.here (λ q ne m. r.there q ne);
      fixed = fixed_set x has.1.shape ws t.words p (f n) i has.1.fixed;
      seats = subst (Seats x (slice_set t.views id (record (with_by k n v r.new) { held = r.hands }))) (sym r.lanes) (seats_put x t.views s.lanes id v r.new (k n v.count) r.hands at live has.1.seats);
      passes = subst (λ lanes. Passes (slice_set t.views id (record (with_by k n v r.new) { held = r.hands })) lanes r.next.history) (sym r.lanes)
          (passes_put x t.views s.lanes s.history r.next.history id v r.new (k n v.count) r.hands at live has.1.seats has.1.passes r.enters);
    },
  ),
  r.tells,
)
  where
    s : State
    s = has.0

    n : ℕ
    n = slice_index t.words (word_of x p)

    stands : Stands x o v s
    stands = let m = mine_of x t.views s.lanes id v at live has.1.seats in record { sound = has.1.sound; number = m.0; lane = m.1; shape = m.2 }

    i : IsIn x p
    i = inside s stands

    r : Goes k x o v held p f then s n
    r = goes s stands n (has.1.shown p i)

-- what a line of the algorithm does, which finds n
pub record Line (x : Shape) (o : ℕ → Cell) (l : ℕ) (p : Place) (f : ℕ → ℕ) (change : ℕ → Lane → Lane) (s : State) (n : ℕ) : Type 0 where
  pub next : State
  pub sound : IsSound (geometry x) o next
  pub lanes : next.lanes ≡ put s.lanes l (change n (s.lanes l))
  pub quiet : (next.history ≡ s.history) × ((change n (s.lanes l)).log ≡ (s.lanes l).log)
  pub here : value_of next p ≡ f n
  pub there : (q : Place) → q ≢ p → value_of next q ≡ value_of s q

pub allows_line : {S : Type 0} (k : ℕ → Count → Count) (x : Shape) (o : ℕ → Cell) (ws : List ℕ) (slots id : ℕ) (v : View) (held : List (ℕ × S)) (p : Place) (f : ℕ → ℕ) (change : ℕ → Lane → Lane) → v.live ≡ true
    → ((s : State) → Stands x o v s → IsIn x p)
    → ((s : State) → Stands x o v s → (n : ℕ) → n ≡ value_of s p → Line x o v.number p f change s n)
    → Allows (rule x o ws) slots id (v, held) (word_of x p) f (λ n me. me ≡ (with_by k n v (change n v.lane), held))
allows_line k x o ws slots id v held p f change live inside line =
    allows_step k x o ws slots id v held p f (λ n me. me ≡ (with_by k n v (change n v.lane), held)) live inside
    (λ s h n is. let r = line s h n is in
    record { new = change n (s.lanes v.number); next = r.next; hands = v.held; sound = r.sound; lanes = r.lanes; enters = quiet v.number v.held r.quiet.0 (r.quiet.1 ∙ ap (λ (p : Lane). p.log) h.lane); here = r.here; there = r.there; tells = ap (λ (p : Lane). (with_by k n v (change n p), held)) h.lane })

-- the same step tells less
pub allows_weaker : {S V : Type 0} (r : TableState S V → Type 0) (slots id : ℕ) (me : Me S V) (i : ℕ) (f : ℕ → ℕ) (a b : ℕ → Me S V → Type 0) → ((n : ℕ) (w : Me S V) → a n w → b n w) → Allows r slots id me i f a → Allows r slots id me i f b
allows_weaker r slots id me i f a b weak h s holds size at fits = let x = h s holds size at fits in (x.0, x.1, x.2, x.3, weak _ _ x.4)
