-- Lanes and passes go from seat to seat: a seat is split off, a seat is joined in, and a seat comes
-- with no lane.
use Rattle.std.proofs.Common.{◌≡◌, ℕ, ◌+◌, ◌<◌, ◌≢◌, ◌⊎◌, ◌==◌, if◌then◌else◌, inl, inr, true, false, Bool, List, [], ◌∷◌, ◌++◌, length, zero, suc, refl, sym, ap, ◌∙◌, subst, slice_set, arith}
use lib.ListN.{get_elem?}
use mathlib.Core.Option.{some, some-injective, some-ne-none}
use Rattle.atomic_table.specs.Table.{Splits, Joins, Enters, Me}
use Rattle.atomic_table.proofs.Lists.{at_set}
use Rattle.arena_open.specs.declared.cell.Cell.{Cell}
use Rattle.lane_core.specs.declared.lane.Lane.{Lane}
use Rattle.lane_core.specs.declared.shape.Shape.{Shape}
use Rattle.lane_table.specs.declared.table.View.{View}
use Rattle.lane_table.specs.declared.table.Owned.{Owned}
use Rattle.lane_core.specs.declared.history.Entry.{Entry}
use Rattle.lane_core.specs.Machine.{State}
use Rattle.lane_table.specs.declared.table.PassPart.{PassPart}
use Rattle.lane_table.specs.Law.{Seats, Passes, Home, Loose, On, Tells, own, owned, owned_by, seated, spent, gathered}
use Rattle.lane_table.proofs.Moves.{rule}

-- an element of a list with one more at its end
pub at_end : {A : Type 0} (l : List A) (a b : A) (j : ℕ) → get_elem? (l ++ a ∷ []) j ≡ some b → (get_elem? l j ≡ some b) ⊎ ((j ≡ length l) × (a ≡ b))
at_end [] a b zero e = inr (refl, some-injective a b e)
at_end [] a b (suc j) e = absurd (some-ne-none b (sym e))
at_end (x ∷ xs) a b zero e = inl e
at_end (x ∷ xs) a b (suc j) e = elim (at_end xs a b j e) [ inl q ↦ inl q | inr q ↦ inr (ap suc q.0, q.1) ]

-- an element of two lists
at_both : {A : Type 0} (l m : List A) (b : A) (j : ℕ) → get_elem? (l ++ m) j ≡ some b → ((j < length l) × (get_elem? l j ≡ some b)) ⊎ ((i : ℕ) × (j ≡ length l + i) × (get_elem? m i ≡ some b))
at_both [] m b j e = inr (j, omega arith, e)
at_both (x ∷ xs) m b zero e = inl (omega arith, e)
at_both (x ∷ xs) m b (suc j) e = elim (at_both xs m b j e) [ inl q ↦ inl (omega (arith, q.0), q.1) | inr q ↦ inr (q.0, omega (arith, q.1), q.2) ]

below : {A : Type 0} (l : List A) (b : A) (j : ℕ) → get_elem? l j ≡ some b → j < length l
below [] b j e = absurd (some-ne-none b (sym e))
below (x ∷ xs) b zero e = omega arith
below (x ∷ xs) b (suc j) e = let r = below xs b j e in omega arith

nothing_there : {A : Type 0} (k : ℕ) (p : A) → get_elem? [] k ≡ some p → ⊥
nothing_there k p e = some-ne-none p (sym e)

-- each lane that is had now was had before, at a place from which no other comes
module _ (x : Shape) (views after : List View) (lanes : ℕ → Lane) (From : ℕ → ℕ → ℕ → ℕ → Type 0) (h : Seats x views lanes) where
  abbrev Came : ℕ → ℕ → Owned → Type 0
  Came i k o = (a : ℕ) × (b : ℕ) × (u : View) × (get_elem? views a ≡ some u) × (get_elem? (owned u) b ≡ some o) × From i k a b

  pub seats_moved : ((i k j m a b c d : ℕ) → From i k a b → From j m c d → a ≡ c → b ≡ d → (i ≡ j) × (k ≡ m))
      → ((i k : ℕ) (u : View) (o : Owned) → get_elem? after i ≡ some u → get_elem? (owned u) k ≡ some o → Came i k o) → Seats x after lanes
  seats_moved apart came =
      record {
        known = λ i k u o e a. let c = came i k u o e a in h.known c.0 c.1 c.2 o c.3 c.4;
        once = λ i j k m u t o p e f a b z. let c = came i k u o e a in let d = came j m t p f b in
            let q = h.once c.0 d.0 c.1 d.1 c.2 d.2 o p c.3 d.3 c.4 d.4 z in apart i k j m c.0 c.1 d.0 d.1 c.5 d.5 q.0 q.1;
      }

-- ---- SplitSeat

module _ (x : Shape) (views : List View) (lanes : ℕ → Lane) (id : ℕ) (v : View) (o : Owned) (os : List Owned) (at : get_elem? views id ≡ some v) (dead : v.live ≡ false) (has : v.rest ≡ o ∷ os) (h : Seats x views lanes) where
  abbrev count : ℕ
  count = length (slice_set views id (record v { rest = os; loose = [] }))

  -- from which place the lane comes
  abbrev FromSplit : ℕ → ℕ → ℕ → ℕ → Type 0
  FromSplit i k a b = ((a ≢ id) × (a ≡ i) × (b ≡ k)) ⊎ ((a ≡ id) × (i ≡ id) × (b ≡ suc k)) ⊎ ((a ≡ id) × (b ≡ 0) × (i ≡ count) × (k ≡ 0))

  dealer : owned v ≡ o ∷ os
  dealer = ap (λ b. owned_by b (own v) v.rest) dead ∙ has

  pub seats_split : Seats x (slice_set views id (record v { rest = os; loose = [] }) ++ seated o v.loose ∷ []) lanes
  seats_split =
      seats_moved x views (slice_set views id (record v { rest = os; loose = [] }) ++ seated o v.loose ∷ []) lanes FromSplit h split_apart
      (λ i k u p e a. elim (at_end _ _ u i e) [
        | inl q ↦ elim (at_set views id i (record v { rest = os; loose = [] }) u q) [
          | inl r ↦ (id, suc k, v, at, ap (λ l. get_elem? l (suc k)) dealer ∙ (ap (λ b. get_elem? (owned_by b (own v) os) k) (sym dead) ∙ subst (λ (u : View). get_elem? (owned u) k ≡ some p) (sym r.1) a), inr (inl (refl, r.0, refl)))
          | inr r ↦ (i, k, u, r.1, a, inl (r.0, refl, refl))
        ]
        | inr q ↦ new i k p q.0 (subst (λ (u : View). get_elem? (owned u) k ≡ some p) (sym q.1) a)
      ])
    where
      split_apart : (i k j m a b c d : ℕ) → FromSplit i k a b → FromSplit j m c d → a ≡ c → b ≡ d → (i ≡ j) × (k ≡ m)
      split_apart i k j m a b c d s t e f = grind arith

      new : (i k : ℕ) (p : Owned) → i ≡ count → get_elem? (o ∷ []) k ≡ some p → Came x views (slice_set views id (record v { rest = os; loose = [] }) ++ seated o v.loose ∷ []) lanes FromSplit h i k p
      new i zero p q e = (id, 0, v, at, ap (λ l. get_elem? l 0) dealer ∙ e, inr (inr (refl, refl, q, refl)))
      new i (suc k) p q e = absurd (nothing_there k p e)

-- ---- passes that only go from seat to seat

-- what a seat's list becomes another's, from a place on
abbrev pub to : ℕ → ℕ → ℕ → Home → Home
to from i n (Loose a b) = if a == from then Loose i (n + b) else Loose a b
to from i n (On l) = On l

eq_true : (a b : ℕ) → a ≡ b → (a == b) ≡ true
eq_true a b e = grind arith

eq_false : (a b : ℕ) → a ≢ b → (a == b) ≡ false
eq_false a b e = grind arith

to_here : (from i n a b : ℕ) → a ≡ from → to from i n (Loose a b) ≡ Loose i (n + b)
to_here from i n a b e = ap (λ c. if c then Loose i (n + b) else Loose a b) (eq_true a from e)

to_same : (from i n a b : ℕ) → a ≢ from → to from i n (Loose a b) ≡ Loose a b
to_same from i n a b e = ap (λ c. if c then Loose i (n + b) else Loose a b) (eq_false a from e)

module _ (views after : List View) (lanes : ℕ → Lane) (history : List Entry) (from other n : ℕ) (h : Passes views lanes history) where
  abbrev LooseCame : ℕ → ℕ → PassPart → Type 0
  LooseCame i k t = (a : ℕ) × (b : ℕ) × (u : View) × (get_elem? views a ≡ some u) × (get_elem? u.loose b ≡ some t) × (to from other n (Loose a b) ≡ Loose i k)

  abbrev HeldCame : Owned → Type 0
  HeldCame o = (a : ℕ) × (b : ℕ) × (u : View) × (get_elem? views a ≡ some u) × (get_elem? (owned u) b ≡ some o)

  pub passes_moved : ((i k : ℕ) (u : View) (t : PassPart) → get_elem? after i ≡ some u → get_elem? u.loose k ≡ some t → LooseCame i k t)
      → ((i k : ℕ) (u : View) (o : Owned) → get_elem? after i ≡ some u → get_elem? (owned u) k ≡ some o → HeldCame o) → Passes after lanes history
  passes_moved loose held =
      record {
        homes = λ q. to from other n (h.homes q);
        loose = λ i k u t e a. let c = loose i k u t e a in let r = h.loose c.0 c.1 c.2 t c.3 c.4 in
            (λ q v. (ap (to from other n) (r.0 q v).0 ∙ c.5, (r.0 q v).1), r.1);
        held = λ i k u o e a m t is. let c = held i k u o e a in let r = h.held c.0 c.1 c.2 o c.3 c.4 m t is in ((ap (to from other n) r.0.0, r.0.1), r.1);
        unfinished = λ l k e is. let r = h.unfinished l k e is in (ap (to from other n) r.0, r.1, r.2);
      }

-- the rule says the same of other seats
pub told_of : (x : Shape) (c : ℕ → Cell) (ws words : List ℕ) (views after : List View) (s : State) → Tells x c ws words views s → Seats x after s.lanes → Passes after s.lanes s.history → Tells x c ws words after s
told_of x c ws words views after s h seats passes = record { sound = h.sound; shape = h.shape; size = h.size; shown = h.shown; fixed = h.fixed; seats = seats; passes = passes }

module _ (views : List View) (lanes : ℕ → Lane) (history : List Entry) (id : ℕ) (v : View) (o : Owned) (os : List Owned) (at : get_elem? views id ≡ some v) (dead : v.live ≡ false) (has : v.rest ≡ o ∷ os) (h : Passes views lanes history) where
  abbrev left : View
  left = record v { rest = os; loose = [] }

  all_had : owned v ≡ o ∷ os
  all_had = ap (λ b. owned_by b (own v) v.rest) dead ∙ has

  pub passes_split : Passes (slice_set views id left ++ seated o v.loose ∷ []) lanes history
  passes_split =
      passes_moved views (slice_set views id left ++ seated o v.loose ∷ []) lanes history id (length (slice_set views id left)) 0 h
      (λ i k u t e a. elim (at_end _ _ u i e) [
        | inl q ↦ elim (at_set views id i left u q) [
          | inl r ↦ absurd (nothing_there k t (subst (λ (u : View). get_elem? u.loose k ≡ some t) (sym r.1) a))
          | inr r ↦ (i, k, u, r.1, a, to_same id (length (slice_set views id left)) 0 i k r.0)
        ]
        | inr q ↦ (
          id,
          k,
          v,
          at,
          subst (λ (u : View). get_elem? u.loose k ≡ some t) (sym q.1) a,
          to_here id (length (slice_set views id left)) 0 id k refl ∙ ap (Loose (length (slice_set views id left))) (none_more k) ∙ ap (λ i. Loose i k) (sym q.0),
        )
      ])
      (λ i k u p e a. elim (at_end _ _ u i e) [
        | inl q ↦ elim (at_set views id i left u q) [
          | inl r ↦ (id, suc k, v, at, ap (λ l. get_elem? l (suc k)) all_had ∙ (ap (λ b. get_elem? (owned_by b (own v) os) k) (sym dead) ∙ subst (λ (u : View). get_elem? (owned u) k ≡ some p) (sym r.1) a))
          | inr r ↦ (i, k, u, r.1, a)
        ]
        | inr q ↦ new k p (subst (λ (u : View). get_elem? (owned u) k ≡ some p) (sym q.1) a)
      ])
    where
      none_more : (k : ℕ) → 0 + k ≡ k
      none_more k = omega arith

      new : (k : ℕ) (p : Owned) → get_elem? (o ∷ []) k ≡ some p → HeldCame views (slice_set views id left ++ seated o v.loose ∷ []) lanes history id (length (slice_set views id left)) 0 h p
      new zero p e = (id, 0, v, at, ap (λ l. get_elem? l 0) all_had ∙ e)
      new (suc k) p e = absurd (nothing_there k p e)

-- a lane is handed out, and the passes with it
pub splits : {S : Type 0} (x : Shape) (c : ℕ → Cell) (ws : List ℕ) (id : ℕ) (v : View) (o : Owned) (os : List Owned) → v.live ≡ false → v.rest ≡ o ∷ os
    → Splits {S = S} (rule x c ws) id v (record v { rest = os; loose = [] }) (seated o v.loose)
splits x c ws id v o os dead wait t has at =
    (has.0, told_of x c ws t.words t.views _ has.0 has.1 (seats_split x t.views has.0.lanes id v o os at dead wait has.1.seats) (passes_split t.views has.0.lanes has.0.history id v o os at dead wait has.1.passes))

-- ---- JoinSeat

all_gathered : (b : Bool) (o : Owned) (os ps : List Owned) → owned_by b o (os ++ ps) ≡ owned_by b o os ++ ps
all_gathered true o os ps = refl
all_gathered false o os ps = refl

module _ (x : Shape) (views : List View) (lanes : ℕ → Lane) (history : List Entry) (id other : ℕ) (v w : View) (at : get_elem? views id ≡ some v) (apart : other ≢ id) (that : get_elem? views other ≡ some w) (h : Seats x views lanes) (g : Passes views lanes history) where
  abbrev FromJoin : ℕ → ℕ → ℕ → ℕ → Type 0
  FromJoin i k a b = ((i ≢ id) × (i ≢ other) × (a ≡ i) × (b ≡ k)) ⊎ ((i ≡ id) × (k < length (owned v)) × (a ≡ id) × (b ≡ k)) ⊎ ((i ≡ id) × (a ≡ other) × (k ≡ length (owned v) + b))

  join_apart : (i k j m a b c d : ℕ) → FromJoin i k a b → FromJoin j m c d → a ≡ c → b ≡ d → (i ≡ j) × (k ≡ m)
  join_apart i k j m a b c d s t e f = grind arith

  abbrev joined : List View
  joined = slice_set (slice_set views id (gathered v w)) other spent

  lane_came : (i k : ℕ) (u : View) (p : Owned) → get_elem? joined i ≡ some u → get_elem? (owned u) k ≡ some p → Came x views joined lanes FromJoin h i k p
  lane_came i k u p e a = elim (at_set (slice_set views id (gathered v w)) other i spent u e) [
    | inl q ↦ absurd (nothing_there k p (subst (λ (u : View). get_elem? (owned u) k ≡ some p) (sym q.1) a))
    | inr q ↦ elim (at_set views id i (gathered v w) u q.1) [
      | inl r ↦ elim (at_both (owned v) (owned w) p k (ap (λ os. get_elem? os k) (sym (all_gathered v.live (own v) v.rest (owned w))) ∙ subst (λ (u : View). get_elem? (owned u) k ≡ some p) (sym r.1) a)) [
        | inl y ↦ (id, k, v, at, y.1, inr (inl (r.0, y.0, refl, refl)))
        | inr y ↦ (other, y.0, w, that, y.2, inr (inr (r.0, refl, y.1)))
      ]
      | inr r ↦ (i, k, u, r.1, a, inl (r.0, q.0, refl, refl))
    ]
  ]

  pub seats_join : Seats x joined lanes
  seats_join = seats_moved x views joined lanes FromJoin h join_apart lane_came

  pub passes_join : Passes joined lanes history
  passes_join =
      passes_moved views joined lanes history other id (length v.loose) g
      (λ i k u t e a. elim (at_set (slice_set views id (gathered v w)) other i spent u e) [
        | inl q ↦ absurd (nothing_there k t (subst (λ (u : View). get_elem? u.loose k ≡ some t) (sym q.1) a))
        | inr q ↦ elim (at_set views id i (gathered v w) u q.1) [
          | inl r ↦ elim (at_both v.loose w.loose t k (subst (λ (u : View). get_elem? u.loose k ≡ some t) (sym r.1) a)) [
            | inl y ↦ (id, k, v, at, y.1, to_same other id (length v.loose) id k (λ z. apart (sym z)) ∙ ap (λ i. Loose i k) (sym r.0))
            | inr y ↦ (other, y.0, w, that, y.2, to_here other id (length v.loose) other y.0 refl ∙ ap (Loose id) (sym y.1) ∙ ap (λ i. Loose i k) (sym r.0))
          ]
          | inr r ↦ (i, k, u, r.1, a, to_same other id (length v.loose) i k q.0)
        ]
      ])
      (λ i k u p e a. let c = lane_came i k u p e a in (c.0, c.1, c.2, c.3, c.4))

-- a seat is handed in, and its view is spent
pub joins : {S : Type 0} (x : Shape) (c : ℕ → Cell) (ws : List ℕ) (id : ℕ) (v : View) (other : ℕ) (w : View) → Joins {S = S} (rule x c ws) id v other w (gathered v w) spent
joins x c ws id v other w t has at apart that =
    elim (at_set t.views id other (gathered v w) w that) [
      | inl q ↦ absurd (apart q.0)
      | inr q ↦ (
        has.0,
        told_of x c ws t.words t.views _ has.0 has.1 (seats_join x t.views has.0.lanes has.0.history id other v w at apart q.1 has.1.seats has.1.passes)
            (passes_join x t.views has.0.lanes has.0.history id other v w at apart q.1 has.1.seats has.1.passes),
      )
    ]

-- ---- a seat with no lane comes

abbrev Alone : (S : Type 0) → View → Type 0
Alone S w = ◌≡◌ {A = Me S View} (w, []) (spent, [])

-- each place has the lanes that it had, or none
pub seats_alike : (x : Shape) (views after : List View) (lanes : ℕ → Lane) → Seats x views lanes
    → ((i k : ℕ) (u : View) (o : Owned) → get_elem? after i ≡ some u → get_elem? (owned u) k ≡ some o → (w : View) × (get_elem? views i ≡ some w) × (get_elem? (owned w) k ≡ some o)) → Seats x after lanes
seats_alike x views after lanes h same =
    seats_moved x views after lanes (λ i k a b. (i ≡ a) × (k ≡ b)) h (λ i k j m a b c d s t e f. (s.0 ∙ e ∙ sym t.0, s.1 ∙ f ∙ sym t.1))
    (λ i k u o e a. let r = same i k u o e a in (i, k, r.0, r.1, r.2, (refl, refl)))

-- a seat with no lane is there too
pub seats_more : (x : Shape) (views : List View) (lanes : ℕ → Lane) (w : View) → owned w ≡ [] → Seats x views lanes → Seats x (views ++ w ∷ []) lanes
seats_more x views lanes w none h =
    seats_alike x views (views ++ w ∷ []) lanes h
    (λ i k u o e a. elim (at_end views w u i e) [
      | inl q ↦ (u, q, a)
      | inr q ↦ absurd (nothing_there k o (ap (λ os. get_elem? os k) (sym none) ∙ subst (λ (u : View). get_elem? (owned u) k ≡ some o) (sym q.1) a))
    ])

-- a seat is spent
pub seats_spent : (x : Shape) (views : List View) (lanes : ℕ → Lane) (id : ℕ) → Seats x views lanes → Seats x (slice_set views id spent) lanes
seats_spent x views lanes id h =
    seats_alike x views (slice_set views id spent) lanes h
    (λ i k u o e a. elim (at_set views id i spent u e) [
      | inl q ↦ absurd (nothing_there k o (subst (λ (u : View). get_elem? (owned u) k ≡ some o) (sym q.1) a))
      | inr q ↦ (u, q.1, a)
    ])

passes_comes : (views : List View) (lanes : ℕ → Lane) (history : List Entry) → Passes views lanes history → Passes (views ++ spent ∷ []) lanes history
passes_comes views lanes history h =
    record {
      homes = h.homes;
      loose = λ i k u t e a. elim (at_end views spent u i e) [
        | inl q ↦ h.loose i k u t q a
        | inr q ↦ absurd (nothing_there k t (subst (λ (u : View). get_elem? u.loose k ≡ some t) (sym q.1) a))
      ];
      held = λ i k u o e a. elim (at_end views spent u i e) [
        | inl q ↦ h.held i k u o q a
        | inr q ↦ absurd (nothing_there k o (subst (λ (u : View). get_elem? (owned u) k ≡ some o) (sym q.1) a))
      ];
      unfinished = h.unfinished;
    }

pub comes : {S : Type 0} (x : Shape) (c : ℕ → Cell) (ws : List ℕ) (slots i : ℕ) (told : ℕ → View → Type 0) → ((n : ℕ) → told n spent) → Enters {S = S} (rule x c ws) slots i told
comes x c ws slots i told tells t has size fits =
    (spent, (has.0, told_of x c ws t.words t.views _ has.0 has.1 (seats_more x t.views has.0.lanes spent refl has.1.seats) (passes_comes t.views has.0.lanes has.0.history has.1.passes)), tells _)

pub comes_alone : {S : Type 0} (x : Shape) (c : ℕ → Cell) (ws : List ℕ) (slots i : ℕ) → Enters {S = S} (rule x c ws) slots i (λ n w. Alone S w)
comes_alone {S = S} x c ws slots i = comes x c ws slots i (λ n w. Alone S w) (λ n. refl)
