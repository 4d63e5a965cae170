-- A pass is made, given away by a lane, and taken by a lane.
use Rattle.std.proofs.Common.{◌≡◌, ℕ, ◌+◌, ◌<◌, ◌≤◌, ◌≢◌, ◌==◌, if◌then◌else◌, inl, inr, zero, suc, true, false, List, [], ◌∷◌, ◌++◌, length, drop, refl, sym, ap, ◌∙◌, subst, slice_set, arith}
use lib.ListN.{get_elem?}
use mathlib.Core.Option.{some, some-injective, some-ne-none}
use Rattle.atomic_table.specs.Table.{Splits, Joins}
use Rattle.atomic_table.proofs.Lists.{at_set}
use Rattle.arena_open.specs.declared.cell.Cell.{Cell}
use Rattle.lane_core.specs.declared.history.Entry.{Entry}
use Rattle.lane_core.specs.declared.lane.Lane.{Lane}
use Rattle.lane_core.specs.declared.shape.Shape.{Shape}
use Rattle.lane_core.specs.History.{of_session}
use Rattle.lane_core.specs.Invariant.{is_reading}
use Rattle.lane_core.specs.Machine.{State}
use Rattle.lane_core.proofs.Past.{append_none}
use Rattle.lane_core.proofs.Places.{put_again}
use Rattle.lane_core.proofs.Put.{never, same_or_not}
use Rattle.lane_table.specs.declared.table.Count.{Count}
use Rattle.lane_table.specs.declared.table.Owned.{Owned}
use Rattle.lane_table.specs.declared.table.PassPart.{PassPart}
use Rattle.lane_table.specs.declared.table.View.{View}
use Rattle.lane_table.specs.declared.arena.Arena.{Arena}
use Rattle.lane_table.specs.declared.session_pass.Pass.{Pass}
use Rattle.lane_table.specs.Law.{Seats, Passes, Home, Loose, On, covers_by, IsLoose, IsHeld, AreHeld, rising, unlogged, own, owned, owned_by, spent, pass_seat, unmade_from, new_pass, later, next_pass, left_to_make, made_pass, pass_of, without_pass, given_pass, with_pass, others, holds_pass, pass_now, steps_of, entries_of}
use Rattle.lane_table.proofs.Moves.{rule, mine_of, seats_put, all_logged, Stands}
use Rattle.lane_table.proofs.Passes.{on_apart, loose_apart, drop_all, of_session-nothing, only}
use Rattle.lane_table.proofs.Splits.{at_end, seats_alike, seats_more, seats_spent, told_of}

nothing_there : {A : Type 0} (k : ℕ) (p : A) → get_elem? [] k ≡ some p → ⊥
nothing_there k p e = some-ne-none p (sym e)

-- the pass of one session goes home to another place
abbrev sent : ℕ → Home → (ℕ → Home) → ℕ → Home
sent n new homes q = if q == n then new else homes q

sent_own : (n : ℕ) (new : Home) (homes : ℕ → Home) (q : ℕ) → q ≡ n → sent n new homes q ≡ new
sent_own n new homes q e = ap (λ c. if c then new else homes q) (is_true q n e)
  where
    is_true : (a b : ℕ) → a ≡ b → (a == b) ≡ true
    is_true a b e = grind arith

sent_other : (n : ℕ) (new : Home) (homes : ℕ → Home) (q : ℕ) → q ≢ n → sent n new homes q ≡ homes q
sent_other n new homes q ne = ap (λ c. if c then new else homes q) (is_false q n ne)
  where
    is_false : (a b : ℕ) → a ≢ b → (a == b) ≡ false
    is_false a b ne = grind arith

abbrev seat_of : Home → ℕ
seat_of (Loose i k) = i
seat_of (On l) = 0

abbrev place_of : Home → ℕ
place_of (Loose i k) = k
place_of (On l) = 0

-- ---- a pass is made

module _ (x : Shape) (views : List View) (lanes : ℕ → Lane) (history : List Entry) (id : ℕ) (v : View) (n : ℕ) (ts : List PassPart) (at : get_elem? views id ≡ some v) (has : v.loose ≡ unmade_from n ∷ ts) (seats : Seats x views lanes) (h : Passes views lanes history) where
  abbrev left : View
  left = record v { loose = unmade_from (n + 1) ∷ ts }

  abbrev right : View
  right = pass_seat (new_pass n ∷ [])

  abbrev made : List View
  made = slice_set views id left ++ right ∷ []

  abbrev new : Home
  new = Loose (length (slice_set views id left)) 0

  -- the sessions that have no pass yet
  unmade : (q : ℕ) → n ≤ q → (h.homes q ≡ Loose id 0) × (of_session q history ≡ [])
  unmade q le = (h.loose id 0 v (unmade_from n) at (ap (λ ts. get_elem? ts 0) has)).0 q le

  home_n : h.homes n ≡ Loose id 0
  home_n = (unmade n (omega arith)).0

  not_on : (q l : ℕ) → h.homes q ≡ On l → q ≢ n
  not_on q l e z = loose_apart id 0 l (sym home_n ∙ ap h.homes (sym z) ∙ e)

  not_loose : (q i k : ℕ) → h.homes q ≡ Loose i k → (i ≡ id → k ≡ 0 → ⊥) → q ≢ n
  not_loose q i k e ne z = let r : Loose i k ≡ Loose id 0 = sym e ∙ ap h.homes z ∙ home_n in ne (ap seat_of r) (ap place_of r)

  pub seats_made : Seats x made lanes
  seats_made = seats_more x (slice_set views id left) lanes right refl
      (seats_alike x views (slice_set views id left) lanes seats
      (λ i k u o e a. elim (at_set views id i left u e) [
        | inl q ↦ (v, ap (get_elem? views) q.0 ∙ at, subst (λ (u : View). get_elem? (owned u) k ≡ some o) (sym q.1) a)
        | inr q ↦ (u, q.1, a)
      ]))

  -- one that was there stays
  old_loose : (i k : ℕ) (u : View) (t : PassPart) → (i ≡ id → k ≡ 0 → ⊥) → get_elem? views i ≡ some u → get_elem? u.loose k ≡ some t → IsLoose (sent n new h.homes) history i k t × (rising t.entries ≡ true)
  old_loose i k u t ne e a =
      let r = h.loose i k u t e a in
      (λ q c. let z = r.0 q c in (sent_other n new h.homes q (not_loose q i k z.0 ne) ∙ z.0, z.1), r.1)

  at_left : (k : ℕ) (t : PassPart) → get_elem? (unmade_from (n + 1) ∷ ts) k ≡ some t → IsLoose (sent n new h.homes) history id k t × (rising t.entries ≡ true)
  at_left zero t a =
      subst (λ (t : PassPart). IsLoose (sent n new h.homes) history id 0 t × (rising t.entries ≡ true)) (some-injective (unmade_from (n + 1)) t a)
      (λ q c. let z = unmade q (omega (arith, c)) in (sent_other n new h.homes q (λ e. omega (arith, c, e)) ∙ z.0, z.1), refl)
  at_left (suc k) t a = old_loose id (suc k) v t (λ _ z. not_zero k z) at (ap (λ ts. get_elem? ts (suc k)) has ∙ a)
    where
      not_zero : (k : ℕ) → suc k ≡ 0 → ⊥
      not_zero k z = omega arith

  at_right : (i k : ℕ) (t : PassPart) → i ≡ length (slice_set views id left) → get_elem? (new_pass n ∷ []) k ≡ some t → IsLoose (sent n new h.homes) history i k t × (rising t.entries ≡ true)
  at_right i k t e a = let r = only (new_pass n) t k a in
      subst (λ (t : PassPart). IsLoose (sent n new h.homes) history i k t × (rising t.entries ≡ true)) r.1
      (λ q c. (sent_own n new h.homes q (sym c) ∙ ap (λ i. Loose i 0) (sym e) ∙ ap (Loose i) (sym r.0), (unmade q (omega (arith, c))).1), refl)

  pub passes_made : Passes made lanes history
  passes_made =
      record {
        homes = sent n new h.homes;
        loose = λ i k u t e a. elim (at_end _ _ u i e) [
          | inl q ↦ elim (at_set views id i left u q) [
            | inl r ↦ subst (λ i. IsLoose (sent n new h.homes) history i k t × (rising t.entries ≡ true)) (sym r.0) (at_left k t (subst (λ (u : View). get_elem? u.loose k ≡ some t) (sym r.1) a))
            | inr r ↦ old_loose i k u t (λ z _. r.0 z) r.1 a
          ]
          | inr q ↦ at_right i k t q.0 (subst (λ (u : View). get_elem? u.loose k ≡ some t) (sym q.1) a)
        ];
        held = λ i k u o e a m t is. let r = came i k u o e a m t is in ((sent_other n new h.homes t.session (not_on t.session o.number r.0.0) ∙ r.0.0, r.0.1), r.1);
        unfinished = λ l k e is. let r = h.unfinished l k e is in (sent_other n new h.homes e.tag.session (not_on e.tag.session l r.0) ∙ r.0, r.1, r.2);
      }
    where
      came : (i k : ℕ) (u : View) (o : Owned) → get_elem? made i ≡ some u → get_elem? (owned u) k ≡ some o → AreHeld h.homes history o.number o.lane.log o.held
      came i k u o e a = elim (at_end _ _ u i e) [
        | inl q ↦ elim (at_set views id i left u q) [
          | inl r ↦ h.held id k v o at (subst (λ (u : View). get_elem? (owned u) k ≡ some o) (sym r.1) a)
          | inr r ↦ h.held i k u o r.1 a
        ]
        | inr q ↦ absurd (nothing_there k o (subst (λ (u : View). get_elem? (owned u) k ≡ some o) (sym q.1) a))
      ]

pub makes_pass : {S : Type 0} (x : Shape) (c : ℕ → Cell) (ws : List ℕ) (id : ℕ) (v : View) (n : ℕ) (ts : List PassPart) → v.loose ≡ unmade_from n ∷ ts
    → Splits {S = S} (rule x c ws) id v (left_to_make v) (made_pass v)
makes_pass x c ws id v n ts has t holds at =
    subst (λ ps. rule x c ws (record { words = t.words; homes = t.homes; views = slice_set t.views id (record v { loose = later ps }) ++ next_pass ps ∷ [] })) (sym has)
    (holds.0, told_of x c ws t.words t.views _ holds.0 holds.1 (seats_made x t.views holds.0.lanes holds.0.history id v n ts at has holds.1.seats holds.1.passes) (passes_made x t.views holds.0.lanes holds.0.history id v n ts at has holds.1.seats holds.1.passes))

-- ---- a lane gives its pass away

module _ (x : Shape) (views : List View) (lanes : ℕ → Lane) (history : List Entry) (id : ℕ) (v : View) (t : PassPart) (at : get_elem? views id ≡ some v) (live : v.live ≡ true) (has : v.held ≡ t ∷ [])
    (quiet : unlogged v.lane.log v.number history ≡ []) (seats : Seats x views lanes) (h : Passes views lanes history) where
  abbrev bare : View
  bare = record v { held = [] }

  abbrev gone : View
  gone = pass_seat (record t { unmade = false; steps = v.count.steps } ∷ [])

  abbrev given : List View
  given = slice_set views id bare ++ gone ∷ []

  abbrev there : Home
  there = Loose (length (slice_set views id bare)) 0

  own_at : get_elem? (owned v) 0 ≡ some (own v)
  own_at = ap (λ b. get_elem? (owned_by b (own v) v.rest) 0) live

  mine : IsHeld h.homes history v.number v.lane.log t × (rising t.entries ≡ true)
  mine = h.held id 0 v (own v) at own_at 0 t (ap (λ ts. get_elem? ts 0) has)

  lane_is : lanes v.number ≡ v.lane
  lane_is = (mine_of x views lanes id v at live seats).1

  away : (q : ℕ) (home : Home) → h.homes q ≡ home → home ≢ On v.number → q ≢ t.session
  away q home e ne z = ne (sym e ∙ ap h.homes z ∙ mine.0.0)

  pub seats_given : Seats x given lanes
  seats_given = seats_more x (slice_set views id bare) lanes gone refl
      (subst (Seats x (slice_set views id bare)) (put_again lanes v.number v.lane (sym lane_is)) (seats_put x views lanes id v v.lane v.count [] at live seats))

  pub passes_given : Passes given lanes history
  passes_given =
      record {
        homes = sent t.session there h.homes;
        loose = λ i k u p e a. elim (at_end _ _ u i e) [
          | inl q ↦ elim (at_set views id i bare u q) [
            | inl r ↦ old_loose i k v p (ap (get_elem? views) r.0 ∙ at) (subst (λ (u : View). get_elem? u.loose k ≡ some p) (sym r.1) a)
            | inr r ↦ old_loose i k u p r.1 a
          ]
          | inr q ↦ at_gone i k p q.0 (subst (λ (u : View). get_elem? u.loose k ≡ some p) (sym q.1) a)
        ];
        held = λ i k u o e a. elim (at_end _ _ u i e) [
          | inl q ↦ elim (at_set views id i bare u q) [
            | inl r ↦ at_bare k o (ap (λ b. get_elem? (owned_by b (own bare) v.rest) k) (sym live) ∙ subst (λ (u : View). get_elem? (owned u) k ≡ some o) (sym r.1) a)
            | inr r ↦ old_held i k u o (λ z _. r.0 z) r.1 a
          ]
          | inr q ↦ absurd (nothing_there k o (subst (λ (u : View). get_elem? (owned u) k ≡ some o) (sym q.1) a))
        ];
        unfinished = λ l k e is. elim (same_or_not l v.number) [
          | inl z ↦ absurd (nothing_there k e (ap (λ es. get_elem? es k) (sym (ap (λ l. unlogged (lanes l).log l history) z ∙ ap (λ (p : Lane). unlogged p.log v.number history) lane_is ∙ quiet)) ∙ is))
          | inr ne ↦ let r = h.unfinished l k e is in (sent_other t.session there h.homes e.tag.session (away e.tag.session (On l) r.0 (on_apart v.number l ne)) ∙ r.0, r.1, r.2)
        ];
      }
    where
      old_loose : (i k : ℕ) (u : View) (p : PassPart) → get_elem? views i ≡ some u → get_elem? u.loose k ≡ some p → IsLoose (sent t.session there h.homes) history i k p × (rising p.entries ≡ true)
      old_loose i k u p e a = let r = h.loose i k u p e a in
          (λ q c. let z = r.0 q c in (sent_other t.session there h.homes q (away q (Loose i k) z.0 (loose_apart i k v.number)) ∙ z.0, z.1), r.1)

      at_gone : (i k : ℕ) (p : PassPart) → i ≡ length (slice_set views id bare) → get_elem? (record t { unmade = false; steps = v.count.steps } ∷ []) k ≡ some p → IsLoose (sent t.session there h.homes) history i k p × (rising p.entries ≡ true)
      at_gone i k p e a = let r = only (record t { unmade = false; steps = v.count.steps }) p k a in
          subst (λ (p : PassPart). IsLoose (sent t.session there h.homes) history i k p × (rising p.entries ≡ true)) r.1 (
            λ q c. (
              sent_own t.session there h.homes q (sym c) ∙ ap (λ i. Loose i 0) (sym e) ∙ ap (Loose i) (sym r.0),
              ap (λ q. of_session q history) (sym c) ∙ mine.0.1 ∙ ap (λ es. t.entries ++ of_session t.session es) quiet ∙ ap (λ es. t.entries ++ es) (of_session-nothing t.session) ∙ append_none t.entries,
            ),
            mine.1,
          )

      old_held : (i k : ℕ) (u : View) (o : Owned) → (i ≡ id → k ≡ 0 → ⊥) → get_elem? views i ≡ some u → get_elem? (owned u) k ≡ some o → AreHeld (sent t.session there h.homes) history o.number o.lane.log o.held
      old_held i k u o ne e a m p is =
          let r = h.held i k u o e a m p is in
          let apart : o.number ≢ v.number = λ z. let y = seats.once i id k 0 u v o (own v) e at a own_at z in ne y.0 y.1 in
          ((sent_other t.session there h.homes p.session (away p.session (On o.number) r.0.0 (on_apart v.number o.number apart)) ∙ r.0.0, r.0.1), r.1)

      at_bare : (k : ℕ) (o : Owned) → get_elem? (own bare ∷ v.rest) k ≡ some o → AreHeld (sent t.session there h.homes) history o.number o.lane.log o.held
      at_bare zero o a m p is = absurd (nothing_there m p (subst (λ (o : Owned). get_elem? o.held m ≡ some p) (sym (some-injective (own bare) o a)) is))
      at_bare (suc k) o a m p is = old_held id (suc k) v o (λ _ z. not_zero k z) at (ap (λ b. get_elem? (owned_by b (own v) v.rest) (suc k)) live ∙ a) m p is
        where
          not_zero : (k : ℕ) → suc k ≡ 0 → ⊥
          not_zero k z = omega arith

-- ---- a lane takes a pass

module _ (x : Shape) (views : List View) (lanes : ℕ → Lane) (history : List Entry) (id other : ℕ) (v : View) (t : PassPart) (c : Count) (at : get_elem? views id ≡ some v) (live : v.live ≡ true) (none : v.held ≡ []) (apart : other ≢ id)
    (that : get_elem? views other ≡ some (pass_seat (t ∷ []))) (one : t.unmade ≡ false) (quiet : unlogged v.lane.log v.number history ≡ []) (seats : Seats x views lanes) (h : Passes views lanes history) where
  abbrev full : View
  full = record v { held = t ∷ []; count = c }

  abbrev taken : List View
  taken = slice_set (slice_set views id full) other spent

  was : (h.homes t.session ≡ Loose other 0) × (of_session t.session history ≡ t.entries)
  was = (h.loose other 0 (pass_seat (t ∷ [])) t that refl).0 t.session (subst (λ b. covers_by b t.session t.session) (sym one) refl)

  own_there : get_elem? (owned v) 0 ≡ some (own v)
  own_there = ap (λ b. get_elem? (owned_by b (own v) v.rest) 0) live

  lane_was : lanes v.number ≡ v.lane
  lane_was = (mine_of x views lanes id v at live seats).1

  off : (q : ℕ) (home : Home) → h.homes q ≡ home → home ≢ Loose other 0 → q ≢ t.session
  off q home e ne z = ne (sym e ∙ ap h.homes z ∙ was.0)

  pub seats_taken : Seats x taken lanes
  seats_taken = seats_spent x (slice_set views id full) lanes other
      (subst (Seats x (slice_set views id full)) (put_again lanes v.number v.lane (sym lane_was)) (seats_put x views lanes id v v.lane c (t ∷ []) at live seats))

  pub passes_taken : Passes taken lanes history
  passes_taken =
      record {
        homes = sent t.session (On v.number) h.homes;
        loose = λ i k u p e a. elim (at_set (slice_set views id full) other i spent u e) [
          | inl q ↦ absurd (nothing_there k p (subst (λ (u : View). get_elem? u.loose k ≡ some p) (sym q.1) a))
          | inr q ↦ elim (at_set views id i full u q.1) [
            | inl r ↦ kept_loose i k v p q.0 (ap (get_elem? views) r.0 ∙ at) (subst (λ (u : View). get_elem? u.loose k ≡ some p) (sym r.1) a)
            | inr r ↦ kept_loose i k u p q.0 r.1 a
          ]
        ];
        held = λ i k u o e a. elim (at_set (slice_set views id full) other i spent u e) [
          | inl q ↦ absurd (nothing_there k o (subst (λ (u : View). get_elem? (owned u) k ≡ some o) (sym q.1) a))
          | inr q ↦ elim (at_set views id i full u q.1) [
            | inl r ↦ at_full k o (ap (λ b. get_elem? (owned_by b (own full) v.rest) k) (sym live) ∙ subst (λ (u : View). get_elem? (owned u) k ≡ some o) (sym r.1) a)
            | inr r ↦ kept_held i k u o r.1 a
          ]
        ];
        unfinished = λ l k e is. let r = h.unfinished l k e is in (sent_other t.session (On v.number) h.homes e.tag.session (off e.tag.session (On l) r.0 (λ z. loose_apart other 0 l (sym z))) ∙ r.0, r.1, r.2);
      }
    where
      kept_loose : (i k : ℕ) (u : View) (p : PassPart) → i ≢ other → get_elem? views i ≡ some u → get_elem? u.loose k ≡ some p → IsLoose (sent t.session (On v.number) h.homes) history i k p × (rising p.entries ≡ true)
      kept_loose i k u p ne e a = let r = h.loose i k u p e a in
          (λ q c. let z = r.0 q c in (sent_other t.session (On v.number) h.homes q (off q (Loose i k) z.0 (λ y. ne (ap seat_of y))) ∙ z.0, z.1), r.1)

      kept_held : (i k : ℕ) (u : View) (o : Owned) → get_elem? views i ≡ some u → get_elem? (owned u) k ≡ some o → AreHeld (sent t.session (On v.number) h.homes) history o.number o.lane.log o.held
      kept_held i k u o e a m p is = let r = h.held i k u o e a m p is in
          ((sent_other t.session (On v.number) h.homes p.session (off p.session (On o.number) r.0.0 (λ z. loose_apart other 0 o.number (sym z))) ∙ r.0.0, r.0.1), r.1)

      at_full : (k : ℕ) (o : Owned) → get_elem? (own full ∷ v.rest) k ≡ some o → AreHeld (sent t.session (On v.number) h.homes) history o.number o.lane.log o.held
      at_full zero o a m p is =
          subst (λ (o : Owned). AreHeld (sent t.session (On v.number) h.homes) history o.number o.lane.log o.held) (some-injective (own full) o a)
          (λ m p is. let r = only t p m is in
          subst (λ (p : PassPart). IsHeld (sent t.session (On v.number) h.homes) history v.number v.lane.log p × (rising p.entries ≡ true)) r.1 (
            (
              sent_own t.session (On v.number) h.homes t.session refl,
              was.1 ∙ sym (append_none t.entries) ∙ ap (λ es. t.entries ++ es) (sym (of_session-nothing t.session)) ∙ ap (λ es. t.entries ++ of_session t.session es) (sym quiet),
            ),
            (h.loose other 0 (pass_seat (t ∷ [])) t that refl).1,
          )) m p is
      at_full (suc k) o a m p is = kept_held id (suc k) v o at (ap (λ b. get_elem? (owned_by b (own v) v.rest) (suc k)) live ∙ a) m p is

-- ---- as the table has them

-- an idle lane has all of its calls in its log
none_open : (x : Shape) (o : ℕ → Cell) (v : View) (s : State) → Stands x o v s → is_reading v.lane.phase ≡ false → unlogged v.lane.log v.number s.history ≡ []
none_open x o v s h e = ap (drop (length v.lane.log)) (all_logged x o v s h e) ∙ drop_all v.lane.log

pub gives_pass : {S : Type 0} (x : Shape) (c : ℕ → Cell) (ws : List ℕ) (id : ℕ) (v : View) (t : PassPart) → v.live ≡ true → v.held ≡ t ∷ [] → is_reading v.lane.phase ≡ false
    → Splits {S = S} (rule x c ws) id v (without_pass v) (given_pass v)
gives_pass x c ws id v t live has idle b holds at =
    let m = mine_of x b.views holds.0.lanes id v at live holds.1.seats in
    let quiet = none_open x c v holds.0 (record { sound = holds.1.sound; number = m.0; lane = m.1; shape = m.2 }) idle in
    subst (λ ps. rule x c ws (record { words = b.words; homes = b.homes; views = slice_set b.views id (record v { held = [] }) ++ pass_of v.count.steps ps ∷ [] })) (sym has) (
      holds.0,
      told_of x c ws b.words b.views _ holds.0 holds.1 (seats_given x b.views holds.0.lanes holds.0.history id v t at live has quiet holds.1.seats holds.1.passes)
          (passes_given x b.views holds.0.lanes holds.0.history id v t at live has quiet holds.1.seats holds.1.passes),
    )

pub takes_pass : {S : Type 0} (x : Shape) (c : ℕ → Cell) (ws : List ℕ) (id : ℕ) (v : View) (other : ℕ) (w : View) (t : PassPart) → v.live ≡ true → v.held ≡ [] → is_reading v.lane.phase ≡ false → w ≡ pass_seat (t ∷ []) → t.unmade ≡ false
    → Joins {S = S} (rule x c ws) id v other w (with_pass v w) spent
takes_pass {S = S} x c ws id v other w t live none idle is one =
    subst (λ w. Joins {S = S} (rule x c ws) id v other w (with_pass v w) spent) (sym is)
    (λ b holds at apart that. elim (at_set b.views id other (with_pass v (pass_seat (t ∷ []))) (pass_seat (t ∷ [])) that) [
      | inl q ↦ absurd (apart q.0)
      | inr q ↦
          let m = mine_of x b.views holds.0.lanes id v at live holds.1.seats in
          let quiet = none_open x c v holds.0 (record { sound = holds.1.sound; number = m.0; lane = m.1; shape = m.2 }) idle in
          let k : Count = record (v.count) { steps = t.steps } in (
            holds.0,
            told_of x c ws b.words b.views _ holds.0 holds.1 (seats_taken x b.views holds.0.lanes holds.0.history id other v t k at live none apart q.1 one quiet holds.1.seats holds.1.passes)
                (passes_taken x b.views holds.0.lanes holds.0.history id other v t k at live none apart q.1 one quiet holds.1.seats holds.1.passes),
          )
    ])

-- a table has words
pub some_words : (a : Arena) → 0 < a.table.shared.table_id.words
some_words a = let n = a.size in let l = a.some.0 in omega (arith, n, l)

-- a pass's seat, as its type says
pub pass_is : (p : Pass) → p.seat.me.0 ≡ pass_seat (record { session = p.session; unmade = false; steps = steps_of p.seat.me.0.loose; entries = entries_of p.seat.me.0.loose } ∷ [])
pass_is p = ap (λ m. m.0) p.alone ∙ ap pass_seat p.one

same_number : (a b : ℕ) → (a == b) ≡ true → a ≡ b
same_number a b q = grind arith

-- a lane that holds a session's pass
pub holds_one : (held : List PassPart) (q : ℕ) → holds_pass held q ≡ true → (t : PassPart) × (held ≡ t ∷ []) × (t.session ≡ q)
holds_one [] q h = never h
holds_one (t ∷ []) q h = (t, refl, same_number t.session q h)
holds_one (t ∷ u ∷ ts) q h = never h

-- the seat of a pass that was given
pub given_now : (v : View) (q : ℕ) → holds_pass v.held q ≡ true → (given_pass v).loose ≡ pass_now q (steps_of (given_pass v).loose) (entries_of (given_pass v).loose)
given_now v q h = let r = holds_one v.held q h in
    subst (λ held. (pass_of v.count.steps held).loose ≡ pass_now q (steps_of (pass_of v.count.steps held).loose) (entries_of (pass_of v.count.steps held).loose)) (sym r.1)
    (ap (λ n. record (r.0) { session = n; unmade = false; steps = v.count.steps } ∷ []) r.2)

pub given_alone : (v : View) (q : ℕ) → holds_pass v.held q ≡ true → given_pass v ≡ pass_seat (given_pass v).loose
given_alone v q h = let r = holds_one v.held q h in subst (λ held. pass_of v.count.steps held ≡ pass_seat (pass_of v.count.steps held).loose) (sym r.1) refl

-- the seat of a pass that was made
pub made_alone : (v : View) (n : ℕ) → v.loose ≡ unmade_from n ∷ others v.loose → (made_pass v ≡ pass_seat (made_pass v).loose) × ((made_pass v).loose ≡ pass_now n (steps_of (made_pass v).loose) (entries_of (made_pass v).loose))
made_alone v n h = subst (λ ps. (next_pass ps ≡ pass_seat (next_pass ps).loose) × ((next_pass ps).loose ≡ pass_now n (steps_of (next_pass ps).loose) (entries_of (next_pass ps).loose))) (sym h) (refl, refl)

-- lane 0's seat goes on with the next session
pub made_on : (v : View) (n : ℕ) → v.loose ≡ unmade_from n ∷ others v.loose → (left_to_make v).loose ≡ unmade_from (n + 1) ∷ others (left_to_make v).loose
made_on v n h = subst (λ ps. later ps ≡ unmade_from (n + 1) ∷ others (later ps)) (sym h) refl

-- a seat that carries a pass more still makes them
pub makes_still : (ps qs : List PassPart) (n : ℕ) → ps ≡ unmade_from n ∷ others ps → ps ++ qs ≡ unmade_from n ∷ others (ps ++ qs)
makes_still ps qs n h = subst (λ ps. ps ++ qs ≡ unmade_from n ∷ others (ps ++ qs)) (sym h) refl
