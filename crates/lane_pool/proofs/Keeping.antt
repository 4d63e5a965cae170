-- What a caller's turn does to the pool keeps the pool's rule, and the parts of all other callers.
use Rattle.std.proofs.Common.{◌≡◌, ◌≢◌, inl, inr, ℕ, zero, suc, [], ◌∷◌, ◌+◌, ◌-◌, ◌<◌, ◌≤◌, false, List, length, length-set, get_or, set, Option, Some, None, refl, sym, ap, ◌∙◌, subst, arith, get_or-set_other, get_or-set_same}
use Rattle.std.specs.Prelude.{◌⊎◌, nat_lt}
use Rattle.std.proofs.lemmas.List.Sums.{sum_by-set}
use mathlib.Core.Logic.{dite}
use native.Mathlib.Decide.{ℕ_discrete}
use Rattle.lane_table.specs.declared.lanes.LaneEnd.{LaneEnd}
use Rattle.lane_table.specs.declared.lanes.LaneEnd.TheVariants.{Idle, Staged, Stopped}
use Rattle.lane_pool.specs.declared.holders.Hand.{Hand}
use Rattle.lane_pool.specs.declared.holders.Hand.TheVariants as hand
use Rattle.lane_pool.specs.declared.holders.Holder.{Holder}
use Rattle.lane_pool.specs.declared.holders.Stop.{Stop}
use Rattle.lane_pool.specs.declared.sets.LaneSet.{LaneSet}
use Rattle.lane_pool.specs.declared.sets.PowerOff.{PowerOff}
use Rattle.lane_pool.specs.Parts.{or_first, stop_with}
use Rattle.lane_pool.specs.Pools.{Has, IsPool, Now, handed_in, holder_at, left_in, left_of, nobody, part_at, pool_now, set_at}
use Rattle.lane_pool.specs.Sets.{IsAtPlace, IsIdleEnd, IsReady}

-- ---- small facts

in_some : {A : Type 0} {x y : A} → Some x ≡ Some y → x ≡ y
in_some e = cc

some_none : {A : Type 0} {x : A} → Some x ≡ None → ⊥
some_none e = cc

out_parts : {at i room f : ℕ} → hand.Out at room ≡ hand.Out i f → (at ≡ i) × (room ≡ f)
out_parts e = (cc, cc)

stopped_part : {at i : ℕ} → hand.Stopped at ≡ hand.Stopped i → at ≡ i
stopped_part e = cc

out_stopped : {at room i : ℕ} → hand.Out at room ≡ hand.Stopped i → ⊥
out_stopped e = cc

empty_out : {i f : ℕ} → hand.Empty ≡ hand.Out i f → ⊥
empty_out e = cc

empty_stopped : {i : ℕ} → hand.Empty ≡ hand.Stopped i → ⊥
empty_stopped e = cc

-- a lane with room for more has room for less
pub weaker_end : (m n : ℕ) → m ≤ n → (e : Option LaneEnd) → IsIdleEnd n e → IsIdleEnd m e
weaker_end m n le None h = h
weaker_end m n le (Some (Idle l)) h = (let enough = h.0 in omega (arith, le, enough), h.1)
weaker_end m n le (Some (Staged s)) h = h
weaker_end m n le (Some (Stopped s)) h = h

pub weaker : (m n : ℕ) → m ≤ n → (s : LaneSet) → IsReady n s → IsReady m s
weaker m n le s h i d lt = weaker_end m n le (get_or s.ends.items i d) (h i d lt)

-- ---- one caller changes

module _ (hs : List Holder) (q : ℕ) (h : Holder) (inside : q < length hs) where
  pub own : holder_at (set hs q h) q ≡ h
  own = get_or-set_same hs q h nobody inside

  pub other : (r : ℕ) → r ≢ q → holder_at (set hs q h) r ≡ holder_at hs r
  other r ne = get_or-set_other hs q r h nobody ne

  -- what holds of its new state, and of all others, holds of all
  pub by_holder : (P : ℕ → Holder → Type 0) → P q h → ((r : ℕ) → r ≢ q → P r (holder_at hs r)) → (r : ℕ) → P r (holder_at (set hs q h) r)
  by_holder P mine others r = dite (ℕ_discrete r q)
      (λ is. subst (λ (k : ℕ). P k (holder_at (set hs q h) k)) (sym is) (subst (λ (x : Holder). P q x) (sym own) mine))
      (λ ne. subst (λ (x : Holder). P r x) (sym (other r ne)) (others r ne))

  pub same_of : {A : Type 0} (f : Holder → A) → f h ≡ f (holder_at hs q) → (r : ℕ) → f (holder_at (set hs q h) r) ≡ f (holder_at hs r)
  same_of f is r = by_holder (λ r x. f x ≡ f (holder_at hs r)) is (λ r ne. refl) r

  pub left_set : left_in (set hs q h) + (holder_at hs q).left ≡ left_in hs + h.left
  left_set = sum_by-set left_of hs q h nobody inside

-- a caller may make no more calls than all callers
pub left_within : (hs : List Holder) (q : ℕ) → q < length hs → (holder_at hs q).left ≤ left_in hs
left_within hs q inside = let e = left_set hs q nobody inside in omega (arith, e)

-- ---- one set changes

set_same : (sets : List (Option LaneSet)) (at : ℕ) (o : Option LaneSet) → at < length sets → set_at (set sets at o) at ≡ o
set_same sets at o inside = get_or-set_same sets at o None inside

set_other : (sets : List (Option LaneSet)) (at i : ℕ) (o : Option LaneSet) → i ≢ at → set_at (set sets at o) i ≡ set_at sets i
set_other sets at i o ne = get_or-set_other sets at i o None ne

-- a place that isn't empty stands in the list
pub in_list : (sets : List (Option LaneSet)) (i : ℕ) (s : LaneSet) → set_at sets i ≡ Some s → i < length sets
in_list [] i s e = absurd (some_none (sym e))
in_list (x ∷ xs) zero s e = omega arith
in_list (x ∷ xs) (suc i) s e = omega (arith, in_list xs i s e)

-- ---- power goes off

module _ (v : Now) (p : IsPool v) (q : ℕ) (inside : q < length v.holders) (off first : PowerOff) (first_is : Some first ≡ or_first v.off off) (h : Holder) where
  -- some caller said so that hadn't been told
  pub first_stops : h.stop ≡ stop_with off (holder_at v.holders q).told (holder_at v.holders q).stop → (x : PowerOff) → Some first ≡ Some x → (r : ℕ) × ((holder_at (set v.holders q h) r).stop ≡ Some (record { off = x; told = false }))
  first_stops stop_is x e = by v.off refl
    where
      own_stop : (o : Option PowerOff) (s : Option Stop) → v.off ≡ o → (holder_at v.holders q).stop ≡ s → s ≡ None ⊎ (o ≢ None)
      own_stop o None at is = inl refl
      own_stop o (Some s) at is = inr (λ none. p.stops q s is (at ∙ none))

      stays : (r : ℕ) → (y : PowerOff) → (holder_at v.holders r).stop ≡ Some (record { off = y; told = false }) → (holder_at (set v.holders q h) r).stop ≡ Some (record { off = y; told = false })
      stays r y is = by_holder v.holders q h inside (λ r z. (holder_at v.holders r).stop ≡ Some (record { off = y; told = false }) → z.stop ≡ Some (record { off = y; told = false }))
          (λ mine. stop_is ∙ ap (λ s. stop_with off (holder_at v.holders q).told s) mine)
          (λ r ne theirs. theirs) r is

      none_told : v.off ≡ None → (t : Option PowerOff) → (holder_at v.holders q).told ≡ t → t ≡ None
      none_told on None is = refl
      none_told on (Some y) is = absurd (some_none (sym (p.told q y is) ∙ on))

      none_stop : v.off ≡ None → (s : Option Stop) → (holder_at v.holders q).stop ≡ s → s ≡ None
      none_stop on None is = refl
      none_stop on (Some y) is = absurd (p.stops q y is on)

      by : (o : Option PowerOff) → v.off ≡ o → (r : ℕ) × ((holder_at (set v.holders q h) r).stop ≡ Some (record { off = x; told = false }))
      by (Some y) at =
          let same : y ≡ x = sym (in_some (first_is ∙ ap (λ o. or_first o off) at)) ∙ in_some e in
          let o = p.by_one x (at ∙ ap (λ z. Some z) same) in (o.0, stays o.0 x o.1)
      by None at =
          let same : off ≡ x = sym (in_some (first_is ∙ ap (λ o. or_first o off) at)) ∙ in_some e in
          let s = none_stop at (holder_at v.holders q).stop refl in
          let t = none_told at (holder_at v.holders q).told refl in
          (q, ap (λ (z : Holder). z.stop) (own v.holders q h inside) ∙ stop_is ∙ (λ i. stop_with off (t i) (s i)) ∙ ap (λ z. Some (record { off = z; told = false })) same)

  -- who was told before was told the same
  pub told_first : h.told ≡ Some first → (r : ℕ) (x : PowerOff) → (holder_at (set v.holders q h) r).told ≡ Some x → Some first ≡ Some x
  told_first told_is = by_holder v.holders q h inside (λ r z. (x : PowerOff) → z.told ≡ Some x → Some first ≡ Some x)
      (λ x e. sym told_is ∙ e)
      (λ r ne x e. first_is ∙ ap (λ o. or_first o off) (p.told r x e))

-- ---- turns

module _ (v : Now) (p : IsPool v) (q : ℕ) (inside : q < length v.holders) where
  abbrev was : Holder
  was = holder_at v.holders q

  -- ---- it is told that power is off

  abbrev pub told_holder : PowerOff → Holder
  told_holder off = record { left = was.left; hand = was.hand; stop = was.stop; told = Some off }

  abbrev pub told_now : PowerOff → Now
  told_now off = pool_now v.first v.sets (set v.holders q (told_holder off)) v.off

  module _ (off : PowerOff) (is_off : v.off ≡ Some off) where
    hands : (r : ℕ) → (holder_at (set v.holders q (told_holder off)) r).hand ≡ (holder_at v.holders r).hand
    hands = same_of v.holders q (told_holder off) inside (λ h. h.hand) refl

    stops_same : (r : ℕ) → (holder_at (set v.holders q (told_holder off)) r).stop ≡ (holder_at v.holders r).stop
    stops_same = same_of v.holders q (told_holder off) inside (λ h. h.stop) refl

    pub told_left : left_in (set v.holders q (told_holder off)) ≡ left_in v.holders
    told_left = let e = left_set v.holders q (told_holder off) inside in omega (arith, e)

    pub told_pool : IsPool (told_now off)
    told_pool = record {
      count = p.count;
      home = p.home;
      ready = λ i s at. (elim (p.ready i s at) [
        | inl r ↦ inl (subst (λ (n : ℕ). IsReady n s) (sym told_left) r)
        | inr r ↦ inr (r.0, hands r.0 ∙ r.1)
      ]);
      away = λ i lt none. let a = p.away i lt none in (a.0, a.1, hands a.0 ∙ a.2);
      out = λ r i f is. let o = p.out r i f (sym (hands r) ∙ is) in (o.0, o.1, let le = o.2 in omega (arith, told_left, le));
      stopped = λ r i is. p.stopped r i (sym (hands r) ∙ is);
      one = λ r s i a b. p.one r s i (subst (λ (x : Hand). Has x i) (hands r) a) (subst (λ (x : Hand). Has x i) (hands s) b);
      by_one = λ x e. let o = p.by_one x e in (o.0, stops_same o.0 ∙ o.1);
      told = by_holder v.holders q (told_holder off) inside (λ r h. (x : PowerOff) → h.told ≡ Some x → v.off ≡ Some x) (λ x e. is_off ∙ e) (λ r ne. p.told r);
      stops = λ r s e. p.stops r s (sym (stops_same r) ∙ e);
    }

  -- ---- it takes a set

  module _ (at : ℕ) (s : LaneSet) (on : v.off ≡ None) (home : set_at v.sets at ≡ Some s) (free : was.hand ≡ hand.Empty) where
    abbrev pub took_room : ℕ
    took_room = left_in v.holders

    abbrev pub took_holder : Holder
    took_holder = record { left = was.left; hand = hand.Out at took_room; stop = was.stop; told = was.told }

    abbrev took_holders : List Holder
    took_holders = set v.holders q took_holder

    abbrev pub took_now : Now
    took_now = pool_now v.first (set v.sets at None) took_holders v.off

    -- the set has room for all calls that the caller may still make
    pub own_left : was.left ≤ took_room
    own_left = left_within v.holders q inside

    pub took_left : left_in took_holders ≡ left_in v.holders
    took_left = let e = left_set v.holders q took_holder inside in omega (arith, e)

    in_sets : at < length v.sets
    in_sets = in_list v.sets at s home

    -- nobody handed a set in yet
    none_stopped : (r i : ℕ) → (holder_at v.holders r).hand ≡ hand.Stopped i → ⊥
    none_stopped r i is = (p.stopped r i is).0 on

    -- nobody has to do with the set
    nobodys : (r : ℕ) (x : Hand) → x ≡ (holder_at v.holders r).hand → Has x at → ⊥
    nobodys r hand.Empty e h = h
    nobodys r (hand.Out i f) e h = some_none (sym home ∙ (p.out r at f (sym e ∙ (λ j. hand.Out (h j) f))).1)
    nobodys r (hand.Stopped i) e h = none_stopped r i (sym e)

    still : (i : ℕ) → i ≢ at → set_at (set v.sets at None) i ≡ set_at v.sets i
    still i ne = set_other v.sets at i None ne

    not_at : (i : ℕ) (x : LaneSet) → set_at (set v.sets at None) i ≡ Some x → i ≢ at
    not_at i x e is = some_none (sym e ∙ ap (λ (k : ℕ). set_at (set v.sets at None) k) is ∙ set_same v.sets at None in_sets)

    pub took_pool : IsPool took_now
    took_pool = record {
      count = length-set v.sets at None ∙ p.count;
      home = λ i x e. p.home i x (sym (still i (not_at i x e)) ∙ e);
      ready = λ i x e. (elim (p.ready i x (sym (still i (not_at i x e)) ∙ e)) [
        | inl r ↦ inl (subst (λ (n : ℕ). IsReady n x) (sym took_left) r)
        | inr r ↦ absurd (none_stopped r.0 i r.1)
      ]);
      away = λ i lt none. dite (ℕ_discrete i at)
          (λ is. (q, took_room, ap (λ (h : Holder). h.hand) (own v.holders q took_holder inside) ∙ (λ j. hand.Out (sym is j) took_room)))
          (λ ne.
          let a = p.away i (omega (arith, lt, length-set v.sets at None)) (sym (still i ne) ∙ none) in
          let not_q : a.0 ≢ q = λ e. empty_out (sym free ∙ ap (λ (k : ℕ). (holder_at v.holders k).hand) (sym e) ∙ a.2) in
          (a.0, a.1, ap (λ (h : Holder). h.hand) (other v.holders q took_holder inside a.0 not_q) ∙ a.2));
      out = by_holder v.holders q took_holder inside (λ r h. (i f : ℕ) → h.hand ≡ hand.Out i f → (i < length (set v.sets at None)) × (set_at (set v.sets at None) i ≡ None) × (left_in took_holders ≤ f))
          (λ i f e.
          let parts = out_parts e in
          let lt = in_sets in
          let l = took_left in
          let same_at = parts.0 in
          let same_room = parts.1 in
          (omega (arith, lt, same_at, length-set v.sets at None), ap (λ (k : ℕ). set_at (set v.sets at None) k) (sym same_at) ∙ set_same v.sets at None in_sets, omega (arith, l, same_room)))
          (λ r ne i f e.
          let o = p.out r i f e in
          let lt = o.0 in
          let le = o.2 in
          let l = took_left in
          let apart : i ≢ at = λ is. some_none (sym home ∙ ap (λ (k : ℕ). set_at v.sets k) (sym is) ∙ o.1) in
          (omega (arith, lt, length-set v.sets at None), still i apart ∙ o.1, omega (arith, le, l)));
      stopped = by_holder v.holders q took_holder inside (λ r h. (i : ℕ) → h.hand ≡ hand.Stopped i → (v.off ≢ None) × ((x : LaneSet) × (set_at (set v.sets at None) i ≡ Some x)))
          (λ i e. absurd (out_stopped e))
          (λ r ne i e. absurd (none_stopped r i e));
      one = λ r t i a b. by_holder v.holders q took_holder inside (λ r h. Has h.hand i → r ≡ t)
          (λ mine. by_holder v.holders q took_holder inside (λ t h. Has h.hand i → q ≡ t)
          (λ _. refl)
          (λ t ne theirs. absurd (nobodys t (holder_at v.holders t).hand refl (subst (λ (k : ℕ). Has (holder_at v.holders t).hand k) (sym mine) theirs)))
          t b)
          (λ r ne mine. by_holder v.holders q took_holder inside (λ t h. Has h.hand i → r ≡ t)
          (λ theirs. absurd (nobodys r (holder_at v.holders r).hand refl (subst (λ (k : ℕ). Has (holder_at v.holders r).hand k) (sym theirs) mine)))
          (λ t ne' theirs. p.one r t i mine theirs)
          t b)
          r a;
      by_one = λ x e. absurd (some_none (sym e ∙ on));
      told = by_holder v.holders q took_holder inside (λ r h. (x : PowerOff) → h.told ≡ Some x → v.off ≡ Some x) (p.told q) (λ r ne. p.told r);
      stops = by_holder v.holders q took_holder inside (λ r h. (x : Stop) → h.stop ≡ Some x → v.off ≢ None) (p.stops q) (λ r ne. p.stops r);
    }

    pub took_ready : IsReady took_room s
    took_ready = elim (p.ready at s home) [
      | inl r ↦ r
      | inr r ↦ absurd (none_stopped r.0 at r.1)
    ]

    pub took_place : IsAtPlace v.first at s
    took_place = p.home at s home

  -- ---- it has a set out

  module _ (at room : ℕ) (out : was.hand ≡ hand.Out at room) (s : LaneSet) (place : IsAtPlace v.first at s) where
    out_facts : (at < length v.sets) × (set_at v.sets at ≡ None) × (left_in v.holders ≤ room)
    out_facts = p.out q at room out

    abbrev back : List (Option LaneSet)
    back = set v.sets at (Some s)

    back_same : set_at back at ≡ Some s
    back_same = set_same v.sets at (Some s) out_facts.0

    back_other : (i : ℕ) → i ≢ at → set_at back i ≡ set_at v.sets i
    back_other i ne = set_other v.sets at i (Some s) ne

    mine_has : Has was.hand at
    mine_has = subst (λ (x : Hand). Has x at) (sym out) refl

    -- another has to do with another set
    apart : (r i : ℕ) → r ≢ q → Has (holder_at v.holders r).hand i → i ≢ at
    apart r i ne has is = ne (p.one r q at (subst (λ (k : ℕ). Has (holder_at v.holders r).hand k) is has) mine_has)

    out_has : (r i f : ℕ) → (holder_at v.holders r).hand ≡ hand.Out i f → Has (holder_at v.holders r).hand i
    out_has r i f is = subst (λ (x : Hand). Has x i) (sym is) refl

    stopped_has : (r i : ℕ) → (holder_at v.holders r).hand ≡ hand.Stopped i → Has (holder_at v.holders r).hand i
    stopped_has r i is = subst (λ (x : Hand). Has x i) (sym is) refl

    home_back : (i : ℕ) (x : LaneSet) → set_at back i ≡ Some x → IsAtPlace v.first i x
    home_back i x e = dite (ℕ_discrete i at)
        (λ is.
        let same : s ≡ x = in_some (sym back_same ∙ ap (λ (k : ℕ). set_at back k) (sym is) ∙ e) in
        subst (λ (k : ℕ). IsAtPlace v.first k x) (sym is) (subst (λ (y : LaneSet). IsAtPlace v.first at y) same place))
        (λ ne. p.home i x (sym (back_other i ne) ∙ e))

    not_mine : (r i : ℕ) → (holder_at v.holders r).hand ≡ hand.Stopped i → r ≢ q
    not_mine r i is e = out_stopped (sym out ∙ ap (λ (k : ℕ). (holder_at v.holders k).hand) (sym e) ∙ is)

    -- with any new state that has the set out no more
    module _ (h : Holder) (less : h.left ≤ was.left) where
      back_left : left_in (set v.holders q h) ≤ left_in v.holders
      back_left = let e = left_set v.holders q h inside in omega (arith, e, less)

      away_back : ((i f : ℕ) → h.hand ≡ hand.Out i f → ⊥) → (i : ℕ) → i < length back → set_at back i ≡ None → (r : ℕ) × (f : ℕ) × ((holder_at (set v.holders q h) r).hand ≡ hand.Out i f)
      away_back none i lt e =
          let ne : i ≢ at = λ is. some_none (sym back_same ∙ ap (λ (k : ℕ). set_at back k) (sym is) ∙ e) in
          let a = p.away i (omega (arith, lt, length-set v.sets at (Some s))) (sym (back_other i ne) ∙ e) in
          let not_q : a.0 ≢ q = λ same. ne (sym (out_parts (sym out ∙ ap (λ (k : ℕ). (holder_at v.holders k).hand) (sym same) ∙ a.2)).0) in
          (a.0, a.1, ap (λ (x : Holder). x.hand) (other v.holders q h inside a.0 not_q) ∙ a.2)

      out_back : ((i f : ℕ) → h.hand ≡ hand.Out i f → ⊥) → (r i f : ℕ) → (holder_at (set v.holders q h) r).hand ≡ hand.Out i f → (i < length back) × (set_at back i ≡ None) × (left_in (set v.holders q h) ≤ f)
      out_back none r = by_holder v.holders q h inside (λ r x. (i f : ℕ) → x.hand ≡ hand.Out i f → (i < length back) × (set_at back i ≡ None) × (left_in (set v.holders q h) ≤ f))
          (λ i f e. absurd (none i f e))
          (λ r ne i f e.
          let o = p.out r i f e in
          let lt = o.0 in
          let le = o.2 in
          let l = back_left in
          (omega (arith, lt, length-set v.sets at (Some s)), back_other i (apart r i ne (out_has r i f e)) ∙ o.1, omega (arith, le, l)))
          r

      -- who else handed a set in did so before
      stopped_back : (r : ℕ) → r ≢ q → (i : ℕ) → (holder_at v.holders r).hand ≡ hand.Stopped i → (v.off ≢ None) × ((x : LaneSet) × (set_at back i ≡ Some x))
      stopped_back r ne i e = let o = p.stopped r i e in (o.0, (o.1.0, back_other i (apart r i ne (stopped_has r i e)) ∙ o.1.1))

      one_back : ((i : ℕ) → Has h.hand i → Has was.hand i) → (r t i : ℕ) → Has (holder_at (set v.holders q h) r).hand i → Has (holder_at (set v.holders q h) t).hand i → r ≡ t
      one_back as_before r t i a b =
          let old : (u : ℕ) → Has (holder_at (set v.holders q h) u).hand i → Has (holder_at v.holders u).hand i = by_holder v.holders q h inside (λ u x. Has x.hand i → Has (holder_at v.holders u).hand i) (as_before i) (λ u ne has. has) in
          p.one r t i (old r a) (old t b)

    -- ---- it gives it back

    module _ (made : ℕ) (few : made ≤ was.left) (ready : IsReady (room - made) s) where
      abbrev pub gave_holder : Holder
      gave_holder = record { left = was.left - made; hand = hand.Empty; stop = was.stop; told = was.told }

      abbrev pub gave_now : Now
      gave_now = pool_now v.first back (set v.holders q gave_holder) v.off

      fewer : gave_holder.left ≤ was.left
      fewer = omega arith

      pub gave_left : left_in (set v.holders q gave_holder) ≡ left_in v.holders - made
      gave_left = let e = left_set v.holders q gave_holder inside in omega (arith, e, few)

      pub gave_pool : IsPool gave_now
      gave_pool = record {
        count = length-set v.sets at (Some s) ∙ p.count;
        home = home_back;
        ready = λ i x e. dite (ℕ_discrete i at)
            (λ is.
            let same : s ≡ x = in_some (sym back_same ∙ ap (λ (k : ℕ). set_at back k) (sym is) ∙ e) in
            let le : left_in (set v.holders q gave_holder) ≤ room - made = let l = gave_left in let f = out_facts.2 in omega (arith, l, f) in
            inl (subst (λ (y : LaneSet). IsReady (left_in (set v.holders q gave_holder)) y) same (weaker (left_in (set v.holders q gave_holder)) (room - made) le s ready)))
            (λ ne. elim (p.ready i x (sym (back_other i ne) ∙ e)) [
              | inl r ↦ inl (weaker (left_in (set v.holders q gave_holder)) (left_in v.holders) (back_left gave_holder fewer) x r)
              | inr r ↦ inr (r.0, ap (λ (y : Holder). y.hand) (other v.holders q gave_holder inside r.0 (not_mine r.0 i r.1)) ∙ r.1)
            ]);
        away = away_back gave_holder fewer (λ i f e. empty_out e);
        out = out_back gave_holder fewer (λ i f e. empty_out e);
        stopped = by_holder v.holders q gave_holder inside (λ r x. (i : ℕ) → x.hand ≡ hand.Stopped i → (v.off ≢ None) × ((y : LaneSet) × (set_at back i ≡ Some y))) (λ i e. absurd (empty_stopped e)) (stopped_back gave_holder fewer);
        one = one_back gave_holder fewer (λ i has. absurd has);
        by_one = λ x e. let o = p.by_one x e in (o.0, same_of v.holders q gave_holder inside (λ y. y.stop) refl o.0 ∙ o.1);
        told = by_holder v.holders q gave_holder inside (λ r y. (x : PowerOff) → y.told ≡ Some x → v.off ≡ Some x) (p.told q) (λ r ne. p.told r);
        stops = by_holder v.holders q gave_holder inside (λ r y. (x : Stop) → y.stop ≡ Some x → v.off ≢ None) (p.stops q) (λ r ne. p.stops r);
      }

    -- ---- it hands it in, and power is off

    module _ (off first : PowerOff) (first_is : Some first ≡ or_first v.off off) where
      abbrev pub stop_holder : Holder
      stop_holder = record { left = was.left; hand = hand.Stopped at; stop = stop_with off was.told was.stop; told = Some first }

      abbrev pub stop_now : Now
      stop_now = pool_now v.first back (set v.holders q stop_holder) (Some first)

      pub stop_left : left_in (set v.holders q stop_holder) ≡ left_in v.holders
      stop_left = let e = left_set v.holders q stop_holder inside in omega (arith, e)

      no_fewer : stop_holder.left ≤ was.left
      no_fewer = omega arith

      pub stop_pool : IsPool stop_now
      stop_pool = record {
        count = length-set v.sets at (Some s) ∙ p.count;
        home = home_back;
        ready = λ i x e. dite (ℕ_discrete i at)
            (λ is. inr (q, ap (λ (y : Holder). y.hand) (own v.holders q stop_holder inside) ∙ (λ j. hand.Stopped (sym is j))))
            (λ ne. elim (p.ready i x (sym (back_other i ne) ∙ e)) [
              | inl r ↦ inl (subst (λ (n : ℕ). IsReady n x) (sym stop_left) r)
              | inr r ↦ inr (r.0, ap (λ (y : Holder). y.hand) (other v.holders q stop_holder inside r.0 (not_mine r.0 i r.1)) ∙ r.1)
            ]);
        away = away_back stop_holder no_fewer (λ i f e. out_stopped (sym e));
        out = out_back stop_holder no_fewer (λ i f e. out_stopped (sym e));
        stopped = by_holder v.holders q stop_holder inside (λ r x. (i : ℕ) → x.hand ≡ hand.Stopped i → (Some first ≢ None) × ((y : LaneSet) × (set_at back i ≡ Some y)))
            (λ i e. (λ none. some_none none, (s, ap (λ (k : ℕ). set_at back k) (sym (stopped_part e)) ∙ back_same)))
            (λ r ne i e. (λ none. some_none none, (stopped_back stop_holder no_fewer r ne i e).1));
        one = one_back stop_holder no_fewer (λ i has. subst (λ (x : Hand). Has x i) (sym out) has);
        by_one = first_stops v p q inside off first first_is stop_holder refl;
        told = told_first v p q inside off first first_is stop_holder refl;
        stops = λ r x e none. some_none none;
      }

-- ---- it has none out, and power is off

module _ (v : Now) (p : IsPool v) (q : ℕ) (inside : q < length v.holders) (off first : PowerOff) (first_is : Some first ≡ or_first v.off off) where
  abbrev pub halt_holder : Holder
  halt_holder = record { left = (holder_at v.holders q).left; hand = (holder_at v.holders q).hand; stop = stop_with off (holder_at v.holders q).told (holder_at v.holders q).stop; told = Some first }

  abbrev pub halt_now : Now
  halt_now = pool_now v.first v.sets (set v.holders q halt_holder) (Some first)

  halt_hands : (r : ℕ) → (holder_at (set v.holders q halt_holder) r).hand ≡ (holder_at v.holders r).hand
  halt_hands = same_of v.holders q halt_holder inside (λ h. h.hand) refl

  pub halt_left : left_in (set v.holders q halt_holder) ≡ left_in v.holders
  halt_left = let e = left_set v.holders q halt_holder inside in omega (arith, e)

  pub halt_pool : IsPool halt_now
  halt_pool = record {
    count = p.count;
    home = p.home;
    ready = λ i s at. (elim (p.ready i s at) [
      | inl r ↦ inl (subst (λ (n : ℕ). IsReady n s) (sym halt_left) r)
      | inr r ↦ inr (r.0, halt_hands r.0 ∙ r.1)
    ]);
    away = λ i lt none. let a = p.away i lt none in (a.0, a.1, halt_hands a.0 ∙ a.2);
    out = λ r i f is. let o = p.out r i f (sym (halt_hands r) ∙ is) in (o.0, o.1, let le = o.2 in omega (arith, halt_left, le));
    stopped = λ r i is. ((λ none. some_none none), (p.stopped r i (sym (halt_hands r) ∙ is)).1);
    one = λ r s i a b. p.one r s i (subst (λ (x : Hand). Has x i) (halt_hands r) a) (subst (λ (x : Hand). Has x i) (halt_hands s) b);
    by_one = first_stops v p q inside off first first_is halt_holder refl;
    told = told_first v p q inside off first first_is halt_holder refl;
    stops = λ r s e none. some_none none;
  }

-- ---- the caller's own part

pub own_part : (v : Now) (q : ℕ) (inside : q < length v.holders) (h : Holder) (sets : List (Option LaneSet)) (off : Option PowerOff)
    → part_at (pool_now v.first sets (set v.holders q h) off) q ≡ record { first = v.first; placed = nat_lt q (length v.holders); left = h.left; hand = h.hand; handed = handed_in sets h.hand; stop = h.stop; told = h.told }
own_part v q inside h sets off =
    let is : holder_at (set v.holders q h) q ≡ h = own v.holders q h inside in
    let long : length (set v.holders q h) ≡ length v.holders = length-set v.holders q h in
    λ i. record {
      first = v.first;
      placed = nat_lt q (long i);
      left = (is i).left;
      hand = (is i).hand;
      handed = handed_in sets (is i).hand;
      stop = (is i).stop;
      told = (is i).told;
    }
