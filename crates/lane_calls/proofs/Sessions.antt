-- A session's passes and the lanes that hold them, from call to call.
use Rattle.std.proofs.Common.{◌≡◌, ◌≢◌, inl, inr, ℕ, zero, suc, ◌+◌, ◌-◌, ◌<◌, ◌≤◌, Bool, true, false, cond, List, [], ◌∷◌, ◌++◌, length, length-set, get_or, map, set, Option, Some, None, refl, sym, ap, ◌∙◌, subst, arith, get_or-set_other, get_or-set_same, eq-eqb, ne_eqb}
use Rattle.std.specs.Prelude.{◌==◌, ◌&&◌, nat_lt, slice_get}
use Rattle.std.specs.List.{AllByRecursion}
use Rattle.std.proofs.lemmas.List.{get_or-map, length-map, map-append, map-set, set-get_or}
use Rattle.std.proofs.lemmas.Option.{slice_get-get_or, slice_get_within}
use mathlib.Core.Logic.{dite}
use native.Mathlib.Decide.{ℕ_discrete}
use Rattle.turn_lock.specs.Passes.{lock_of, number_of, out_of, part_of}
use Rattle.lane_core.specs.declared.history.Act.TheVariants as act
use Rattle.lane_core.specs.declared.history.Entry.{Entry}
use Rattle.lane_core.specs.declared.in_call.InCall.{InCall}
use Rattle.lane_core.specs.declared.shape.Shape.{Shape}
use Rattle.lane_core.specs.Arenas.{shape_in}
use Rattle.session_parts.specs.declared.parts.CorePart.{CorePart}
use Rattle.session_parts.specs.Parts.{MayBegin, part, stand}
use Rattle.lane_table.specs.declared.arena.Arena.{Arena}
use Rattle.lane_table.specs.declared.lanes.Kit.{Kit}
use Rattle.lane_table.specs.declared.lanes.Lane.{Lane}
use Rattle.lane_table.specs.declared.lanes.LaneEnd.{LaneEnd}
use Rattle.lane_table.specs.declared.lanes.LaneEnd.TheVariants as end
use Rattle.lane_table.specs.declared.session_pass.Pass.{Pass}
use Rattle.lane_table.specs.declared.table.Call.{Call}
use Rattle.lane_table.specs.declared.table.PassPart.{PassPart}
use Rattle.lane_table.specs.declared.table.View.{View}
use Rattle.lane_table.specs.Kits.{IsOf, IsSame, arena_id, held_in, kit_in, spare_in}
use Rattle.lane_table.specs.Law.{calls_below, given_pass, may_enter, noted, pass_now, pass_of, steps_of}
use Rattle.lane_table.specs.Stages.{stage_steps}
use Rattle.lane_pool.specs.declared.holders.Hand.TheVariants as hand
use Rattle.lane_pool.specs.declared.pool.PoolPart.{PoolPart}
use Rattle.lane_pool.specs.declared.sets.LaneSet.{LaneSet}
use Rattle.lane_pool.specs.declared.sets.PowerOff.{PowerOff}
use Rattle.lane_pool.specs.Parts.{Stops, WasOn, given}
use Rattle.lane_pool.specs.Sets.{IsAtPlace, IsIdleEnd, IsReady, WhichLane, lane_in, lane_of, lanes_in}
use Rattle.lane_pool.proofs.Keeping.{weaker_end}
use Rattle.lane_calls.specs.declared.parts.ArenaPart.{ArenaPart}
use Rattle.lane_calls.specs.declared.session.Kept.{Kept}
use Rattle.lane_calls.specs.declared.session.Sectors.{Sectors}
use Rattle.lane_calls.specs.declared.session.Session.{Session}
use Rattle.lane_calls.specs.Calls.{IsStopped, after, answered}
use Rattle.lane_calls.specs.Lanes.{Adds, Flies, IsCutIn, Pays, Stays, is_in_flight, steps_in, write_entry}
use Rattle.lane_calls.proofs.Lanes.{idle_rests}
use Rattle.lane_calls.specs.Sessions.{AreLaid, HasOut, HasRoom, Holds, InHand, IsKnown, IsOnLane, IsSeated, Know, KnowWith, Parts, calls_by, calls_of, end_at, handed_at, in_call, pass_at, shape_of, with_part}

-- ---- small facts

in_some : {A : Type 0} {x y : A} → Some x ≡ Some y → x ≡ y
in_some e = cc

some_none : {A : Type 0} {x : A} → Some x ≡ None → ⊥
some_none e = cc

false_true : false ≡ true → ⊥
false_true e = cc

set_set : {A : Type 0} (xs : List A) (i : ℕ) (x y : A) → set (set xs i x) i y ≡ set xs i y
set_set [] i x y = refl
set_set (z ∷ zs) zero x y = refl
set_set (z ∷ zs) (suc i) x y = ap (λ ws. z ∷ ws) (set_set zs i x y)

pub with_same : (parts : Parts) (i : ℕ) (m : ArenaPart) → with_part parts i m i ≡ m
with_same parts i m = ap (λ (b : Bool). cond b m (parts i)) (eq-eqb i i refl)

pub with_other : (parts : Parts) (i j : ℕ) (m : ArenaPart) → j ≢ i → with_part parts i m j ≡ parts j
with_other parts i j m ne = ap (λ (b : Bool). cond b m (parts j)) (ne_eqb i j (λ e. ne (sym e)))

-- ---- one lane

pub lane_same : (k k' : Kit) → IsSame k k' → lane_of k' ≡ lane_of k
lane_same k k' s = λ i. record { table = s.0 i; shape = s.2 i; number = s.1 i; made = s.3 i }

-- what a try does to what the pass of the lane knows
module _ (q : ℕ) (k k' : Kit) (m : ArenaPart) (h : Holds q k m) (rests : is_in_flight k ≡ false) (made : ℕ) (counted : steps_in k' ≡ steps_in k + made) where
  steps_after : steps_in k' ≡ m.steps + made
  steps_after = let a = h.steps in omega (arith, a, counted)

  calls_rest : (k : Kit) → is_in_flight k ≡ false → calls_of k ≡ []
  calls_rest k is = ap (λ (b : Bool). calls_by b (in_call k)) is

  mine_rests : m.mine ≡ part (map stand h.pass.entries) []
  mine_rests = h.mine ∙ ap (λ (cs : List InCall). part (map stand h.pass.entries) cs) (calls_rest k rests)

  pub holds_stays : Stays k k' → Holds q k' (after m m.mine made)
  holds_stays s = record {
    pass = h.pass;
    held = s.1 ∙ h.held;
    session = h.session;
    steps = steps_after;
    own = λ is. absurd (false_true (sym s.2 ∙ is));
    mine = mine_rests ∙ ap (λ (cs : List InCall). part (map stand h.pass.entries) cs) (sym (calls_rest k' s.2));
  }

  pub holds_adds : (e : Entry) → Adds e k k' → Holds q k' (after m (answered (stand e) m.mine) made)
  holds_adds e s = record {
    pass = noted e h.pass;
    held = s.1 ∙ ap (λ (ps : List PassPart). map (noted e) ps) h.held;
    session = h.session;
    steps = steps_after;
    own = λ is. absurd (false_true (sym s.2 ∙ is));
    mine =
        ap (λ (x : CorePart). answered (stand e) x) mine_rests
        ∙ ap (λ xs. part xs []) (sym (map-append stand h.pass.entries (e ∷ [])))
        ∙ ap (λ (cs : List InCall). part (map stand (h.pass.entries ++ e ∷ [])) cs) (sym (calls_rest k' s.2));
  }

  pub holds_flies : (t : Call) (words : List ℕ) → t.tag.session ≡ q → Flies t words k k' → Holds q k' (after m (part m.mine.stands (in_call k' ∷ [])) made)
  holds_flies t words own s = record {
    pass = h.pass;
    held = s.1 ∙ h.held;
    session = h.session;
    steps = steps_after;
    own = λ is. ap (λ tag. tag.session) s.3 ∙ own;
    mine =
        ap (λ (x : CorePart). part x.stands (in_call k' ∷ [])) mine_rests
        ∙ ap (λ (cs : List InCall). part (map stand h.pass.entries) cs) (sym (ap (λ (b : Bool). calls_by b (in_call k')) s.2));
  }

  -- so many steps are counted that it must have paid
  paid_for : (n : ℕ) → Pays n k k' → n ≤ made
  paid_for n p = let a = p.least in let b = p.counted in omega (arith, a, b, counted)

  -- a write that was cut
  pub holds_cut : (x : Shape) (t : Call) (words : List ℕ) → t.tag.session ≡ q → IsCutIn (stage_steps x) t words k k' → (mine : CorePart) × IsStopped q t.tag.call t.sector words x made m.mine mine × Holds q k' (after m mine made)
  holds_cut x t words own (inl s) = (m.mine, inl refl, holds_stays s)
  holds_cut x t words own (inr (inl s)) =
      let f = s.0 in (
        part m.mine.stands (in_call k' ∷ []),
        inr (inl (paid_for (stage_steps x + 5) s.1, (in_call k', record { tag_is = f.3 ∙ (λ i. record { session = own i; call = t.tag.call }); sector_is = f.4; act_is = ap (λ (ws : List ℕ). Some (act.Write ws)) f.5; open_still = refl }, refl))),
        holds_flies t words own f,
      )
  holds_cut x t words own (inr (inr s)) = (
    answered (stand (write_entry k.number t words)) m.mine,
    inr (inr (paid_for (stage_steps x + 7) s.1, refl)),
    holds_adds (write_entry k.number t words) s.0,
  )

-- ---- a set with one lane away

module _ (s : Sectors) (q : ℕ) (parts : Parts) (place : ℕ) (kept : Kept) (k : Kit) (session : Session) (on : IsOnLane s q parts place kept k session) where
  pub set_count : length kept.set.ends.items ≡ length s.arenas.items
  set_count =
      sym (length-map kept.set.ends.items lane_in) ∙ sym (length-set (lanes_in kept.set) place (Some (lane_of k))) ∙ ap (λ ws. length ws) on.lanes ∙ length-map on.first.ends.items lane_in
      ∙ (on.seated.laid on.at on.first on.first_is).0

  place_in : place < length s.arenas.items
  place_in = slice_get_within s.arenas.items place on.arena on.arena_is

  pub in_set : place < length kept.set.ends.items
  in_set = let e = set_count in let lt = place_in in omega (arith, e, lt)

  -- with a lane put back
  module _ (x : LaneEnd) (same : lane_of (kit_in x) ≡ lane_of k) (back : LaneSet) (number : back.number ≡ kept.set.number) (ends : back.ends.items ≡ set kept.set.ends.items place (Some x)) where
    pub back_at_place : IsAtPlace on.pool.first on.at back
    back_at_place = (
      on.first,
      on.first_is,
      (
        number ∙ on.number,
        ap (λ (es : List (Option LaneEnd)). map lane_in es) ends ∙ map-set lane_in kept.set.ends.items place (Some x) ∙ ap (λ (w : WhichLane). set (lanes_in kept.set) place (Some w)) same ∙ on.lanes,
      ),
    )

    pub back_here : end_at back place ≡ Some x
    back_here = ap (λ (es : List (Option LaneEnd)). get_or es place None) ends ∙ get_or-set_same kept.set.ends.items place (Some x) None in_set

    back_other : (j : ℕ) → j ≢ place → end_at back j ≡ end_at kept.set j
    back_other j ne = ap (λ (es : List (Option LaneEnd)). get_or es j None) ends ∙ get_or-set_other kept.set.ends.items place j (Some x) None ne

    pub others_idle : (j : ℕ) → j ≢ place → j < length s.arenas.items → IsIdleEnd on.spare (end_at back j)
    others_idle j ne lt = subst (λ (o : Option LaneEnd). IsIdleEnd on.spare o) (sym (back_other j ne)) (on.others j ne (let e = set_count in omega (arith, e, lt)))

-- ---- a call begins

-- the arena at a place
pub arena_there : (arenas : List Arena) (i : ℕ) (a : Arena) → i < length arenas → a ≡ get_or arenas i a → slice_get arenas i ≡ Some a
arena_there arenas i a lt is = slice_get-get_or arenas i a lt ∙ ap (λ (x : Arena). Some x) (sym is)

pub no_set : (o : Option LaneSet) → ((x : LaneSet) → o ≡ Some x → ⊥) → o ≡ None
no_set None h = refl
no_set (Some x) h = absurd (h x refl)

out_stopped : {i f j : ℕ} → hand.Out i f ≡ hand.Stopped j → ⊥
out_stopped e = cc

-- ---- in no call

-- another session that has the same, but for the set and the numbers that aren't of what it knows
pub know_as : (s : Sectors) (q : ℕ) (parts : Parts) (most : ℕ) (kept : Option Kept) (session session' : Session) → session'.number ≡ session.number → session'.passes.items ≡ session.passes.items → session'.caller.pool ≡ session.caller.pool
    → KnowWith s q parts most kept session → KnowWith s q parts most kept session'
know_as s q parts most kept session session' number passes pool know = record {
  pool = know.pool;
  seated = record {
    number = number ∙ know.seated.number;
    count = ap (λ ps. length ps) passes ∙ know.seated.count;
    outside = (ap (λ p. lock_of p) pool ∙ know.seated.outside.0, ap (λ p. out_of p) pool ∙ know.seated.outside.1);
    turn = ap (λ p. number_of p) pool ∙ know.seated.turn;
    pool_is = ap (λ p. part_of p) pool ∙ know.seated.pool_is;
    placed = know.seated.placed;
    laid = know.seated.laid;
  };
  out = know.out;
  handed = know.handed;
  each = λ j a is. (let e = know.each j a is in (e.0, subst (λ ps. IsKnown (arena_id a) q (get_or ps j None) know.pool.handed j (parts j)) (sym passes) e.1));
}

-- a session that has a set out has handed none in, and has all its passes in hand
module _ (s : Sectors) (q : ℕ) (parts : Parts) (most : ℕ) (kept : Kept) (session : Session) (know : KnowWith s q parts most (Some kept) session) where
  pub none_handed : know.pool.handed ≡ None
  none_handed = no_set know.pool.handed (λ x e. let h = know.handed x e in out_stopped (sym know.out.out ∙ h.1))

  pub all_in_hand : (j : ℕ) (a : Arena) → slice_get s.arenas.items j ≡ Some a → InHand (arena_id a) q (pass_at session j) (parts j)
  all_in_hand j a is = elim ((know.each j a is).1) [
    | inl h ↦ h.0
    | inr h ↦ absurd (some_none (sym h.is ∙ ap (λ (o : Option LaneSet). handed_at o j) none_handed))
  ]

-- the session has this set out, and its lane at the place
module _ (s : Sectors) (q : ℕ) (parts : Parts) (most : ℕ) (kept : Kept) (session session' : Session) (know : KnowWith s q parts most (Some kept) session) (place : ℕ) (arena : Arena) (arena_is : slice_get s.arenas.items place ≡ Some arena) where
  taken_count : length kept.set.ends.items ≡ length s.arenas.items
  taken_count = sym (length-map kept.set.ends.items lane_in) ∙ ap (λ ws. length ws) know.out.place.2.1 ∙ length-map know.out.place.0.ends.items lane_in ∙ (know.seated.laid know.out.at know.out.place.0 know.out.place.1).0

  pub place_taken : place < length kept.set.ends.items
  place_taken = let e = taken_count in let lt = slice_get_within s.arenas.items place arena arena_is in omega (arith, e, lt)

  pub taken_idle : IsIdleEnd know.out.spare (end_at kept.set place)
  taken_idle = know.out.ready place None place_taken

  pub pass_in_hand : InHand (arena_id arena) q (pass_at session place) (parts place)
  pass_in_hand = all_in_hand s q parts most kept session know place arena arena_is

  -- the lane at the place
  module _ (l : Lane) (there : end_at kept.set place ≡ Some (end.Idle l)) where
    lane_there : get_or (lanes_in kept.set) place None ≡ Some (lane_of l.kit)
    lane_there = get_or-map lane_in kept.set.ends.items place None None place_taken ∙ ap (λ (o : Option LaneEnd). lane_in o) there

    pub lane_room : (know.out.spare ≤ spare_in l.kit) × (held_in l.kit ≡ [])
    lane_room = subst (λ (o : Option LaneEnd). IsIdleEnd know.out.spare o) there taken_idle

    pub lane_is_of : IsOf arena l.kit
    lane_is_of =
        let w = (know.seated.laid know.out.at know.out.place.0 know.out.place.1).1 place arena arena_is in
        let same : w.0 ≡ lane_of l.kit = in_some (sym w.1 ∙ ap (λ ws. get_or ws place None) (sym know.out.place.2.1) ∙ lane_there) in
        (sym (ap (λ (y : WhichLane). y.table) same) ∙ w.2, sym (ap (λ (y : WhichLane). y.shape) same) ∙ w.3)

    -- it has the session's pass
    module _ (p : Pass) (mine : pass_at session place ≡ Some p) (k : Lane) (same : IsSame l.kit k.kit) (held : held_in k.kit ≡ p.seat.me.0.loose) (steps : steps_in k.kit ≡ steps_of p.seat.me.0.loose) where
      the_pass : pass_in_hand.pass ≡ p
      the_pass = in_some (sym pass_in_hand.is ∙ mine)

      loose_is : p.seat.me.0.loose ≡ pass_now q (parts place).steps pass_in_hand.entries
      loose_is = ap (λ (y : Pass). y.seat.me.0.loose) (sym the_pass) ∙ pass_in_hand.loose

      pub lent_holds : Holds q k.kit (parts place)
      lent_holds = record {
        pass = record { session = q; unmade = false; steps = (parts place).steps; entries = pass_in_hand.entries };
        held = held ∙ loose_is;
        session = refl;
        steps = steps ∙ ap (λ ps. steps_of ps) loose_is;
        own = λ is. absurd (false_true (sym (idle_rests k) ∙ is));
        mine = pass_in_hand.mine ∙ ap (λ (cs : List InCall). part (map stand pass_in_hand.entries) cs) (sym (ap (λ (b : Bool). calls_by b (in_call k.kit)) (idle_rests k)));
      }

      -- what is left of the set, and of the session's passes
      module _ (rest : Kept) (number : rest.set.number ≡ kept.set.number) (ends : rest.set.ends.items ≡ set kept.set.ends.items place None) (counted : rest.made ≡ kept.made + 1)
          (few : kept.made ≤ 63) (one : kept.made < know.pool.left) (session_number : session'.number ≡ session.number) (passes : session'.passes.items ≡ set session.passes.items place None)
          (pool_same : session'.caller.pool ≡ session.caller.pool) (none : session'.kept ≡ None) where
        rest_lanes : set (lanes_in rest.set) place (Some (lane_of k.kit)) ≡ lanes_in know.out.place.0
        rest_lanes =
            ap (λ (es : List (Option LaneEnd)). set (map lane_in es) place (Some (lane_of k.kit))) ends
            ∙ ap (λ ws. set ws place (Some (lane_of k.kit))) (map-set lane_in kept.set.ends.items place None)
            ∙ set_set (lanes_in kept.set) place None (Some (lane_of k.kit))
            ∙ ap (λ (w : WhichLane). set (lanes_in kept.set) place (Some w)) (lane_same l.kit k.kit same)
            ∙ ap (λ o. set (lanes_in kept.set) place o) (sym lane_there)
            ∙ set-get_or (lanes_in kept.set) place None
            ∙ know.out.place.2.1

        pass_count : place < length session.passes.items
        pass_count = let e = know.seated.count in let lt = slice_get_within s.arenas.items place arena arena_is in omega (arith, e, lt)

        -- the set has room for the call
        some_spare : 0 < know.out.spare
        some_spare = let a = know.out.has_room.enough in let b = know.out.has_room.counted in omega (arith, a, b, one)

        pub on_lane : (on : IsOnLane s q parts place rest k.kit session') × (on.spare + 1 ≡ know.out.spare) × (on.pool ≡ know.pool)
        on_lane = (
          record {
            pool = know.pool;
            seated = record {
              number = session_number ∙ know.seated.number;
              count = ap (λ ps. length ps) passes ∙ length-set session.passes.items place None ∙ know.seated.count;
              outside = (ap (λ p. lock_of p) pool_same ∙ know.seated.outside.0, ap (λ p. out_of p) pool_same ∙ know.seated.outside.1);
              turn = ap (λ p. number_of p) pool_same ∙ know.seated.turn;
              pool_is = ap (λ p. part_of p) pool_same ∙ know.seated.pool_is;
              placed = know.seated.placed;
              laid = know.seated.laid;
            };
            at = know.out.at;
            room = know.out.room;
            out = know.out.out;
            spare = know.out.spare - 1;
            has_room = record {
              enough = know.out.has_room.enough;
              few = omega (arith, counted, one);
              counted = (let a = know.out.has_room.counted in let b = some_spare in omega (arith, a, b, counted));
            };
            first = know.out.place.0;
            first_is = know.out.place.1;
            number = number ∙ know.out.place.2.0;
            lanes = rest_lanes;
            others = λ j ne lt.
                subst (λ (o : Option LaneEnd). IsIdleEnd (know.out.spare - 1) o) (sym (ap (λ (es : List (Option LaneEnd)). get_or es j None) ends ∙ get_or-set_other kept.set.ends.items place j None None ne))
                (weaker_end (know.out.spare - 1) know.out.spare (omega arith) (end_at kept.set j) (know.out.ready j None (let e = ap (λ (es : List (Option LaneEnd)). length es) ends in omega (arith, lt, e, length-set kept.set.ends.items place None))));
            few = omega (arith, few, counted);
            none = none;
            handed = none_handed s q parts most kept session know;
            arena = arena;
            arena_is = arena_is;
            of = (same.0 ∙ lane_is_of.0, same.2 ∙ lane_is_of.1);
            shape_is = (know.each place arena arena_is).0;
            holds = lent_holds;
            here = ap (λ ps. get_or ps place None) passes ∙ get_or-set_same session.passes.items place None None pass_count;
            each = λ j a ne is. (
              (know.each j a is).0,
              subst (λ (o : Option Pass). InHand (arena_id a) q o (parts j)) (sym (ap (λ ps. get_or ps j None) passes ∙ get_or-set_other session.passes.items place j None None ne)) (all_in_hand s q parts most kept session know j a is),
            );
          },
          (let a = some_spare in omega (arith, a)),
          refl,
        )

-- ---- a call goes on

module _ (s : Sectors) (q : ℕ) (parts : Parts) (place : ℕ) (kept : Kept) (k k' : Kit) (session session' : Session) (on : IsOnLane s q parts place kept k session) (m : ArenaPart) where
  -- the lane did something, and the session was told something
  pub goes_on : IsSame k k' → Holds q k' m → m.first ≡ (parts place).first → session'.number ≡ session.number → session'.passes.items ≡ session.passes.items → session'.kept ≡ session.kept
      → lock_of session'.caller.pool ≡ lock_of session.caller.pool → number_of session'.caller.pool ≡ number_of session.caller.pool → out_of session'.caller.pool ≡ None
      → (t : Option PowerOff) → part_of session'.caller.pool ≡ Some (record (on.pool) { told = t })
      → (on' : IsOnLane s q (with_part parts place m) place kept k' session') × (on'.spare ≡ on.spare) × (on'.pool ≡ record (on.pool) { told = t })
  goes_on same holds first number passes keeps lock_same number_same outside t pool_is = (
    record {
      pool = record (on.pool) { told = t };
      seated = record {
        number = number ∙ on.seated.number;
        count = ap (λ ps. length ps) passes ∙ on.seated.count;
        outside = (lock_same ∙ on.seated.outside.0, outside);
        turn = number_same ∙ on.seated.turn;
        pool_is = pool_is;
        placed = on.seated.placed;
        laid = on.seated.laid;
      };
      at = on.at;
      room = on.room;
      out = on.out;
      spare = on.spare;
      has_room = record { enough = on.has_room.enough; few = on.has_room.few; counted = on.has_room.counted };
      first = on.first;
      first_is = on.first_is;
      number = on.number;
      lanes = ap (λ (w : WhichLane). set (lanes_in kept.set) place (Some w)) (lane_same k k' same) ∙ on.lanes;
      others = on.others;
      few = on.few;
      none = keeps ∙ on.none;
      handed = on.handed;
      arena = on.arena;
      arena_is = on.arena_is;
      of = (same.0 ∙ on.of.0, same.2 ∙ on.of.1);
      shape_is = on.shape_is ∙ ap (λ f. shape_in f) (sym first) ∙ ap (λ (y : ArenaPart). shape_of y) (sym (with_same parts place m));
      holds = subst (λ (y : ArenaPart). Holds q k' y) (sym (with_same parts place m)) holds;
      here = ap (λ ps. get_or ps place None) passes ∙ on.here;
      each = λ j a ne is.
          let e = on.each j a ne is in (
            e.0 ∙ ap (λ (y : ArenaPart). shape_of y) (sym (with_other parts place j m ne)),
            subst (λ (o : Option Pass). InHand (arena_id a) q o (with_part parts place m j)) (sym (ap (λ ps. get_or ps j None) passes))
                (subst (λ (y : ArenaPart). InHand (arena_id a) q (pass_at session j) y) (sym (with_other parts place j m ne)) e.1),
          );
    },
    refl,
    refl,
  )

-- ---- a set goes back to the pool

module _ (s : Sectors) (q : ℕ) (parts : Parts) (most : ℕ) (kept : Kept) (session session' : Session) (know : KnowWith s q parts most (Some kept) session) where
  empty_out : {i f : ℕ} → hand.Empty ≡ hand.Out i f → ⊥
  empty_out e = cc

  pub knows_rest : session'.number ≡ session.number → session'.passes.items ≡ session.passes.items → lock_of session'.caller.pool ≡ lock_of session.caller.pool
      → number_of session'.caller.pool ≡ number_of session.caller.pool → out_of session'.caller.pool ≡ None → part_of session'.caller.pool ≡ Some (given kept.made know.pool) → KnowWith s q parts 63 None session'
  knows_rest number passes lock_same number_same outside pool_is = record {
    pool = given kept.made know.pool;
    seated = record {
      number = number ∙ know.seated.number;
      count = ap (λ ps. length ps) passes ∙ know.seated.count;
      outside = (lock_same ∙ know.seated.outside.0, outside);
      turn = number_same ∙ know.seated.turn;
      pool_is = pool_is;
      placed = know.seated.placed;
      laid = know.seated.laid;
    };
    out = λ at room is. empty_out is;
    handed = λ y is. absurd (some_none (sym is));
    each = λ j a is. ((know.each j a is).0, inl (subst (λ (o : Option Pass). InHand (arena_id a) q o (parts j)) (sym (ap (λ ps. get_or ps j None) passes)) (all_in_hand s q parts most kept session know j a is), λ y e. absurd (some_none (sym e))));
  }

-- ---- a call ends

module _ (s : Sectors) (q : ℕ) (parts : Parts) (place : ℕ) (kept : Kept) (k : Kit) (session session' : Session) (on : IsOnLane s q parts place kept k session)
    (number : session'.number ≡ session.number) (lock_same : lock_of session'.caller.pool ≡ lock_of session.caller.pool) (number_same : number_of session'.caller.pool ≡ number_of session.caller.pool)
    (outside : out_of session'.caller.pool ≡ None) where
  seated_after : (pool : PoolPart) → pool.placed ≡ on.pool.placed → pool.first ≡ on.pool.first → part_of session'.caller.pool ≡ Some pool → length session'.passes.items ≡ length session.passes.items → IsSeated s q pool session'
  seated_after pool placed first pool_is count = record {
    number = number ∙ on.seated.number;
    count = count ∙ on.seated.count;
    outside = (lock_same ∙ on.seated.outside.0, outside);
    turn = number_same ∙ on.seated.turn;
    pool_is = pool_is;
    placed = placed ∙ on.seated.placed;
    laid = subst (λ sets. AreLaid s.arenas.items sets) (sym first) on.seated.laid;
  }

  in_passes : place < length session.passes.items
  in_passes = let e = on.seated.count in let lt = slice_get_within s.arenas.items place on.arena on.arena_is in omega (arith, e, lt)

  -- the lane of the place is the arena's there
  same_arena : (a : Arena) → slice_get s.arenas.items place ≡ Some a → a ≡ on.arena
  same_arena a is = in_some (sym is ∙ on.arena_is)

  -- its lane is idle and back in the set, and gave the pass back
  pub knows_back : (back : Kept) → back.made ≡ kept.made → IsAtPlace on.pool.first on.at back.set → IsReady on.spare back.set → WasOn on.pool
      → (p : Pass) → session'.passes.items ≡ set session.passes.items place (Some p) → is_in_flight k ≡ false → p.seat.table_id ≡ arena_id on.arena → p.session ≡ q
      → p.seat.me.0 ≡ given_pass k.seat.me.0 → part_of session'.caller.pool ≡ Some on.pool → KnowWith s q parts 64 (Some back) session'
  knows_back back same at_place ready was_on p passes rests table its seat pool_is = record {
    pool = on.pool;
    seated = seated_after on.pool refl refl pool_is (ap (λ ps. length ps) passes ∙ length-set session.passes.items place (Some p));
    out = record {
      at = on.at;
      room = on.room;
      out = on.out;
      place = at_place;
      spare = on.spare;
      ready = ready;
      has_room = subst (λ (n : ℕ). HasRoom on.room n on.spare on.pool) (sym same) on.has_room;
      few = (let a = on.few in omega (arith, a, same));
      on = was_on;
    };
    handed = λ y is. absurd (some_none (sym is ∙ on.handed));
    each = λ j a is. dite (ℕ_discrete j place)
        (λ here. subst (λ (i : ℕ). (a.shape ≡ shape_of (parts i)) × IsKnown (arena_id a) q (pass_at session' i) on.pool.handed i (parts i)) (sym here) (of_place a (subst (λ (i : ℕ). slice_get s.arenas.items i ≡ Some a) here is)))
        (λ ne. let e = on.each j a ne is in (e.0, inl (subst (λ (o : Option Pass). InHand (arena_id a) q o (parts j)) (sym (ap (λ ps. get_or ps j None) passes ∙ get_or-set_other session.passes.items place j (Some p) None ne)) e.1, λ y is. absurd (some_none (sym is ∙ on.handed)))));
  }
    where
      entries_now : List Entry
      entries_now = on.holds.pass.entries

      loose_now : p.seat.me.0.loose ≡ pass_now q (parts place).steps entries_now
      loose_now =
          ap (λ (v : View). v.loose) seat
          ∙ ap (λ ps. (pass_of k.seat.me.0.count.steps ps).loose) on.holds.held
          ∙ (λ i. record { session = on.holds.session i; unmade = false; steps = on.holds.steps i; entries = entries_now } ∷ [])

      hand_now : InHand (arena_id on.arena) q (pass_at session' place) (parts place)
      hand_now = record {
        pass = p;
        is = ap (λ ps. get_or ps place None) passes ∙ get_or-set_same session.passes.items place (Some p) None in_passes;
        table_is = table;
        session = its;
        entries = entries_now;
        loose = loose_now;
        mine = on.holds.mine ∙ ap (λ (cs : List InCall). part (map stand entries_now) cs) (ap (λ (b : Bool). calls_by b (in_call k)) rests);
      }

      of_place : (a : Arena) → slice_get s.arenas.items place ≡ Some a → (a.shape ≡ shape_of (parts place)) × IsKnown (arena_id a) q (pass_at session' place) on.pool.handed place (parts place)
      of_place a is =
          let same = same_arena a is in
          (ap (λ (y : Arena). y.shape) same ∙ on.shape_is, inl (subst (λ (y : Arena). InHand (arena_id y) q (pass_at session' place) (parts place)) (sym same) hand_now, λ y is. absurd (some_none (sym is ∙ on.handed))))

  -- the lane stays as it is, in the set that was handed in
  pub knows_in : (e : LaneEnd) → kit_in e ≡ k → (back : LaneSet) → back.number ≡ kept.set.number → back.ends.items ≡ set kept.set.ends.items place (Some e) → session'.passes.items ≡ session.passes.items → session'.kept ≡ session.kept
      → (off first : PowerOff) → (pool : PoolPart) → part_of session'.caller.pool ≡ Some pool → Stops (Some back) off first on.pool pool → Know s q parts session'
  knows_in e kit back number ends passes keeps off first pool pool_is stops = record {
    pool = pool;
    seated = seated_after pool stops.placed stops.first_same pool_is (ap (λ ps. length ps) passes);
    out = subst (λ (o : Option Kept). HasOut 63 o pool) (sym no_kept) (λ at room is. stopped_out (sym stops.hands.3 ∙ is));
    handed = λ y is. (
      stops.hands.0,
      stops.hands.3,
      subst (λ (z : LaneSet). IsAtPlace pool.first stops.hands.0 z) (in_some (sym stops.hands.4 ∙ is))
          (subst (λ fs. IsAtPlace fs stops.hands.0 back) (sym stops.first_same)
          (subst (λ (i : ℕ). IsAtPlace on.pool.first i back) same_place (back_at_place s q parts place kept k session on e (ap (λ (z : Kit). lane_of z) kit) back number ends))),
    );
    each = λ j a is. dite (ℕ_discrete j place)
        (λ here. subst (λ (i : ℕ). (a.shape ≡ shape_of (parts i)) × IsKnown (arena_id a) q (pass_at session' i) pool.handed i (parts i)) (sym here) (of_place a (subst (λ (i : ℕ). slice_get s.arenas.items i ≡ Some a) here is)))
        (λ ne.
        let o = on.each j a ne is in (
          o.0,
          inl (
            subst (λ (p : Option Pass). InHand (arena_id a) q p (parts j)) (sym (ap (λ ps. get_or ps j None) passes)) o.1,
            λ y is_y.
                subst (λ (z : LaneSet). IsIdleEnd 0 (end_at z j)) (in_some (sym stops.hands.4 ∙ is_y))
                (weaker_end 0 on.spare (omega arith) (end_at back j) (others_idle s q parts place kept k session on e (ap (λ (z : Kit). lane_of z) kit) back number ends j ne (slice_get_within s.arenas.items j a is))),
          ),
        ));
  }
    where
      stopped_out : {i j f : ℕ} → hand.Stopped i ≡ hand.Out j f → ⊥
      stopped_out e = cc

      no_kept : session'.kept ≡ None
      no_kept = keeps ∙ on.none

      out_place : {i j f g : ℕ} → hand.Out i f ≡ hand.Out j g → i ≡ j
      out_place e = cc

      same_place : on.at ≡ stops.hands.0
      same_place = out_place (sym on.out ∙ stops.hands.2)

      here_now : handed_at pool.handed place ≡ Some e
      here_now = ap (λ (o : Option LaneSet). handed_at o place) stops.hands.4 ∙ back_here s q parts place kept k session on e (ap (λ (z : Kit). lane_of z) kit) back number ends

      of_place : (a : Arena) → slice_get s.arenas.items place ≡ Some a → (a.shape ≡ shape_of (parts place)) × IsKnown (arena_id a) q (pass_at session' place) pool.handed place (parts place)
      of_place a is =
          let same = same_arena a is in (
            ap (λ (y : Arena). y.shape) same ∙ on.shape_is,
            inr (record {
              none = ap (λ ps. get_or ps place None) passes ∙ on.here;
              end = e;
              is = here_now;
              table_is = ap (λ (z : Kit). z.seat.table_id) kit ∙ on.of.0 ∙ ap (λ (y : Arena). arena_id y) (sym same);
              holds = subst (λ (z : Kit). Holds q z (parts place)) (sym kit) on.holds;
            }),
          )

-- ---- what a lane may enter

join_true : (a b : Bool) → a ≡ true → b ≡ true → (a && b) ≡ true
join_true a b p q = ap (λ a. a && b) p ∙ q

number_true : (a b : ℕ) → a ≡ b → (a == b) ≡ true
number_true a b q = grind arith

less_true : (a b : ℕ) → a < b → nat_lt a b ≡ true
less_true a b lt = grind arith

below : (call : ℕ) (es : List Entry) → AllByRecursion (λ s. s.call < call) (map stand es) → calls_below call es ≡ true
below call [] all = refl
below call (e ∷ es) all = join_true (nat_lt e.tag.call call) (calls_below call es) (less_true e.tag.call call all.0) (below call es all.1)

-- the call is above all that the session made
pub may_begin : (q call : ℕ) (k : Kit) (m : ArenaPart) → Holds q k m → MayBegin call m.mine → may_enter (held_in k) (record { session = q; call = call }) ≡ true
may_begin q call k m h may =
    let later : AllByRecursion (λ s. s.call < call) (map stand h.pass.entries) = subst (λ (x : CorePart). AllByRecursion (λ s. s.call < call) x.stands) h.mine may.later in
    subst (λ ps. may_enter ps (record { session = q; call = call }) ≡ true) (sym h.held) (join_true (h.pass.session == q) (calls_below call h.pass.entries) (number_true h.pass.session q h.session) (below call h.pass.entries later))
