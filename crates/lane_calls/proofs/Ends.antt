-- A call that ends: its lane is put back into its set.
use Rattle.std.proofs.Common.{◌≡◌, ℕ, ◌-◌, ◌<◌, ◌≤◌, false, List, [], get_or, length, length-set, set, Option, Some, None, refl, sym, ap, ◌∙◌, subst, arith}
use Rattle.std.proofs.lemmas.List.{get_or_default}
use Rattle.std.proofs.lemmas.Option.{slice_get_within}
use mathlib.Core.Logic.{dite}
use native.Mathlib.Decide.{ℕ_discrete}
use Rattle.turn_lock.specs.Passes.{lock_id, lock_of, number_of, out_of, part_of}
use Rattle.lane_table.specs.declared.arena.Arena.{Arena}
use Rattle.lane_table.specs.declared.lanes.Kit.{Kit}
use Rattle.lane_table.specs.declared.lanes.Lane.{Lane}
use Rattle.lane_table.specs.declared.lanes.LaneEnd.{LaneEnd}
use Rattle.lane_table.specs.declared.lanes.LaneEnd.TheVariants as end
use Rattle.lane_table.specs.declared.session_pass.Pass.{Pass}
use Rattle.lane_table.specs.Kits.{IsOf, IsSame, arena_id, held_in, kit_in, spare_in}
use Rattle.lane_table.specs.Law.{given_pass}
use Rattle.lane_pool.specs.declared.holders.Hand.TheVariants as hand
use Rattle.lane_pool.specs.declared.pool.PoolPart.{PoolPart}
use Rattle.lane_pool.specs.declared.sets.LaneSet.{LaneSet}
use Rattle.lane_pool.specs.Parts.{CanAsk, HasPart, MayGive, MayStop, WasOn, given}
use Rattle.lane_pool.specs.Sets.{IsIdleEnd, IsReady, lane_of}
use Rattle.lane_pool.proofs.Keeping.{weaker}
use Rattle.lane_calls.specs.declared.session.Kept.{Kept}
use Rattle.lane_calls.specs.declared.session.Sectors.{Sectors}
use Rattle.lane_calls.specs.declared.session.Session.{Session}
use Rattle.lane_calls.specs.Calls.{KeepsPower, MayGiveBack, Spends}
use Rattle.lane_calls.specs.Lanes.{is_in_flight}
use Rattle.lane_calls.specs.Sessions.{IsOnLane, Know, KnowWith, Parts, end_at}
use Rattle.lane_calls.proofs.Sessions.{arena_there, back_at_place, back_here, know_as, knows_back, lane_same, others_idle, set_count}

in_some : {A : Type 0} {x y : A} → Some x ≡ Some y → x ≡ y
in_some e = cc

module _ (s : Sectors) (q : ℕ) (parts : Parts) (place : ℕ) (kept : Kept) (k : Kit) (session : Session) (on : IsOnLane s q parts place kept k session) where
  pub end_place : place < length s.arenas.items
  end_place = slice_get_within s.arenas.items place on.arena on.arena_is

  pub end_arena : (a : Arena) → a ≡ get_or s.arenas.items place a → on.arena ≡ a
  end_arena a is = in_some (sym on.arena_is ∙ arena_there s.arenas.items place a end_place is)

  pub end_of : (a : Arena) → a ≡ get_or s.arenas.items place a → IsOf a k
  end_of a is = subst (λ (y : Arena). IsOf y k) (end_arena a is) on.of

  -- it is idle
  module _ (l : Lane) (same : IsSame k l.kit) (free : held_in l.kit ≡ []) (room : on.spare ≤ spare_in l.kit) (back : LaneSet) (number : back.number ≡ kept.set.number) (ends : back.ends.items ≡ set kept.set.ends.items place (Some (end.Idle l))) where
    ready_here : (j : ℕ) → j ≡ place → IsIdleEnd on.spare (end_at back j)
    ready_here j here = subst (λ (i : ℕ). IsIdleEnd on.spare (end_at back i)) (sym here) (subst (λ (o : Option LaneEnd). IsIdleEnd on.spare o) (sym (back_here s q parts place kept k session on (end.Idle l) (lane_same k l.kit same) back number ends)) (room, free))

    ready_at : (j : ℕ) → j < length back.ends.items → IsIdleEnd on.spare (end_at back j)
    ready_at j lt = dite (ℕ_discrete j place)
        (λ here. ready_here j here)
        (λ ne. others_idle s q parts place kept k session on (end.Idle l) (lane_same k l.kit same) back number ends j ne (let a = ap (λ (es : List (Option LaneEnd)). length es) ends in let b = length-set kept.set.ends.items place (Some (end.Idle l)) in let e = set_count s q parts place kept k session on in omega (arith, lt, a, b, e)))

    pub ready_back : IsReady on.spare back
    ready_back j d lt = subst (λ (o : Option LaneEnd). IsIdleEnd on.spare o) (get_or_default back.ends.items j None d lt) (ready_at j lt)

  -- and gave the session's pass back
  pub known_back : (l : Lane) → IsSame k l.kit → held_in l.kit ≡ [] → on.spare ≤ spare_in l.kit → WasOn on.pool → (back : Kept) → back.made ≡ kept.made → back.set.number ≡ kept.set.number
      → back.set.ends.items ≡ set kept.set.ends.items place (Some (end.Idle l)) → (session' : Session) → session'.number ≡ session.number → session'.caller.pool ≡ session.caller.pool
      → (p : Pass) → session'.passes.items ≡ set session.passes.items place (Some p) → is_in_flight k ≡ false → p.seat.table_id ≡ arena_id on.arena → p.session ≡ q → p.seat.me.0 ≡ given_pass k.seat.me.0 → KnowWith s q parts 64 (Some back) session'
  known_back l same free room was_on back made number ends session' its_number pool p passes rests table its seat =
      knows_back s q parts place kept k session session' on its_number (ap (λ x. lock_of x) pool) (ap (λ x. number_of x) pool) (ap (λ x. out_of x) pool ∙ on.seated.outside.1) back made
      (back_at_place s q parts place kept k session on (end.Idle l) (lane_same k l.kit same) back.set number ends)
      (ready_back l same free room back.set number ends)
      was_on p passes rests table its seat (ap (λ x. part_of x) pool ∙ on.seated.pool_is)

  -- it stays as it is
  pub may_stop : (e : LaneEnd) → kit_in e ≡ k → (back : LaneSet) → back.number ≡ kept.set.number → back.ends.items ≡ set kept.set.ends.items place (Some e) → HasPart (MayStop (Some back)) session.caller.pool
  may_stop e kit back number ends = (
    on.pool,
    on.seated.pool_is,
    record { placed = on.seated.placed; is_out = (on.at, on.room, on.out, back_at_place s q parts place kept k session on e (ap (λ (z : Kit). lane_of z) kit) back number ends) },
  )

-- ---- a set is put away

pub may_give : (s : Sectors) (q : ℕ) (parts : Parts) (most : ℕ) (kept : Kept) (session : Session) → KnowWith s q parts most (Some kept) session → HasPart (MayGive kept.made kept.set) session.caller.pool
may_give s q parts most kept session know = (
  know.pool,
  know.seated.pool_is,
  record {
    placed = know.seated.placed;
    at = know.out.at;
    room = know.out.room;
    out = know.out.out;
    few = know.out.has_room.few;
    place = know.out.place;
    ready = weaker (know.out.room - kept.made) know.out.spare (let a = know.out.has_room.counted in omega (arith, a)) kept.set know.out.ready;
  },
)

empty_stopped : {i : ℕ} → hand.Empty ≡ hand.Stopped i → ⊥
empty_stopped e = cc

keeps_given : (made : ℕ) (m : PoolPart) → KeepsPower m (given made m)
keeps_given made m = record { first = refl; placed = refl; stop = refl; told = refl; going = λ at is. absurd (empty_stopped is) }

-- its calls with the set are counted then
pub spends_given : (made : ℕ) (m : PoolPart) → made ≤ m.left → Spends 0 made 0 m (given made m)
spends_given made m few = record { power = keeps_given made m; counted = omega (arith, few) }

-- ---- a kept set is taken in hand

-- the session with another set, or none
abbrev pub put : Option Kept → Session → Session
put o session = record session { kept = o }

module _ (s : Sectors) (q : ℕ) (parts : Parts) (session : Session) (o : Option Kept) where
  pub know_put : (kept : Option Kept) → session.kept ≡ kept → Know s q parts session → KnowWith s q parts 63 kept (put o session)
  know_put kept is know = know_as s q parts 63 kept session (put o session) refl refl refl (subst (λ (x : Option Kept). KnowWith s q parts 63 x session) is know)

-- with so few calls made
pub know_most : (s : Sectors) (q : ℕ) (parts : Parts) (most most' : ℕ) (kept : Kept) (session : Session) → kept.made ≤ most' → KnowWith s q parts most (Some kept) session → KnowWith s q parts most' (Some kept) session
know_most s q parts most most' kept session few know = record {
  pool = know.pool;
  seated = know.seated;
  out = record {
    at = know.out.at;
    room = know.out.room;
    out = know.out.out;
    place = know.out.place;
    spare = know.out.spare;
    ready = know.out.ready;
    has_room = know.out.has_room;
    few = few;
    on = know.out.on;
  };
  handed = know.handed;
  each = know.each;
}

-- a set that it kept may be put away
pub may_put : (s : Sectors) (q : ℕ) (parts : Parts) (kept : Kept) (session : Session) → KnowWith s q parts 63 (Some kept) session → KnowWith s q parts 64 (Some kept) session
may_put s q parts kept session know = know_most s q parts 63 64 kept session (let a = know.out.few in omega (arith, a)) know

-- a session that has no set out may ask for the power
pub may_ask : (s : Sectors) (q : ℕ) (parts : Parts) (session : Session) → KnowWith s q parts 63 None session → CanAsk (lock_id s.pool.turn) session.caller.pool
may_ask s q parts session know = (know.seated.outside, (know.pool, know.seated.pool_is, (know.seated.placed, know.out)))

-- ---- whatever a session knows of arenas, its lane has room and power was on

out_room : {i j r t : ℕ} → hand.Out i r ≡ hand.Out j t → r ≡ t
out_room e = cc

module _ (s : Sectors) (place : ℕ) (kept : Kept) (k : Kit) (session : Session) (may : MayGiveBack s place kept k session) (q : ℕ) (parts : Parts) (on : IsOnLane s q parts place kept k session) where
  same_pool : may.on.pool ≡ on.pool
  same_pool = in_some (sym may.on.seated.pool_is ∙ on.seated.pool_is)

  pub room_any : on.spare ≤ spare_in k
  room_any =
      let same : may.on.room ≡ on.room = out_room (sym may.on.out ∙ ap (λ (m : PoolPart). m.hand) same_pool ∙ on.out) in
      let a = may.room in
      let b = may.on.has_room.counted in
      let c = on.has_room.counted in
      omega (arith, a, b, c, same)

  pub on_any : WasOn on.pool
  on_any = subst (λ (m : PoolPart). WasOn m) same_pool may.was_on
