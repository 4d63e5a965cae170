-- A call that begins: the set that it uses, its lane there and the session's pass.
use Rattle.std.proofs.Common.{◌≡◌, inl, inr, ℕ, ◌+◌, ◌<◌, List, [], ◌∷◌, get_or, length, set, Option, Some, None, refl, sym, ap, ◌∙◌, subst, arith}
use Rattle.std.specs.Prelude.{slice_get}
use Rattle.std.proofs.lemmas.List.{get_or_default}
use Rattle.std.proofs.lemmas.Option.{slice_get-get_or}
use Rattle.atomic_table.specs.Seated.{TableId}
use Rattle.turn_lock.specs.Passes.{lock_of, number_of, out_of, part_of}
use Rattle.lane_table.specs.declared.arena.Arena.{Arena}
use Rattle.lane_table.specs.declared.lanes.Kit.{Kit}
use Rattle.lane_table.specs.declared.lanes.Lane.{Lane}
use Rattle.lane_table.specs.declared.lanes.LaneEnd.TheVariants as end
use Rattle.lane_table.specs.declared.session_pass.Pass.{Pass}
use Rattle.lane_table.specs.Fuse.{of_left}
use Rattle.lane_table.specs.Kits.{IsOf, IsSame, arena_id, held_in, spare_in}
use Rattle.lane_table.specs.Law.{steps_of}
use Rattle.lane_pool.specs.declared.holders.Hand.{Hand}
use Rattle.lane_pool.specs.declared.holders.Hand.TheVariants as hand
use Rattle.lane_pool.specs.declared.pool.PoolPart.{PoolPart}
use Rattle.lane_pool.specs.declared.sets.LaneSet.{LaneSet}
use Rattle.lane_pool.specs.Parts.{PartGoes, Takes, WasOn}
use Rattle.lane_calls.specs.declared.session.Kept.{Kept}
use Rattle.lane_calls.specs.declared.session.Sectors.{Sectors}
use Rattle.lane_calls.specs.declared.session.Session.{Session}
use Rattle.lane_calls.specs.Calls.{Began, IsGoing, KeepsPower, MayBeginAt, MayMakeOne, MayStart, Spends, Starts}
use Rattle.lane_calls.specs.Lanes.{steps_in}
use Rattle.lane_calls.specs.Sessions.{InHand, IsKnown, IsOnLane, Know, KnowWith, Parts, end_at, handed_at, made_with, pass_at}
use Rattle.lane_calls.proofs.Sessions.{lane_is_of, lane_room, no_set, on_lane, pass_in_hand}

pub in_some : {A : Type 0} {x y : A} → Some x ≡ Some y → x ≡ y
in_some e = cc

pub some_none : {A : Type 0} {x : A} → Some x ≡ None → ⊥
some_none e = cc

-- ---- lookups

pub there : {A : Type 0} (xs : List A) (i : ℕ) → i < length xs → (x : A) × (slice_get xs i ≡ Some x)
there [] i lt = absurd (omega (arith, lt))
there (x ∷ xs) i lt = (get_or (x ∷ xs) i x, slice_get-get_or (x ∷ xs) i x lt)

pub read_at : {A : Type 0} (xs : List (Option A)) (i : ℕ) (o d : Option A) → i < length xs → o ≡ get_or xs i d → get_or xs i None ≡ o
read_at xs i o d lt is = get_or_default xs i None d lt ∙ sym is

-- ---- the power

pub keeps_same : (m : PoolPart) → KeepsPower m m
keeps_same m = record { first = refl; placed = refl; stop = refl; told = refl; going = λ at is. is }

pub keeps_both : (a b c : PoolPart) → KeepsPower a b → KeepsPower b c → KeepsPower a c
keeps_both a b c x y = record {
  first = y.first ∙ x.first;
  placed = y.placed ∙ x.placed;
  stop = y.stop ∙ x.stop;
  told = y.told ∙ x.told;
  going = λ at is. x.going at (y.going at is);
}

out_stopped : {i f j : ℕ} → hand.Out i f ≡ hand.Stopped j → ⊥
out_stopped e = cc

empty_stopped : {j : ℕ} → hand.Empty ≡ hand.Stopped j → ⊥
empty_stopped e = cc

pub keeps_taken : (x : LaneSet) (m m' : PoolPart) → Takes x m m' → KeepsPower m m'
keeps_taken x m m' t = record {
  first = ap (λ (y : PoolPart). y.first) t.becomes;
  placed = ap (λ (y : PoolPart). y.placed) t.becomes;
  stop = ap (λ (y : PoolPart). y.stop) t.becomes;
  told = ap (λ (y : PoolPart). y.told) t.becomes;
  going = λ at is. absurd (out_stopped (sym (ap (λ (y : PoolPart). y.hand) t.becomes) ∙ is));
}

-- ---- the calls that it may make

pub spends_taken : (x : LaneSet) (m m' : PoolPart) → Takes x m m' → Spends 0 0 0 m m'
spends_taken x m m' t = record { power = keeps_taken x m m' t; counted = (let e = ap (λ (y : PoolPart). y.left) t.becomes in omega (arith, e)) }

pub spends_both : (c d e made made' made'' : ℕ) (m m' m'' : PoolPart) → c + d ≡ e → Spends c made made' m m' → Spends d made' made'' m' m'' → Spends e made made'' m m''
spends_both c d e made made' made'' m m' m'' sum x y = record {
  power = keeps_both m m' m'' x.power y.power;
  counted = (let a = x.counted in let b = y.counted in omega (arith, a, b, sum));
}

-- it may still make one
may_make : (kept : Kept) (made : ℕ) (m m' : PoolPart) → Spends 0 made kept.made m m' → made < m.left → IsGoing m → MayMakeOne (Some kept) m'
may_make kept made m m' x one going = ((let a = x.counted in omega (arith, a, one)), λ at is. going at (x.power.going at is))

-- ---- a set from the pool

-- neither out nor handed in
empty_hand : (h : Hand) → ((at room : ℕ) → h ≡ hand.Out at room → ⊥) → ((at : ℕ) → h ≡ hand.Stopped at → ⊥) → h ≡ hand.Empty
empty_hand hand.Empty none going = refl
empty_hand (hand.Out at room) none going = absurd (none at room refl)
empty_hand (hand.Stopped at) none going = absurd (going at refl)

abbrev pub kept_of : LaneSet → Kept
kept_of x = record { set = x; made = 0 }

module _ (s : Sectors) (q : ℕ) (parts : Parts) (session session' : Session) (know : KnowWith s q parts 63 None session) (may : MayMakeOne None know.pool) where
  hand_free : know.pool.hand ≡ hand.Empty
  hand_free = empty_hand know.pool.hand know.out may.1

  nothing_handed : know.pool.handed ≡ None
  nothing_handed = no_set know.pool.handed (λ x e. let h = know.handed x e in empty_stopped (sym hand_free ∙ h.1))

  each_in_hand : (t : TableId) (j : ℕ) → IsKnown t q (pass_at session j) know.pool.handed j (parts j) → InHand t q (pass_at session j) (parts j)
  each_in_hand t j k = elim k [
    | inl h ↦ h.0
    | inr h ↦ absurd (some_none (sym h.is ∙ ap (λ (o : Option LaneSet). handed_at o j) nothing_handed))
  ]

  pub knows_taken : (x : LaneSet) (m : PoolPart) → Takes x know.pool m → part_of session'.caller.pool ≡ Some m → session'.number ≡ session.number → session'.passes.items ≡ session.passes.items
      → lock_of session'.caller.pool ≡ lock_of session.caller.pool → number_of session'.caller.pool ≡ number_of session.caller.pool → out_of session'.caller.pool ≡ None → KnowWith s q parts 63 (Some (kept_of x)) session'
  knows_taken x m t part_is number passes lock_same number_same out_none = record {
    pool = record (know.pool) { hand = hand.Out t.at t.room; handed = None };
    seated = record {
      number = number ∙ know.seated.number;
      count = ap (λ ps. length ps) passes ∙ know.seated.count;
      outside = (lock_same ∙ know.seated.outside.0, out_none);
      turn = number_same ∙ know.seated.turn;
      pool_is = part_is ∙ ap (λ (y : PoolPart). Some y) t.becomes;
      placed = know.seated.placed;
      laid = know.seated.laid;
    };
    out = record {
      at = t.at;
      room = t.room;
      out = refl;
      place = t.place;
      spare = t.room;
      ready = t.ready;
      has_room = record { enough = t.enough; few = omega arith; counted = omega arith };
      few = omega arith;
      on = t.on;
    };
    handed = λ y e. absurd (some_none (sym e));
    each = λ j a at. ((know.each j a at).0, inl (subst (λ (o : Option Pass). InHand (arena_id a) q o (parts j)) (sym (ap (λ ps. get_or ps j None) passes)) (each_in_hand (arena_id a) j (know.each j a at).1), λ y e. absurd (some_none (sym e))));
  }

-- ---- the lane at the place

module _ (s : Sectors) (place : ℕ) (kept : Kept) (session : Session) (may : MayStart s place kept session) where
  pub pass_place : place < length session.passes.items
  pass_place = let e = may.know.seated.count in let lt = may.place_in in omega (arith, e, lt)

  arena_here : (a : Arena) × (slice_get s.arenas.items place ≡ Some a)
  arena_here = there s.arenas.items place may.place_in

  -- whatever it knows of arenas, it may make one call more
  pub start_one : (parts : Parts) (know : KnowWith s session.number parts 63 (Some kept) session) → kept.made < know.pool.left
  start_one parts know = subst (λ (m : PoolPart). kept.made < m.left) (in_some (sym may.know.seated.pool_is ∙ know.seated.pool_is)) may.pool.0

  -- the pass is there
  pub start_pass : (o d : Option Pass) → o ≡ get_or session.passes.items place d → o ≡ None → ⊥
  start_pass o d is none =
      let h = pass_in_hand s session.number may.parts 63 kept session session may.know place arena_here.0 arena_here.1 in
      some_none (sym h.is ∙ read_at session.passes.items place o d pass_place is ∙ none)

  module _ (arena : Arena) (arena_is : slice_get s.arenas.items place ≡ Some arena) where
    pub start_of : (l : Lane) → end_at kept.set place ≡ Some (end.Idle l) → IsOf arena l.kit
    start_of l lane = lane_is_of s session.number may.parts 63 kept session session may.know place arena arena_is l lane

    pub start_table : (p : Pass) → pass_at session place ≡ Some p → p.seat.table_id ≡ arena_id arena
    start_table p mine =
        let h = pass_in_hand s session.number may.parts 63 kept session session may.know place arena arena_is in
        ap (λ (y : Pass). y.seat.table_id) (in_some (sym mine ∙ h.is)) ∙ h.table_is

-- ---- it began

module _ (s : Sectors) (place : ℕ) (parts : Parts) (kept : Kept) (session session' : Session) (know : KnowWith s session.number parts 63 (Some kept) session) (one : kept.made < know.pool.left) (arena : Arena) (arena_is : slice_get s.arenas.items place ≡ Some arena)
    (l : Lane) (there : end_at kept.set place ≡ Some (end.Idle l)) (p : Pass) (mine : pass_at session place ≡ Some p)
    (k : Lane) (same : IsSame l.kit k.kit) (held : held_in k.kit ≡ p.seat.me.0.loose) (steps : steps_in k.kit ≡ steps_of p.seat.me.0.loose) (spare : spare_in k.kit ≡ spare_in l.kit) (fuse : of_left k.kit.fuse ≡ session.caller.left)
    (rest : Kept) (number : rest.set.number ≡ kept.set.number) (ends : rest.set.ends.items ≡ set kept.set.ends.items place None) (counted : rest.made ≡ kept.made + 1)
    (session_number : session'.number ≡ session.number) (passes : session'.passes.items ≡ set session.passes.items place None)
    (pool_same : session'.caller.pool ≡ session.caller.pool) (none : session'.kept ≡ None) where
  on_now : (on : IsOnLane s session.number parts place rest k.kit session') × (on.spare + 1 ≡ know.out.spare) × (on.pool ≡ know.pool)
  on_now = on_lane s session.number parts 63 kept session session' know place arena arena_is l there p mine k same held steps rest number ends counted know.out.few one session_number passes pool_same none

  room_now : on_now.0.spare < spare_in k.kit
  room_now =
      let a = on_now.1 in
      let b = (lane_room s session.number parts 63 kept session session know place arena arena_is l there).0 in
      omega (arith, a, b, spare)

  pub is_started : Starts s place parts kept rest k.kit session session'
  is_started = record {
    on = on_now.0;
    room = room_now;
    fuse = fuse;
    was_on = subst (λ (y : PoolPart). WasOn y) (sym on_now.2) know.out.on;
    counted = counted;
  }

-- ---- with the set that it got

module _ (s : Sectors) (place : ℕ) (parts : Parts) (kept kept' : Kept) (k : Kit) (session session1 session2 : Session) (number : session1.number ≡ session.number) (left : session1.caller.left ≡ session.caller.left)
    (spends : PartGoes (Spends 0 (made_with session.kept) kept.made) session.caller.pool session1.caller.pool) (pool_same : session2.caller.pool ≡ session1.caller.pool) where
  AsNumbered : ℕ → Type 0
  AsNumbered n = (on : IsOnLane s n parts place kept' k session2) × (on.spare < spare_in k) × WasOn on.pool

  pub began_after : Starts s place parts kept kept' k session1 session2 → Began s place parts kept' k session session2
  unfolding AsNumbered
  began_after b =
      let x : AsNumbered session.number = subst AsNumbered number (b.on, b.room, b.was_on) in
      record {
        on = x.0;
        room = x.1;
        fuse = b.fuse ∙ left;
        was_on = x.2;
        spends = λ m is.
            let o = spends m is in
            let same : o.0 ≡ x.0.pool = in_some (sym o.1 ∙ ap (λ y. part_of y) (sym pool_same) ∙ x.0.seated.pool_is) in
            let one : Spends 1 kept.made kept'.made o.0 o.0 = record { power = keeps_same o.0; counted = (let a = b.counted in omega (arith, a)) } in
            subst (λ (y : PoolPart). Spends 1 (made_with session.kept) kept'.made m y) same (spends_both 0 1 1 (made_with session.kept) kept.made kept'.made m o.0 o.0 (omega arith) o.2 one);
      }

pub may_start : (s : Sectors) (place : ℕ) (session session1 : Session) (kept : Kept) → MayBeginAt s place session → session1.number ≡ session.number → session1.kept ≡ None
    → ((parts : Parts) → Know s session.number parts session → KnowWith s session.number parts 63 (Some kept) session1) → PartGoes (Spends 0 (made_with session.kept) kept.made) session.caller.pool session1.caller.pool → MayStart s place kept session1
may_start s place session session1 kept may number none knows spends =
    let o = spends may.know.pool may.know.seated.pool_is in
    let know = subst (λ (n : ℕ). KnowWith s n may.parts 63 (Some kept) session1) (sym number) (knows may.parts may.know) in
    record {
      place_in = may.place_in;
      parts = may.parts;
      know = know;
      pool = subst (λ (m : PoolPart). MayMakeOne (Some kept) m) (in_some (sym o.1 ∙ know.seated.pool_is)) (may_make kept (made_with session.kept) may.know.pool o.0 o.2 may.pool.0 may.pool.1);
      none = none;
    }
