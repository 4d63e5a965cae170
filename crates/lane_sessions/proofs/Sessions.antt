-- Arenas are made, and sessions that use them.
use Rattle.std.proofs.Common.{◌≡◌, inl, ℕ, zero, suc, ◌+◌, ◌<◌, ◌≤◌, List, [], ◌∷◌, ◌++◌, length, get_or, map, Bool, true, Option, Some, None, refl, sym, ap, ◌∙◌, subst, arith}
use Rattle.std.proofs.Common.{Global}
use Rattle.std.specs.Prelude.{All, Vec, min, nat_lt, slice_get}
use Rattle.std.proofs.lemmas.List.{get_or-map, length-map}
use Rattle.std.proofs.lemmas.Option.{get_or_from_slice_get, slice_get-get_or, slice_get_within}
use Rattle.turn_lock.specs.declared.pass.TurnPass.{TurnPass}
use Rattle.turn_lock.specs.Passes.{AreFresh, IsFresh, IsOutside, first_of, lock_id, number_of, part_of}
use Rattle.turn_lock.proofs.Places.{each_push, mapped, there}
use Rattle.arena_open.specs.declared.state.ArenaState.{ArenaState}
use Rattle.arena_open.specs.Moves.{IsOpenState}
use Rattle.lane_core.specs.Arenas.{shape_in}
use Rattle.lane_table.specs.declared.arena.Arena.{Arena}
use Rattle.lane_table.specs.declared.lanes.LaneEnd.{LaneEnd}
use Rattle.lane_table.specs.declared.session_pass.Pass.{Pass}
use Rattle.lane_table.specs.Begun.{IsMadeOf}
use Rattle.lane_table.specs.Kits.{arena_id}
use Rattle.lane_pool.specs.contracts.pool.PoolParted.TheImpl.{ghosts}
use Rattle.lane_pool.specs.declared.holders.Hand.TheVariants as hand
use Rattle.lane_pool.specs.declared.pool.PoolPart.{PoolPart}
use Rattle.lane_pool.specs.declared.sets.LaneSet.{LaneSet}
use Rattle.lane_pool.specs.Pools.{Now, fresh, holder_at, new_holder, nobody, part_at, part_of_caller}
use Rattle.lane_pool.specs.Sets.{IsReady, lane_in}
use Rattle.lane_calls.specs.declared.session.Kept.{Kept}
use Rattle.lane_calls.specs.declared.session.Sectors.{Sectors}
use Rattle.lane_calls.specs.declared.session.Session.{Session}
use Rattle.lane_calls.specs.Sessions.{AreLaid as Fits, HasOut, InHand, IsKnown, pass_at, shape_of}
use Rattle.lane_sessions.specs.declared.arenas.Laid.{Laid}
use Rattle.lane_sessions.specs.declared.arenas.Plan.{Plan}
use Rattle.lane_sessions.specs.declared.making.SessionLimits.{SessionLimits}
use Rattle.lane_sessions.specs.Making.{AreAside, AreLaid, AreNewSessions, AreSeated, IsNewSession, IsPassOf, IsSeatedAt, IsSetEnd, calls_in, new_caller, new_parts, set_count}
use Rattle.lane_sessions.specs.Rows.{Along}
use Rattle.lane_sessions.specs.Sets.{AreMadeOf, AreSets, which}
use Rattle.lane_sessions.proofs.Along.{along_at}

none_some : {A : Type 0} {x : A} → None ≡ Some x → ⊥
none_some e = cc

empty_out : {i f : ℕ} → hand.Empty ≡ hand.Out i f → ⊥
empty_out e = cc

below : (q n : ℕ) → q < n → nat_lt q n ≡ true
below q n lt = grind (arith)

-- ---- how many sets there are

sets_below : (n : ℕ) (states : List ArenaState) → set_count n states ≤ n
sets_below n [] = omega arith
sets_below n (state ∷ states) = let h = sets_below (min n (shape_in state).lanes) states in omega (arith, h)

pub sets_within : (n : ℕ) (states : List ArenaState) (k : ℕ) (d : ArenaState) → k < length states → set_count n states ≤ (shape_in (get_or states k d)).lanes
sets_within n [] k d h = absurd (omega (arith, h))
sets_within n (state ∷ states) zero d h = let b = sets_below (min n (shape_in state).lanes) states in omega (arith, b)
sets_within n (state ∷ states) (suc k) d h = sets_within (min n (shape_in state).lanes) states k d (omega (arith, h))

pub some_sets : (n : ℕ) (states : List ArenaState) → 0 < n → All IsOpenState states → 0 < set_count n states
some_sets n [] h open_all = h
some_sets n (state ∷ states) h open_all =
    let lanes : 1 ≤ (shape_in state).lanes = (open_all 0 state (omega arith)).sound.layout.lanes_some in
    some_sets (min n (shape_in state).lanes) states (omega (arith, h, lanes)) (λ k d lt. open_all (suc k) d (omega (arith, lt)))

-- ---- all arenas are made

module _ (p : Plan) (states : List ArenaState) (x : Laid) (laid : AreLaid p states x) where
  pub are_made : AreMadeOf states x.arenas.items
  are_made = record { count = laid.made.count; each = λ j state a is at. along_at IsMadeOf states x.arenas.items j state a laid.made is at }

  -- the arena at a place that there is
  arena_there : (j : ℕ) → j < length x.arenas.items → (a : Arena) × (slice_get x.arenas.items j ≡ Some a)
  arena_there j h = let a = there x.arenas.items j h in (a.0, slice_get-get_or x.arenas.items j a.0 h ∙ ap (λ a. Some a) a.1)

  module _ (sets : List LaneSet) (ends : map (λ s. s.ends) sets ≡ x.ends.items) where
    pub many : length sets ≡ p.sets
    many = sym (length-map sets (λ s. s.ends)) ∙ ap (λ l. length l) ends ∙ laid.sets

    along_set : (i : ℕ) (s : LaneSet) → slice_get sets i ≡ Some s → Along (IsSetEnd p i) x.arenas.items s.ends.items
    along_set i s is =
        let lt = slice_get_within sets i s is in
        let same : get_or x.ends.items i s.ends ≡ s.ends =
        ap (λ l. get_or l i s.ends) (sym ends) ∙ mapped (λ (s : LaneSet). s.ends) sets i s s.ends lt (get_or_from_slice_get sets i s s is) in
        subst (λ v. Along (IsSetEnd p i) x.arenas.items v.items) same (laid.ends i s.ends (omega (arith, lt, many, laid.sets)))

    pub are_sets : AreSets p.sessions x.arenas.items sets (map (λ v. v.items) x.aside.items)
    are_sets = record {
      ends = λ i s is. (along_set i s is).count;
      lanes = λ i j s a is at. ((along_set i s is).each j a None at).0;
      count = length-map x.aside.items (λ v. v.items) ∙ laid.aside.count;
      rest = λ j a is. let v = aside_at j a is in subst (λ l. length sets + length l ≡ a.shape.lanes) (sym v.1) (ap (λ (n : ℕ). n + length v.0.items) many ∙ v.2.rest);
      others = λ j k a e is at. let v = aside_at j a is in
          let o = v.2.others k e (ap (λ l. slice_get l k) (sym v.1) ∙ at) in (o.0, o.1 ∙ ap (λ (n : ℕ). which p.sessions a (n + k)) (sym many));
    }
      where
        aside_at : (j : ℕ) (a : Arena) → slice_get x.arenas.items j ≡ Some a → (v : Vec LaneEnd Global) × (get_or (map (λ v. v.items) x.aside.items) j [] ≡ v.items) × AreAside p a v
        aside_at j a is =
            let lt : j < length x.aside.items = omega (arith, slice_get_within x.arenas.items j a is, laid.aside.count) in
            let v = there x.aside.items j lt in
            (v.0, mapped (λ v. v.items) x.aside.items j v.0 [] lt v.1, subst (λ v. AreAside p a v) v.1 (laid.aside.each j a v.0 is))

    pub are_ready : All (IsReady p.calls) sets
    are_ready i d h j e k =
        let s = get_or sets i d in
        let along = along_set i s (slice_get-get_or sets i d h) in
        let a = arena_there j (omega (arith, k, along.count)) in
        (along.each j a.0 e a.1).1

    pub fits : Fits x.arenas.items sets
    fits i s is =
        let along = along_set i s is in (
          along.count,
          λ j a at.
              let lt : j < length s.ends.items = omega (arith, slice_get_within x.arenas.items j a at, along.count) in
              (which p.sessions a i, get_or-map lane_in s.ends.items j None None lt ∙ (along.each j a None at).0, refl, refl),
        )

    -- ---- a session that did nothing

    module _ (s : Sectors) (entries : List ℕ) (arenas : s.arenas.items ≡ x.arenas.items) (first : first_of s.pool.turn ≡ fresh sets entries) where
      caller_is : (q : ℕ) → q < length entries → part_at (fresh sets entries) q ≡ new_caller sets (get_or entries q 0)
      caller_is q lt =
          let holder : holder_at (map new_holder entries) q ≡ new_holder (get_or entries q 0) = get_or-map new_holder entries q 0 nobody lt in
          let placed : nat_lt q (length (map new_holder entries)) ≡ true = below q (length (map new_holder entries)) (omega (arith, lt, length-map entries new_holder)) in
          ap (part_of_caller (fresh sets entries) q) holder ∙ ap (λ (b : Bool). record (new_caller sets (get_or entries q 0)) { placed = b }) placed

      pub new_session : (q : ℕ) (l : SessionLimits) (pass : TurnPass Now PoolPart ghosts) (row : Vec (Option Pass) Global) (session : Session) → q < length entries → get_or entries q 0 ≡ l.calls → IsFresh (lock_id s.pool.turn) (fresh sets entries) q pass
          → Along (IsPassOf q) x.arenas.items row.items → IsSeatedAt l pass row session → IsNewSession s states l q session
      new_session q l pass row session lt calls new along at = record {
        number = at.number ∙ new.1;
        left = at.left.0;
        steps = at.left.1;
        call = at.call;
        kept = at.kept;
        pool = pool_is ∙ ap (λ (v : Now). Some (new_caller v.first l.calls)) (sym first);
        know = λ past. record {
          pool = new_caller sets l.calls;
          seated = record {
            number = at.number ∙ new.1;
            count = ap (λ l. length l) at.passes ∙ along.count ∙ ap (λ l. length l) (sym arenas);
            outside = subst (λ (t : TurnPass Now PoolPart ghosts). IsOutside (lock_id s.pool.turn) t) (sym at.pool_is) (new.0, new.3);
            turn = ap (λ t. number_of t) at.pool_is ∙ new.1;
            pool_is = pool_is;
            placed = refl;
            laid = subst (λ l. Fits l sets) (sym arenas) fits;
          };
          out = subst (λ (o : Option Kept). HasOut 63 o (new_caller sets l.calls)) (sym at.kept) (λ i f e. empty_out e);
          handed = λ y e. absurd (none_some e);
          each = λ j a is. knows past j a (ap (λ l. slice_get l j) (sym arenas) ∙ is);
        };
      }
        where
          pool_is : part_of session.caller.pool ≡ Some (new_caller sets l.calls)
          pool_is = ap (λ t. part_of t) at.pool_is ∙ new.2 ∙ ap (λ m. Some m) (caller_is q lt ∙ ap (λ (n : ℕ). new_caller sets n) calls)

          knows : (past : ArenaState) (j : ℕ) (a : Arena) → slice_get x.arenas.items j ≡ Some a → (a.shape ≡ shape_of (new_parts past states j)) × IsKnown (arena_id a) q (pass_at session j) None j (new_parts past states j)
          knows past j a is =
              let lt : j < length states = omega (arith, slice_get_within x.arenas.items j a is, laid.made.count) in
              let state = there states j lt in
              let there_is : slice_get states j ≡ Some state.0 = slice_get-get_or states j state.0 lt ∙ ap (λ y. Some y) state.1 in
              let made = along_at IsMadeOf states x.arenas.items j state.0 a laid.made there_is is in
              let mine = along.each j a None is in
              let hand : InHand (arena_id a) q (pass_at session j) (new_parts past states j) = record {
                pass = mine.pass;
                is = ap (λ l. get_or l j None) at.passes ∙ mine.is;
                table_is = mine.table_is;
                session = mine.session;
                entries = [];
                loose = mine.loose;
                mine = refl;
              } in (made.shape ∙ ap shape_in (sym (get_or_from_slice_get states j state.0 past there_is)), inl (hand, λ y e. absurd (none_some e)))

      pub new_sessions : (limits : List SessionLimits) (callers : List (TurnPass Now PoolPart ghosts)) (sessions : List Session) → length limits ≡ p.sessions → entries ≡ calls_in limits → length callers ≡ length limits → AreFresh (lock_id s.pool.turn) (fresh sets entries) callers → length sessions ≡ length limits
          → AreSeated limits callers x.passes.items sessions → AreNewSessions s states limits sessions
      new_sessions limits callers sessions sessions_are calls count new same seated = record {
        count = same;
        each = λ q l session is at.
            let lt = slice_get_within limits q l is in
            let n : length entries ≡ length limits = ap (λ l. length l) calls ∙ length-map limits (λ l. l.calls) in
            let t = there callers q (omega (arith, lt, count)) in
            let r = there x.passes.items q (omega (arith, lt, sessions_are, laid.sessions)) in
            let its : get_or entries q 0 ≡ l.calls = ap (λ e. get_or e q 0) calls ∙ mapped (λ (l : SessionLimits). l.calls) limits q l 0 lt (get_or_from_slice_get limits q l l is) in
            let seat = seated q l t.0 r.0 session (omega (arith, lt, same)) in
            new_session q l (get_or callers q t.0) (get_or x.passes.items q r.0) session (omega (arith, lt, n)) its (new q t.0 (omega (arith, lt, count))) (laid.passes q r.0 (omega (arith, lt, sessions_are, laid.sessions)))
            (subst (λ (l : SessionLimits). IsSeatedAt l (get_or callers q t.0) (get_or x.passes.items q r.0) session) (get_or_from_slice_get limits q l l is)
            (subst (λ (y : Session). IsSeatedAt (get_or limits q l) (get_or callers q t.0) (get_or x.passes.items q r.0) y) (get_or_from_slice_get sessions q session session at) seat));
      }

-- ---- a session more

pub seated_push : {Z : Type 0} (limits : List SessionLimits) (pool : List (TurnPass Now PoolPart ghosts)) (rows : List (Vec (Option Pass) Z)) (sessions : List Session) (session : Session) → AreSeated limits pool rows sessions
    → ((l : SessionLimits) (p : TurnPass Now PoolPart ghosts) (row : Vec (Option Pass) Z) → IsSeatedAt (get_or limits (length sessions) l) (get_or pool (length sessions) p) (get_or rows (length sessions) row) session) → AreSeated limits pool rows (sessions ++ session ∷ [])
seated_push {Z} limits pool rows sessions session are here q l p row s h =
    each_push (λ k x. (l : SessionLimits) (p : TurnPass Now PoolPart ghosts) (row : Vec (Option Pass) Z) → IsSeatedAt (get_or limits k l) (get_or pool k p) (get_or rows k row) x) sessions session (λ k d h l p row. are k l p row d h) here q s h l p row

-- an element that is there is the same for any default
pub default_same : {A : Type 0} (xs : List A) (i : ℕ) (d e : A) → i < length xs → get_or xs i d ≡ get_or xs i e
default_same [] i d e h = absurd (omega (arith, h))
default_same (x ∷ xs) zero d e h = refl
default_same (x ∷ xs) (suc i) d e h = default_same xs i d e (omega (arith, h))
