-- What all sessions know between calls is what each arena's closing asks for.
use Rattle.std.proofs.Common.{◌≡◌, ◌⊎◌, inl, inr, ℕ, zero, suc, ◌+◌, ◌<◌, true, false, List, [], ◌∷◌, ◌++◌, length, length-append, get_or, map, Option, Some, None, refl, sym, ap, ◌∙◌, subst, arith}
use Rattle.std.specs.Prelude.{All, Vec, slice_get}
use Rattle.std.proofs.lemmas.List.{length-map}
use Rattle.std.proofs.lemmas.Option.{get_or_from_slice_get, slice_get_within}
use mathlib.Core.Option.{some}
use lib.ListN.{get_elem?}
use Rattle.turn_lock.specs.declared.pass.TurnPass.{TurnPass}
use Rattle.turn_lock.specs.Passes.{HasEach, IsOutside, callers_of, first_of, lock_id, part_of}
use Rattle.lane_core.specs.declared.phase.Phase.{Phase}
use Rattle.lane_core.specs.Cut.{is_open}
use Rattle.lane_table.specs.declared.arena.Arena.{Arena}
use Rattle.lane_table.specs.declared.lanes.LaneEnd.{LaneEnd}
use Rattle.lane_table.specs.declared.lanes.LaneEnd.TheVariants.{Idle, Staged, Stopped}
use Rattle.lane_table.specs.declared.session_pass.Pass.{Pass}
use Rattle.lane_table.specs.Kits.{arena_id, kit_in}
use Rattle.lane_pool.specs.contracts.pool.PoolParted.TheImpl.{ghosts}
use Rattle.lane_pool.specs.declared.holders.Hand.TheVariants as hand
use Rattle.lane_pool.specs.declared.pool.PoolPart.{PoolPart}
use Rattle.lane_pool.specs.declared.sets.LaneSet.{LaneSet}
use Rattle.lane_pool.specs.declared.sets.PowerOff.{PowerOff}
use Rattle.lane_pool.specs.Parts.{HasPart, IsClosed, NoneOut}
use Rattle.lane_pool.specs.Pools.{Now}
use Rattle.lane_pool.specs.Sets.{IsIdleEnd, WhichLane, lane_in, lane_of}
use Rattle.lane_calls.specs.declared.session.Kept.{Kept}
use Rattle.lane_calls.specs.declared.session.Sectors.{Sectors}
use Rattle.lane_calls.specs.declared.session.Session.{Session}
use Rattle.lane_calls.specs.Lanes.{is_in_flight}
use Rattle.lane_calls.specs.Sessions.{HasOut, Holds, Parts, end_at, handed_at, pass_at}
use Rattle.lane_sessions.specs.Closing.{AreHandedIn, IsHandedIn}
use Rattle.lane_sessions.specs.Ending.{AreAllIn, IsOffBy, KnowAll, column, lists_of, there}
use Rattle.lane_sessions.specs.Sets.{AreSets, which}
use Rattle.lane_sessions.proofs.Columns.{all_map, all_of, any_at, any_map, as_elem, as_get, elem_split, ends_column, get_is, get_some, map_get, of_all_map, passes_column, there_at, there_count, there_of}
use Rattle.lane_sessions.proofs.Lists.{in_front}

in_some : {A : Type 0} {x y : A} → Some x ≡ Some y → x ≡ y
in_some e = cc

none_is : {A B : Type 0} {x : A} → None ≡ Some x → B
none_is e = absurd (cc)

never : {A : Type 0} → false ≡ true → A
never e = absurd (cc)

-- ---- a lane's end

idle_rests : (n : ℕ) (e : LaneEnd) → IsIdleEnd n (Some e) → is_in_flight (kit_in e) ≡ false
idle_rests n (Idle l) h = ap (λ (p : Phase). is_open p) l.idle
idle_rests n (Staged s) h = absurd h
idle_rests n (Stopped s) h = absurd h

idle_at : (n : ℕ) (o : Option LaneEnd) (e : LaneEnd) → o ≡ Some e → IsIdleEnd n o → is_in_flight (kit_in e) ≡ false
idle_at n o e is h = idle_rests n e (subst (IsIdleEnd n) is h)

lane_at : (xs : List (Option LaneEnd)) (j : ℕ) → get_or (map lane_in xs) j None ≡ lane_in (get_or xs j None)
lane_at [] j = refl
lane_at (x ∷ xs) zero = refl
lane_at (x ∷ xs) (suc j) = lane_at xs j

some_lane : (o : Option LaneEnd) (w : WhichLane) → lane_in o ≡ Some w → (e : LaneEnd) × (o ≡ Some e) × (lane_of (kit_in e) ≡ w)
some_lane None w is = none_is is
some_lane (Some e) w is = (e, refl, in_some is)

in_set : (o : Option LaneSet) (j : ℕ) (e : LaneEnd) → handed_at o j ≡ Some e → (x : LaneSet) × (o ≡ Some x) × (end_at x j ≡ Some e)
in_set None j e is = none_is is
in_set (Some x) j e is = (x, refl, is)

place_is : (xs : List (Option LaneEnd)) (j : ℕ) (e : LaneEnd) → get_or xs j None ≡ Some e → j < length xs
place_is [] j e is = none_is is
place_is (x ∷ xs) zero e is = omega arith
place_is (x ∷ xs) (suc j) e is = let h = place_is xs j e is in omega (arith, h)

get_place : (xs : List (Option LaneEnd)) (j : ℕ) (d : Option LaneEnd) → j < length xs → get_or xs j d ≡ get_or xs j None
get_place [] j d h = absurd (omega (arith, h))
get_place (x ∷ xs) zero d h = refl
get_place (x ∷ xs) (suc j) d h = get_place xs j d (omega (arith, h))

abbrev Given : Type 0
Given = TurnPass Now PoolPart ghosts

module _ (sectors : Sectors) (sessions : List Session) (parts : ℕ → Parts) (know : KnowAll sectors parts sessions) where
  abbrev pub turns : List Given
  turns = map (λ s. s.caller.pool) sessions

  -- ---- what the pool's closing asks for

  pub all_outside : All (λ p. IsOutside (lock_id sectors.pool.turn) p) turns
  all_outside = all_map (λ (p : Given). IsOutside (lock_id sectors.pool.turn) p) (λ (s : Session). s.caller.pool) sessions (λ q s is. (know q s is).seated.outside)

  pub each_once : length sessions ≡ callers_of sectors.pool.turn → HasEach (callers_of sectors.pool.turn) turns
  each_once count q h =
      let s = get_some sessions q (omega (arith, h, count)) in
      (q, s.0.caller.pool, omega (arith, h, count, length-map sessions (λ (s : Session). s.caller.pool)), map_get (λ (s : Session). s.caller.pool) sessions q s.0 s.0.caller.pool s.1, (know q s.0 s.1).seated.turn)

  -- what each session rests for
  module _ (rest : All (λ (s : Session). s.kept ≡ None) sessions) where
    rests_at : (q : ℕ) (s : Session) → slice_get sessions q ≡ Some s → s.kept ≡ None
    rests_at q s is = subst (λ (x : Session). x.kept ≡ None) (get_or_from_slice_get sessions q s s is) (rest q s (slice_get_within sessions q s is))

    pub none_out : NoneOut turns
    none_out = all_map (HasPart {g = ghosts} (λ m. (at room : ℕ) → m.hand ≡ hand.Out at room → ⊥)) (λ (s : Session). s.caller.pool) sessions (λ q s is. let k = know q s is in (k.pool, k.seated.pool_is, subst (λ (o : Option Kept). HasOut 63 o k.pool) (rests_at q s is) k.out))

  -- ---- what it gives

  module _ (sets : List LaneSet) (off : Option PowerOff) (closed : IsClosed (first_of sectors.pool.turn).first turns sets off) where
    pub off_by : IsOffBy sessions off
    off_by = record {
      by_one = λ p is.
          let a = any_map (HasPart {g = ghosts} (λ m. m.stop ≡ Some (record { off = p; told = false }))) (λ (s : Session). s.caller.pool) sessions (closed.stopped p is) in
          any_at (λ (s : Session). HasPart {g = ghosts} (λ m. m.stop ≡ Some (record { off = p; told = false })) s.caller.pool) sessions a.0 a.1 a.2 a.3;
      told = all_of (λ (s : Session). HasPart {g = ghosts} (λ m. (p : PowerOff) → m.told ≡ Some p → off ≡ Some p) s.caller.pool) sessions
          (of_all_map (HasPart {g = ghosts} (λ m. (p : PowerOff) → m.told ≡ Some p → off ≡ Some p)) (λ (s : Session). s.caller.pool) sessions closed.told);
    }

    module _ (aside : List (List LaneEnd)) (laid : AreSets (length sessions) sectors.arenas.items (first_of sectors.pool.turn).first aside) where
      -- ---- one arena

      module _ (j : ℕ) (a : Arena) (here : slice_get sectors.arenas.items j ≡ Some a) where
        abbrev in_sets : List LaneEnd
        in_sets = there (map (λ s. end_at s j) sets)

        abbrev others : List LaneEnd
        others = get_or aside j []

        abbrev ends : List LaneEnd
        ends = in_sets ++ others

        abbrev passes : List (Option Pass)
        passes = map (λ s. pass_at s j) sessions

        lane_there : (i : ℕ) (s : LaneSet) → slice_get sets i ≡ Some s → (e : LaneEnd) × (end_at s j ≡ Some e) × (lane_of (kit_in e) ≡ which (length sessions) a i)
        lane_there i s is =
            let p = closed.places i s is in
            some_lane (end_at s j) (which (length sessions) a i)
            (sym (lane_at s.ends.items j) ∙ ap (λ ws. get_or ws j None) p.2.1 ∙ lane_at p.0.ends.items j ∙ laid.lanes i j p.0 a p.1 here)

        all_there : (i : ℕ) (s : LaneSet) → slice_get sets i ≡ Some s → (e : LaneEnd) × (end_at s j ≡ Some e)
        all_there i s is = let l = lane_there i s is in (l.0, l.1)

        count : length in_sets ≡ length sets
        count = there_count (λ (s : LaneSet). end_at s j) sets all_there

        in_place : (i : ℕ) (s : LaneSet) (e : LaneEnd) → slice_get sets i ≡ Some s → end_at s j ≡ Some e → get_elem? ends i ≡ some e
        in_place i s e is at = in_front in_sets others i e (there_at (λ (s : LaneSet). end_at s j) sets all_there i s e is at)

        -- a lane of the arena stands in a set, or aside
        record InSet (i : ℕ) (e : LaneEnd) : Type 0 where
          set : LaneSet
          is : slice_get sets i ≡ Some set
          at : end_at set j ≡ Some e

        record IsAside (i : ℕ) (e : LaneEnd) : Type 0 where
          idle : IsIdleEnd 0 (Some e)
          lane : lane_of (kit_in e) ≡ which (length sessions) a i

        found : (i : ℕ) (e : LaneEnd) → get_elem? ends i ≡ some e → InSet i e ⊎ IsAside i e
        found i e is = elim (elem_split in_sets others i e is) [
          | inl f ↦ (let r = there_of (λ (s : LaneSet). end_at s j) sets all_there i e f in inl (record { set = r.0; is = r.1; at = r.2 }))
          | inr f ↦ (
              let o = laid.others j f.0 a e here (as_get others f.0 e f.2) in
              let n = f.1 in
              let place : length (first_of sectors.pool.turn).first + f.0 ≡ i = omega (arith, n, count, closed.count) in
              inr (record { idle = o.0; lane = o.1 ∙ ap (λ (k : ℕ). which (length sessions) a k) place }))
        ]

        lane_is : (i : ℕ) (e : LaneEnd) → get_elem? ends i ≡ some e → lane_of (kit_in e) ≡ which (length sessions) a i
        lane_is i e is = elim (found i e is) [
          | inl f ↦ (let l = lane_there i f.set f.is in subst (λ (x : LaneEnd). lane_of (kit_in x) ≡ which (length sessions) a i) (in_some (sym l.1 ∙ f.at)) l.2)
          | inr f ↦ f.lane
        ]

        -- the part of the pool that a session has
        same_part : (q : ℕ) (s : Session) (is : slice_get sessions q ≡ Some s) (m : PoolPart) → part_of s.caller.pool ≡ Some m → m ≡ (know q s is).pool
        same_part q s is m part = in_some (sym part ∙ (know q s is).seated.pool_is)

        -- each session's pass
        own : (q : ℕ) (s : Session) (is : slice_get sessions q ≡ Some s) → IsHandedIn (arena_id a) q (pass_at s j) ends (parts q j)
        own q s is =
            let k = know q s is in
            elim (k.each j a here).1 [
              | inl h ↦ inl h.0
              | inr e ↦ (
                  let x = in_set k.pool.handed j e.end e.is in
                  let h = k.handed x.0 x.1 in
                  let part = of_all_map (HasPart {g = ghosts} (λ m. (i : ℕ) → m.hand ≡ hand.Stopped i → m.handed ≡ slice_get sets i)) (λ (s : Session). s.caller.pool) sessions closed.handed q s is in
                  let same = same_part q s is part.0 part.1 in
                  let at : slice_get sets h.0 ≡ Some x.0 = sym (part.2 h.0 (ap (λ (m : PoolPart). m.hand) same ∙ h.1)) ∙ ap (λ (m : PoolPart). m.handed) same ∙ x.1 in
                  inr (record { none = e.none; place = h.0; end = e.end; there = in_place h.0 x.0 e.end at x.2; holds = e.holds }))
            ]

        -- a write in flight is that of the session that handed the lane's set in
        by_session : (i : ℕ) (e : LaneEnd) → is_in_flight (kit_in e) ≡ true → InSet i e → (q : ℕ) × (q < length sessions) × Holds q (kit_in e) (parts q j)
        by_session i e flies f = elim (closed.idle i f.set f.is) [
          | inl ready ↦ (
              let inside = place_is f.set.ends.items j e f.at in
              never (sym (idle_at 0 (end_at f.set j) e f.at (subst (IsIdleEnd 0) (get_place f.set.ends.items j None inside) (ready j None inside))) ∙ flies))
          | inr some_pass ↦ (
              let p = any_map (HasPart {g = ghosts} (λ m. (m.hand ≡ hand.Stopped i) × (m.handed ≡ Some f.set))) (λ (s : Session). s.caller.pool) sessions some_pass in
              let k = know p.0 p.1 p.2 in
              let same = same_part p.0 p.1 p.2 p.3.0 p.3.1 in
              let handed : k.pool.handed ≡ Some f.set = sym (ap (λ (m : PoolPart). m.handed) same) ∙ p.3.2.1 in
              elim (k.each j a here).1 [
                | inl h ↦ never (sym (idle_at 0 (end_at f.set j) e f.at (h.1 f.set handed)) ∙ flies)
                | inr h ↦ (
                    let same_end : h.end ≡ e = in_some (sym h.is ∙ ap (λ (o : Option LaneSet). handed_at o j) handed ∙ f.at) in
                    (p.0, (get_is sessions p.0 p.1 p.1 p.2).0, subst (λ (x : LaneEnd). Holds p.0 (kit_in x) (parts p.0 j)) same_end h.holds))
              ])
        ]

        many : length passes ≡ length sessions
        many = length-map sessions (λ (s : Session). pass_at s j)

        pub handed_in : AreHandedIn a ends passes (λ q. parts q j)
        handed_in = record {
          order = record {
            count = (let rest = laid.rest j a here in omega (arith, rest, count, closed.count, length-append in_sets others));
            each = λ i e is. ap (λ (w : WhichLane). w.number) (lane_is i e is);
          };
          table = all_of (λ (e : LaneEnd). (kit_in e).seat.table_id ≡ arena_id a) ends (λ i e is. ap (λ (w : WhichLane). w.table) (lane_is i e (as_elem ends i e is)));
          made = λ e is. ap (λ (w : WhichLane). w.made) (lane_is 0 e is) ∙ sym many;
          each = λ q h.
              let s = get_some sessions q (omega (arith, h, many)) in
              subst (λ o. IsHandedIn (arena_id a) q o ends (parts q j)) (sym (map_get (λ (s : Session). pass_at s j) sessions q s.0 None s.1)) (own q s.0 s.1);
          flights = λ i e is flies. elim (found i e is) [
            | inl f ↦ (let r = by_session i e flies f in (r.0, (let lt = r.1 in omega (arith, lt, many)), r.2))
            | inr f ↦ never (sym (idle_rests 0 e f.idle) ∙ flies)
          ];
        }

    -- ---- all arenas

    module _ {Z : Type 0} (aside : List (Vec LaneEnd Z)) (laid : AreSets (length sessions) sectors.arenas.items (first_of sectors.pool.turn).first (lists_of aside)) where
      pub all_in : AreAllIn sectors.arenas.items (map (λ s. s.ends) sets) aside (map (λ s. s.passes) sessions) parts
      all_in = record {
        sets_wide = λ i d h.
            let s = get_some sets i (omega (arith, h, length-map sets (λ (s : LaneSet). s.ends))) in
            let p = closed.places i s.0 s.1 in
            let same = ap (λ (ws : List (Option WhichLane)). length ws) p.2.1 in
            let long : length s.0.ends.items ≡ length sectors.arenas.items =
            (let w = laid.ends i p.0 p.1 in omega (arith, same, w, length-map s.0.ends.items lane_in, length-map p.0.ends.items lane_in)) in
            ap (λ v. length v.items) (map_get (λ (s : LaneSet). s.ends) sets i s.0 d s.1) ∙ long;
        passes_wide = λ q d h.
            let s = get_some sessions q (omega (arith, h, length-map sessions (λ (s : Session). s.passes))) in
            ap (λ v. length v.items) (map_get (λ (s : Session). s.passes) sessions q s.0 d s.1) ∙ (know q s.0 s.1).seated.count;
        count = sym (length-map aside (λ v. v.items)) ∙ laid.count;
        each = λ j a is.
            subst (λ es. AreHandedIn a (there es ++ get_or (lists_of aside) j []) (column j (map (λ s. s.passes) sessions)) (λ q. parts q j)) (sym (ends_column j sets))
            (subst (λ ps. AreHandedIn a (there (map (λ s. end_at s j) sets) ++ get_or (lists_of aside) j []) ps (λ q. parts q j)) (sym (passes_column j sessions)) (handed_in (lists_of aside) laid j a is));
      }
