-- What the passes of a pool's callers allow, from turn to turn.
use Rattle.std.proofs.Common.{◌≡◌, ℕ, ◌-◌, ◌<◌, ◌≤◌, true, Option, Some, None, refl, sym, ap, ◌∙◌, subst, arith}
use Rattle.turn_lock.specs.declared.parted.Parted.{Ghosts}
use Rattle.turn_lock.specs.declared.pass.TurnPass.{TurnPass}
use Rattle.turn_lock.specs.Passes.{PartBecomes}
use Rattle.lane_pool.specs.declared.holders.Hand.TheVariants as hand
use Rattle.lane_pool.specs.declared.pool.PoolPart.{PoolPart}
use Rattle.lane_pool.specs.declared.sets.LaneSet.{LaneSet}
use Rattle.lane_pool.specs.declared.sets.PowerOff.{PowerOff}
use Rattle.lane_pool.specs.Parts.{Asks, HasNoneOut, HasPart, MayGive, MayStop, MayTake, PartGoes, Stops, Takes, given, told_of}
use Rattle.lane_pool.specs.Pools.{Now}
use Rattle.lane_pool.proofs.Keeping.{weaker}
use Rattle.pool_tests.specs.Callers.{HasPlace, HasTurns}

empty_out : {i f : ℕ} → hand.Empty ≡ hand.Out i f → ⊥
empty_out e = cc

none_out : (m : PoolPart) → m.hand ≡ hand.Empty → HasNoneOut m
none_out m free at room is = empty_out (sym free ∙ is)

asks_keeps : (asked : Option PowerOff) (m m' : PoolPart) → Asks asked m m' → HasPlace m → HasPlace m'
asks_keeps None m m' a t = subst (λ x. HasPlace x) (sym a.0) t
asks_keeps (Some off) m m' a t = subst (λ x. HasPlace x) (sym a) (record { placed = t.placed; none_out = t.none_out })

module _ {g : Ghosts Now PoolPart} where
  pub may_take : (n : ℕ) (p : TurnPass Now PoolPart g) → HasPart (HasTurns n) p → HasPart MayTake p
  may_take n p (m, is, t) = (m, is, record { placed = t.placed; free = t.free })

  pub may_give : (n : ℕ) → 0 < n → (s : LaneSet) (p p' : TurnPass Now PoolPart g) → HasPart (HasTurns n) p → PartGoes (Takes s) p p' → HasPart (MayGive 1 s) p'
  may_give n some s p p' (m, is, t) goes =
      let took = goes m is in
      let w = took.2 in
      let first : took.0.first ≡ m.first = ap (λ (x : PoolPart). x.first) w.becomes in
      let left : took.0.left ≡ m.left = ap (λ (x : PoolPart). x.left) w.becomes in (
        took.0,
        took.1,
        record {
          placed = ap (λ (x : PoolPart). x.placed) w.becomes ∙ t.placed;
          at = w.at;
          room = w.room;
          out = ap (λ (x : PoolPart). x.hand) w.becomes;
          few = let enough = t.left in omega (arith, some, left, enough);
          place = rw first w.place;
          ready = weaker (w.room - 1) w.room (omega arith) s w.ready;
        },
      )

  pub has_turns : (n k : ℕ) → k ≤ n - 1 → (s : LaneSet) (p p' p'' : TurnPass Now PoolPart g) → HasPart (HasTurns n) p → PartGoes (Takes s) p p' → PartBecomes (given 1) p' p'' → HasPart (HasTurns k) p''
  has_turns n k fewer s p p' p'' (m, is, t) goes becomes =
      let took = goes m is in
      let w = took.2 in
      let left : took.0.left ≡ m.left = ap (λ (x : PoolPart). x.left) w.becomes in (
        given 1 took.0,
        becomes took.0 took.1,
        record {
          placed = ap (λ (x : PoolPart). x.placed) w.becomes ∙ t.placed;
          free = refl;
          left = let enough = t.left in omega (arith, left, enough, fewer);
        },
      )

  pub has_place : (n : ℕ) (p : TurnPass Now PoolPart g) → HasPart (HasTurns n) p → HasPart HasPlace p
  has_place n p (m, is, t) = (m, is, record { placed = t.placed; none_out = none_out m t.free })

  pub told_place : (n : ℕ) (off : PowerOff) (p p' : TurnPass Now PoolPart g) → HasPart (HasTurns n) p → PartBecomes (told_of off) p p' → HasPart HasPlace p'
  told_place n off p p' (m, is, t) becomes = (told_of off m, becomes m is, record { placed = t.placed; none_out = none_out (told_of off m) t.free })

  pub placed : (p : TurnPass Now PoolPart g) → HasPart HasPlace p → HasPart (λ m. m.placed ≡ true) p
  placed p (m, is, t) = (m, is, t.placed)

  pub may_stop : (p : TurnPass Now PoolPart g) → HasPart HasPlace p → HasPart (MayStop None) p
  may_stop p (m, is, t) = (m, is, record { placed = t.placed; is_out = t.none_out })

  pub stopped_place : (off first : PowerOff) (p p' : TurnPass Now PoolPart g) → HasPart HasPlace p → PartGoes (Stops None off first) p p' → HasPart HasPlace p'
  stopped_place off first p p' (m, is, t) goes =
      let after = goes m is in
      let s = after.2 in (after.0, after.1, record { placed = s.placed ∙ t.placed; none_out = λ at room e. t.none_out at room (sym s.hands.0 ∙ e) })

  pub asked_place : (asked : Option PowerOff) (p p' : TurnPass Now PoolPart g) → HasPart HasPlace p → PartGoes (Asks asked) p p' → HasPart HasPlace p'
  asked_place asked p p' (m, is, t) goes = (let after = goes m is in (after.0, after.1, asks_keeps asked m after.0 after.2 t))
