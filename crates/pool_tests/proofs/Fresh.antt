-- The passes of a new pool, and of one whose callers came to their end.
use Rattle.std.proofs.Common.{◌≡◌, ℕ, zero, suc, ◌<◌, ◌≤◌, List, [], ◌∷◌, ◌++◌, take, drop, length, get_or, map, Option, None, sym, ap, ◌∙◌, subst, arith}
use Rattle.std.specs.Prelude.{All}
use Rattle.std.proofs.lemmas.List.{append-nil, drop_all, get_or-map, length-map, take_all}
use Rattle.std.proofs.lemmas.List.Elements.{All-append}
use Rattle.atomic_table.specs.Seated.{TableId}
use Rattle.turn_lock.specs.declared.pass.TurnPass.{TurnPass}
use Rattle.turn_lock.specs.Passes.{AreFresh, HasEach, IsOutside}
use Rattle.turn_lock.proofs.Rows.{has_each}
use Rattle.lane_table.specs.declared.lanes.LaneEnd.{LaneEnd}
use Rattle.lane_pool.specs.contracts.pool.PoolParted.TheImpl.{ghosts}
use Rattle.lane_pool.specs.declared.holders.Holder.{Holder}
use Rattle.lane_pool.specs.declared.pool.PoolPart.{PoolPart}
use Rattle.lane_pool.specs.declared.sets.LaneSet.{LaneSet}
use Rattle.lane_pool.specs.Parts.{HasPart, MayStop, NoneOut}
use Rattle.lane_pool.specs.Pools.{Now, fresh, holder_at, new_holder, nobody, part_at}
use Rattle.lane_pool.specs.Sets.{IsReady}
use Rattle.pool_tests.proofs.Turns.{has_place, may_stop}
use Rattle.pool_tests.specs.Callers.{AreOf, HasPlace, HasTurns}

abbrev pub Passes : Type 0
Passes = List (TurnPass Now PoolPart ghosts)

-- one set more, without lanes
pub ready_more : (n : ℕ) (sets sets' : List LaneSet) (s : LaneSet) → sets' ≡ sets ++ s ∷ [] → s.ends.items ≡ [] → All (IsReady n) sets → All (IsReady n) sets'
ready_more n sets sets' s pushed none ready = subst (λ (xs : List LaneSet). All (IsReady n) xs) (sym pushed) (All-append (IsReady n) sets (s ∷ []) ready one)
  where
    empty : IsReady n s
    empty i d lt = absurd (let l = ap (λ (es : List (Option LaneEnd)). length es) none in omega (arith, lt, l))

    one : All (IsReady n) (s ∷ [])
    one zero d lt = empty
    one (suc i) d lt = absurd (omega (arith, lt))

-- what a `Vec` has once its slice was lent
pub lent : {X : Type 0} (n : ℕ) (old new : List X) → n ≡ length old → length new ≡ length old → take n (new ++ drop (length new) old) ≡ new
lent n old new long same =
    ap (λ rest. take n (new ++ rest)) (drop_all (length new) old (omega (arith, same))) ∙ ap (λ xs. take n xs) (append-nil new) ∙ take_all n new (omega (arith, long, same))

-- two callers that may take a set equally often
pub both : (n : ℕ) → All (λ k. n ≤ k) (n ∷ n ∷ [])
both n zero d lt = omega arith
both n (suc zero) d lt = omega arith
both n (suc (suc q)) d lt = absurd (omega (arith, lt))

module _ (sets : List LaneSet) (entries : List ℕ) (n : ℕ) (enough : All (λ k. n ≤ k) entries) where
  holder : (q : ℕ) → q < length entries → holder_at (map new_holder entries) q ≡ new_holder (get_or entries q 0)
  holder q there = get_or-map new_holder entries q 0 nobody there

  has_turns : (q : ℕ) → q < length entries → HasTurns n (part_at (fresh sets entries) q)
  has_turns q there =
      let is = holder q there in
      let left : (holder_at (map new_holder entries) q).left ≡ get_or entries q 0 = ap (λ (h : Holder). h.left) is in
      let most = enough q 0 there in
      let long = length-map entries new_holder in record {
        placed = grind (arith, there, long);
        free = ap (λ (h : Holder). h.hand) is;
        left = omega (arith, left, most);
      }

  pub are_of : (lock : TableId) (ps : Passes) → length ps ≡ length entries → AreFresh lock (fresh sets entries) ps → AreOf lock (HasTurns n) ps
  are_of lock ps count fresh_ps q p lt =
      let f = fresh_ps q p lt in record { at = f.0; number = f.1; outside = f.3; part = (part_at (fresh sets entries) q, f.2, has_turns q (omega (arith, lt, count))) }

  -- a pass of the list may be handed to `stop`
  pub may_stop_at : (lock : TableId) (ps : Passes) → length ps ≡ length entries → AreFresh lock (fresh sets entries) ps → (q : ℕ) (p : TurnPass Now PoolPart ghosts) → q < length ps → p ≡ get_or ps q p → HasPart (MayStop None) p
  may_stop_at lock ps count fresh_ps q p lt is =
      subst (λ (x : TurnPass Now PoolPart ghosts). HasPart (MayStop None) x) (sym is) (may_stop (get_or ps q p) (has_place n (get_or ps q p) (are_of lock ps count fresh_ps q p lt).part))

module _ (lock : TableId) (ps : Passes) (are : AreOf lock HasPlace ps) where
  pub all_outside : All (IsOutside lock) ps
  all_outside q p lt = let a = are q p lt in (a.at, a.outside)

  pub each : (n : ℕ) → length ps ≡ n → HasEach n ps
  each n count q lt = has_each ps (λ r p i. (are r p i).number) q (omega (arith, lt, count))

  pub none_out : NoneOut ps
  none_out q p lt = let part = (are q p lt).part in (part.0, part.1, part.2.none_out)
