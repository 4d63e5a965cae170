-- A new pool.
use Rattle.std.proofs.Common.{◌≡◌, inl, ℕ, zero, suc, ◌+◌, ◌<◌, List, [], ◌∷◌, length, get_or, map, Option, Some, None, refl, sym, ap, ◌∙◌, subst, arith}
use Rattle.std.specs.Prelude.{All, slice_get, sum}
use Rattle.std.proofs.lemmas.List.{length-map}
use Rattle.std.proofs.lemmas.List.Sums.{sum_by-cons}
use Rattle.std.proofs.lemmas.Option.{get_or_from_slice_get, slice_get_within}
use Rattle.lane_pool.specs.declared.holders.Hand.{Hand}
use Rattle.lane_pool.specs.declared.holders.Hand.TheVariants as hand
use Rattle.lane_pool.specs.declared.holders.Holder.{Holder}
use Rattle.lane_pool.specs.declared.sets.LaneSet.{LaneSet}
use Rattle.lane_pool.specs.Pools.{Has, IsInside, IsPool, fresh, holder_at, left_in, left_of, new_holder, pool_now, set_at}
use Rattle.lane_pool.specs.Sets.{IsReady}
use Rattle.lane_pool.proofs.Closing.{set_of}

some_none : {A : Type 0} {x : A} → Some x ≡ None → ⊥
some_none e = cc

empty_out : {i f : ℕ} → hand.Empty ≡ hand.Out i f → ⊥
empty_out e = cc

empty_stopped : {i : ℕ} → hand.Empty ≡ hand.Stopped i → ⊥
empty_stopped e = cc

pub left_fresh : (entries : List ℕ) → left_in (map new_holder entries) ≡ sum entries
left_fresh [] = refl
left_fresh (n ∷ entries) =
    sum_by-cons left_of (new_holder n) (map new_holder entries) ∙ ap (λ (m : ℕ). n + m) (left_fresh entries) ∙ sym (sum_by-cons (λ (m : ℕ). m) n entries)

fresh_at : (entries : List ℕ) (q : ℕ) → (n : ℕ) × (holder_at (map new_holder entries) q ≡ new_holder n)
fresh_at [] q = (0, refl)
fresh_at (n ∷ entries) zero = (n, refl)
fresh_at (n ∷ entries) (suc q) = fresh_at entries q

module _ (sets : List LaneSet) (entries : List ℕ) (ready : All (IsReady (sum entries)) sets) where
  hands : (q : ℕ) → (holder_at (map new_holder entries) q).hand ≡ hand.Empty
  hands q = ap (λ (h : Holder). h.hand) (fresh_at entries q).1

  at_home : (i : ℕ) (s : LaneSet) → set_at (map (λ s. Some s) sets) i ≡ Some s → slice_get sets i ≡ Some s
  at_home i s e = sym (set_of sets i) ∙ e

  pub fresh_pool : IsPool (fresh sets entries)
  fresh_pool = record {
    count = length-map sets (λ s. Some s);
    home = λ i s e. (s, at_home i s e, (refl, refl));
    ready = λ i s e.
        let at = at_home i s e in
        let is : get_or sets i s ≡ s = get_or_from_slice_get sets i s s at in
        inl (subst (λ (n : ℕ). IsReady n s) (sym (left_fresh entries)) (subst (λ (x : LaneSet). IsReady (sum entries) x) is (ready i s (slice_get_within sets i s at))));
    away = λ i lt e. absurd (none i (omega (arith, lt, length-map sets (λ s. Some s))) (sym (set_of sets i) ∙ e));
    out = λ q i f is. absurd (empty_out (sym (hands q) ∙ is));
    stopped = λ q i is. absurd (empty_stopped (sym (hands q) ∙ is));
    one = λ q r i a b. absurd (subst (λ (x : Hand). Has x i) (hands q) a);
    by_one = λ p e. absurd (some_none (sym e));
    told = λ q p e. absurd (some_none (sym e ∙ ap (λ (h : Holder). h.told) (fresh_at entries q).1));
    stops = λ q s e none. some_none (sym e ∙ ap (λ (h : Holder). h.stop) (fresh_at entries q).1);
  }
    where
      none : (i : ℕ) → i < length sets → slice_get sets i ≡ None → ⊥
      none i lt e = by sets i lt e
        where
          by : (xs : List LaneSet) (i : ℕ) → i < length xs → slice_get xs i ≡ None → ⊥
          by [] i lt e = omega (arith, lt)
          by (x ∷ xs) zero lt e = some_none e
          by (x ∷ xs) (suc i) lt e = by xs i (omega (arith, lt)) e

  pub fresh_inside : (total : ℕ) (first : List LaneSet) (home : List (Option LaneSet)) (holders : List Holder) → total ≡ sum entries → first ≡ sets → home ≡ map (λ s. Some s) sets → holders ≡ map new_holder entries → IsInside total (pool_now first home holders None)
  fresh_inside total first home holders counted first_is home_is holders_is =
      subst (λ (z : List LaneSet). IsInside total (pool_now z home holders None)) (sym first_is)
      (subst (λ (z : List (Option LaneSet)). IsInside total (pool_now sets z holders None)) (sym home_is)
      (subst (λ (z : List Holder). IsInside total (pool_now sets (map (λ s. Some s) sets) z None)) (sym holders_is) (record {
        counted = counted ∙ sym (left_fresh entries);
        is_pool = fresh_pool;
      })))
