-- A tally, once each caller has taken its turns.
use Rattle.std.proofs.Common.{◌≡◌, ℕ, suc, ◌+◌, ◌<◌, ◌≤◌, List, [], ◌∷◌, length, get_or, Some, refl, ap, ◌∙◌, subst, arith, lt_of_not-le}
use Rattle.std.specs.Prelude.{All, IsSomeAnd, sum, replicate}
use Rattle.std.proofs.lemmas.List.{get_or_past, length-replicate}
use Rattle.std.proofs.lemmas.List.Sums.{sum_by-cons}
use mathlib.Core.Logic.{dite}
use native.Mathlib.Decide.{dec_le}
use Rattle.atomic_table.specs.Seated.{TableId}
use Rattle.turn_callers.specs.contracts.tally.TallyParted.TheImpl.{ghosts}
use Rattle.turn_lock.specs.declared.pass.TurnPass.{TurnPass}
use Rattle.turn_lock.specs.Passes.{part_of, number_of}
use Rattle.turn_lock.proofs.Places.{there}
use Rattle.turn_callers.specs.declared.tally.Quota.{Quota}
use Rattle.turn_callers.specs.declared.tally.Tally.{Tally}
use Rattle.turn_callers.specs.Counts.{quota_at}
use Rattle.turn_callers.specs.Counters.{HaveLeft}

sum_of_none : (xs : List ℕ) → ((i : ℕ) → get_or xs i 0 ≡ 0) → sum xs ≡ 0
sum_of_none [] none = refl
sum_of_none (x ∷ xs) none =
    let first : x ≡ 0 = none 0 in
    let others : sum xs ≡ 0 = sum_of_none xs (λ i. none (suc i)) in
    let both : x + sum xs ≡ 0 = omega (arith, first, others) in
    sum_by-cons (λ (n : ℕ). n) x xs ∙ both

module _ (lock : TableId) (ps : List (TurnPass Tally Quota ghosts)) (done : HaveLeft lock 0 ps) where
  -- no caller has a turn left, and there are as many turns as at first
  pub all_counted : (tally first : Tally) (callers each : ℕ) → length ps ≡ callers → first.left.items ≡ replicate callers each
      → All (λ p. part_of p ≡ Some (quota_at tally.left.items tally.all (number_of p))) ps
      → ((q : ℕ) → callers ≤ q → quota_at tally.left.items tally.all q ≡ quota_at first.left.items first.all q)
      → tally.turns ≡ first.all
  all_counted tally first callers each count left known strangers =
      let none : (i : ℕ) → get_or tally.left.items i 0 ≡ 0 = λ i. dite (dec_le callers i)
      (λ over. ap (λ s. s.left) (strangers i over) ∙ ap (λ (l : List ℕ). get_or l i 0) left ∙ get_or_past (replicate callers each) i 0 (omega (arith, length-replicate callers each)))
      (λ within.
      let inside : i < length ps = (let h = lt_of_not-le within in omega arith) in
      let p = there ps i inside in
      let d = done i p.0 inside in
      subst (λ o. IsSomeAnd o (λ (s : Quota). s.left ≡ 0)) (known i p.0 inside ∙ ap (λ (n : ℕ). Some (quota_at tally.left.items tally.all n)) d.1) d.3) in
      let all : tally.all ≡ first.all = ap (λ s. s.all) (strangers callers (omega arith)) in
      omega (arith, tally.counted, sum_of_none tally.left.items none, all)
