-- If a caller was told that power is off, some caller stopped it.
use Rattle.std.proofs.Common.{◌≡◌, ℕ, ◌<◌, ◌≤◌, List, length, get_or, true, false, Some, sym, ap, ◌∙◌, subst, lt_of_not-le}
use Rattle.std.specs.Prelude.{All, IsSomeAnd}
use mathlib.Core.Logic.{dite}
use native.Mathlib.Decide.{dec_le}
use Rattle.turn_lock.specs.declared.parted.Parted.{Ghosts}
use Rattle.turn_lock.specs.declared.pass.TurnPass.{TurnPass}
use Rattle.turn_lock.specs.Passes.{part_of, number_of, AreInOrder}
use Rattle.turn_lock.proofs.Places.{there}
use Rattle.turn_callers.specs.declared.desk.Mine.{Mine}
use Rattle.turn_callers.specs.declared.desk.Desk.{Desk}
use Rattle.turn_callers.specs.Power.{mine_at}
use Rattle.turn_callers.specs.Stops.{OneTold, OneStopped, NoOtherStopped}
use Rattle.turn_callers.proofs.Any.{some_of, off_if_told}

differ : true ≡ false → ⊥
differ e = cc

module _ {g : Ghosts Desk Mine} (ps : List (TurnPass Desk Mine g)) (order : AreInOrder ps) where
  pub stops : (desk first : Desk) → All (λ p. part_of p ≡ Some (mine_at desk.stopped.items desk.told.items (number_of p))) ps
      → ((q : ℕ) → length ps ≤ q → mine_at desk.stopped.items desk.told.items q ≡ mine_at first.stopped.items first.told.items q)
      → NoOtherStopped (length ps) first → OneTold ps → OneStopped ps
  stops desk first known strangers none told =
      let of_told = subst (λ x. part_of x ≡ Some (mine_at desk.stopped.items desk.told.items (number_of x))) told.3 (known told.0 told.1 told.2) in
      let was_told : get_or desk.told.items (number_of told.1) false ≡ true = subst (λ o. IsSomeAnd o (λ (m : Mine). m.told ≡ true)) of_told told.4 in
      let off = off_if_told desk.off desk.told.items (number_of told.1) desk.told_when_off was_told in
      let s = some_of desk.stopped.items (sym desk.stopped_by_one ∙ off) in
      dite (dec_le (length ps) s.0)
      (λ over. absurd (differ (sym s.1 ∙ ap (λ w. w.stopped) (strangers s.0 over) ∙ none s.0 over)))
      (λ within.
      let inside : s.0 < length ps = lt_of_not-le within in
      let p = there ps s.0 inside in
      let at = subst (λ x. part_of x ≡ Some (mine_at desk.stopped.items desk.told.items (number_of x))) p.1 (known s.0 p.0 inside) in
      let number = ap (λ x. number_of x) (sym p.1) ∙ order s.0 p.0 inside in
      let mine_is = at ∙ ap (λ (n : ℕ). Some (mine_at desk.stopped.items desk.told.items n)) number in
      (s.0, p.0, inside, p.1, subst (λ o. IsSomeAnd o (λ (m : Mine). m.stopped ≡ true)) (sym mine_is) s.1))
