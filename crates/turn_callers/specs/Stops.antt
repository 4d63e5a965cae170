-- What the passes of a desk say about its callers.
use Rattle.std.specs.Prelude.{◌≡◌, ℕ, ◌≤◌, List, true, false, Any, IsSomeAnd, slice_index_or}
use Rattle.turn_lock.specs.declared.parted.Parted.{Ghosts}
use Rattle.turn_lock.specs.declared.pass.TurnPass.{TurnPass}
use Rattle.turn_lock.specs.Passes.{part_of}
use Rattle.turn_callers.specs.declared.desk.Mine.{Mine}
use Rattle.turn_callers.specs.declared.desk.Desk.{Desk}

module _ {g : Ghosts Desk Mine} where
  -- some pass says that its caller was told that power is off
  abbrev pub OneTold : List (TurnPass Desk Mine g) → Type 0
  OneTold ps = Any (λ p. IsSomeAnd (part_of p) (λ m. m.told ≡ true)) ps

  -- some pass says that its caller stopped it
  abbrev pub OneStopped : List (TurnPass Desk Mine g) → Type 0
  OneStopped ps = Any (λ p. IsSomeAnd (part_of p) (λ m. m.stopped ≡ true)) ps

-- no one but the n callers had stopped the power
abbrev pub NoOtherStopped : ℕ → Desk → Type 0
NoOtherStopped n desk = (q : ℕ) → n ≤ q → slice_index_or desk.stopped.items q false ≡ false
