-- What a caller's pass of the power switch knows.
use Rattle.std.specs.Prelude.{◌≡◌, true, Some}
use Rattle.atomic_table.specs.Seated.{TableId}
use Rattle.turn_lock.specs.declared.parted.Parted.{Ghosts}
use Rattle.turn_lock.specs.declared.pass.TurnPass.{TurnPass}
use Rattle.turn_lock.specs.Passes.{part_of, IsOutside}
use Rattle.turn_callers.specs.declared.desk.Mine.{Mine}
use Rattle.turn_callers.specs.declared.desk.Desk.{Desk}

module _ {g : Ghosts Desk Mine} where
  -- it may ask: it is a pass of this lock without the turn, and the switch has a place for its caller
  abbrev pub CanAsk : TableId → TurnPass Desk Mine g → Type 0
  CanAsk lock p = IsOutside lock p × ((w : Mine) × (part_of p ≡ Some w) × (w.placed ≡ true))

  -- it was told that power is off
  abbrev pub IsTold : TurnPass Desk Mine g → Type 0
  IsTold p = (w : Mine) × (part_of p ≡ Some w) × (w.told ≡ true)

  -- its caller switched power off, or not, as before
  abbrev pub KeepsStopped : TurnPass Desk Mine g → TurnPass Desk Mine g → Type 0
  KeepsStopped p p' = (w : Mine) → part_of p ≡ Some w → (w' : Mine) × (part_of p' ≡ Some w') × (w'.stopped ≡ w.stopped)

  -- its caller switched power off
  abbrev pub HasStopped : TurnPass Desk Mine g → Type 0
  HasStopped p = (w : Mine) × (part_of p ≡ Some w) × (w.stopped ≡ true)
