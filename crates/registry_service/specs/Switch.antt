-- What an order that was cut does to what its session knows of the registry and of power.
use Rattle.std.specs.Prelude.{◌≡◌, ◌⊎◌, ℕ, false, Some}
use Rattle.turn_lock.specs.declared.parted.Parted.{Ghosts}
use Rattle.turn_lock.specs.declared.pass.TurnPass.{TurnPass}
use Rattle.turn_lock.specs.Passes.{part_of}
use Rattle.lane_pool.specs.declared.pool.PoolPart.{PoolPart}
use Rattle.lane_pool.specs.declared.sets.PowerOff.{PowerOff}
use Rattle.lane_pool.specs.declared.sets.Who.TheVariants as who
use Rattle.lane_pool.specs.Parts as pool
use Rattle.lane_pool.specs.Pools.{Now}
use Rattle.session_account.specs.declared.reply.Reply.TheVariants as reply
use Rattle.session_script.specs.declared.script.Order.{Order}
use Rattle.registry_service.specs.declared.served.OrdersPart.{OrdersPart}
use Rattle.registry_service.specs.Served.{Served}
use Rattle.registry_service.specs.Parts.{IsOrdered, PartGoes}

-- power is off on the side of the labels, after so many steps
abbrev pub labels_off : ℕ → PowerOff
labels_off steps = record { who = who.Labels; steps = steps }

-- it switched power off so, and nobody had told it that it is off; all else is as before but for what it was told
abbrev pub SwitchesOff : ℕ → PoolPart → PoolPart → Type 0
SwitchesOff steps m m' = m' ≡ record m { stop = Some (record { off = labels_off steps; told = false }); told = m'.told }

-- it was cut in its command, and power was to last for so many steps
abbrev pub IsCutAfter : ℕ → ℕ → ℕ → Order → OrdersPart → OrdersPart → Type 0
IsCutAfter steps q call o m m' = IsOrdered q call o reply.Cut m m' × (m.began.labelcut ≡ Some steps)

module _ {g : Ghosts Served OrdersPart} where
  -- power lasts for so many steps on labels, if the registry had a fuse
  abbrev pub LastsFor : ℕ → TurnPass Served OrdersPart g → Type 0
  LastsFor steps p = (m : OrdersPart) (n : ℕ) → part_of p ≡ Some m → m.began.labelcut ≡ Some n → steps ≡ n

module _ {g : Ghosts Served OrdersPart} {d : Ghosts Now PoolPart} where
  -- An order was cut. Power was off before it was made; or it was cut in its command, whose entry stands, and the session switched
  -- power off, after as many steps as the registry's fuse had.
  abbrev pub IsCutShort : ℕ → ℕ → Order → TurnPass Served OrdersPart g → TurnPass Served OrdersPart g → TurnPass Now PoolPart d → TurnPass Now PoolPart d → Type 0
  IsCutShort q call o p p' s s' =
      ((part_of p' ≡ part_of p) × pool.KeepsStopped s s')
      ⊎ ((steps : ℕ) × PartGoes (IsCutAfter steps q call o) p p' × pool.PartGoes (SwitchesOff steps) s s')
