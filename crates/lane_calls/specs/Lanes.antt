-- What a session's call does to the lane that makes it.
use Rattle.std.specs.Prelude.{◌≡◌, ◌≢◌, ◌⊎◌, ℕ, ◌+◌, ◌≤◌, List, map, Bool, true, false, Option, Some, None}
use Rattle.atomic_table.specs.Seated.{TableId}
use Rattle.turn_lock.specs.declared.parted.Parted.{Ghosts}
use Rattle.turn_lock.specs.declared.pass.TurnPass.{TurnPass}
use Rattle.turn_lock.specs.Passes.{IsOutside}
use Rattle.arena_open.specs.declared.cell.Cell.{Cell}
use Rattle.lane_core.specs.declared.history.Act.TheVariants as act
use Rattle.lane_core.specs.declared.history.Entry.{Entry}
use Rattle.lane_core.specs.Cut.{is_open}
use Rattle.lane_table.specs.declared.lanes.Kit.{Kit}
use Rattle.lane_table.specs.declared.table.Call.{Call}
use Rattle.lane_table.specs.Fuse.{of_left}
use Rattle.lane_table.specs.Kits.{IsSame, held_in}
use Rattle.lane_table.specs.Law.{noted}
use Rattle.lane_pool.specs.declared.pool.PoolPart.{PoolPart}
use Rattle.lane_pool.specs.Parts.{HasPart}
use Rattle.lane_pool.specs.Pools.{Now}

-- ---- entries

abbrev pub write_entry : ℕ → Call → List ℕ → Entry
write_entry number t words = record { lane = number; tag = t.tag; sector = t.sector; act = act.Write words }

abbrev pub read_entry : ℕ → Call → Cell → Entry
read_entry number t found = record { lane = number; tag = t.tag; sector = t.sector; act = act.Read found }

-- ---- steps

-- how many steps its seat has counted: while it holds a pass, all steps of the pass
abbrev pub steps_in : Kit → ℕ
steps_in k = k.seat.me.0.count.steps

-- of the steps that a fuse had, exactly n were made
pub record Fewer (n : ℕ) (left left' : Option ℕ) : Type 0 where
  pub fewer : (l : ℕ) → left ≡ Some l → (l' : ℕ) × (left' ≡ Some l') × (n + l' ≡ l)
  pub whole : left ≡ None → left' ≡ None

-- Exactly the steps that its seat counted went off its fuse, and these are n at least.
pub record Pays (n : ℕ) (k k' : Kit) : Type 0 where
  pub made : ℕ
  pub least : n ≤ made
  pub counted : steps_in k' ≡ steps_in k + made
  pub paid : Fewer made (of_left k.fuse) (of_left k'.fuse)

-- its fuse was set, and is spent
abbrev pub IsBurnt : Kit → Kit → Type 0
IsBurnt k k' = (of_left k.fuse ≢ None) × (of_left k'.fuse ≡ Some 0)

-- ---- the lane

-- the words that it stages or has staged
abbrev pub words_in : Kit → List ℕ
words_in k = k.seat.me.0.lane.words

-- its write is in flight: the log entry is stored, and the map entry isn't
abbrev pub is_in_flight : Kit → Bool
is_in_flight k = is_open k.seat.me.0.lane.phase

-- the same lane; its pass has no entry more, and no write of it is in flight
abbrev pub Stays : Kit → Kit → Type 0
Stays k k' = IsSame k k' × (held_in k' ≡ held_in k) × (is_in_flight k' ≡ false)

-- the same lane; its pass has this entry more
abbrev pub Adds : Entry → Kit → Kit → Type 0
Adds e k k' = IsSame k k' × (held_in k' ≡ map (noted e) (held_in k)) × (is_in_flight k' ≡ false)

-- the same lane; this write is in flight, and its pass has no entry more
abbrev pub Flies : Call → List ℕ → Kit → Kit → Type 0
Flies t words k k' =
    IsSame k k' × (held_in k' ≡ held_in k) × (is_in_flight k' ≡ true) × (k'.seat.me.0.lane.tag ≡ t.tag) × (k'.seat.me.0.lane.sector ≡ t.sector) × (words_in k' ≡ words)

-- A write that was cut, n steps of which were made before its commit: nothing of it stands; or it is in flight, and the commit made its
-- fifth step; or it stands, and the commit made its seventh.
abbrev pub IsCutIn : ℕ → Call → List ℕ → Kit → Kit → Type 0
IsCutIn n t words k k' = Stays k k' ⊎ ((Flies t words k k' × Pays (n + 5) k k') ⊎ (Adds (write_entry k.number t words) k k' × Pays (n + 7) k k'))

-- ---- asking

module _ {g : Ghosts Now PoolPart} where
  -- it may ask for the power, whether it has a set out or not
  abbrev pub MayAsk : TableId → TurnPass Now PoolPart g → Type 0
  MayAsk lock p = IsOutside lock p × HasPart (λ m. m.placed ≡ true) p
