-- What each step asks of its caller.
use Rattle.std.specs.Prelude.{◌≡◌, ℕ, ◌<◌, ◌≤◌, true}
use Rattle.atomic_table.specs.Seated.{TableId}
use Rattle.atomic_table.specs.Table.{Me}
use Rattle.lane_core.specs.declared.phase.Phase.{Phase}
use Rattle.lane_core.specs.declared.shape.Shape.{Shape}
use Rattle.lane_core.specs.Machine.{lock_of}
use Rattle.lane_core.specs.Places.{Place, geometry, word_of, Lock}
use Rattle.lane_table.specs.declared.pieces.Mine.{Mine}
use Rattle.lane_table.specs.declared.table.View.{View}

-- a seat of this table with a lane in this phase
abbrev pub IsSeated : {S : Type 0} → Phase → TableId → TableId → Me S View → Type 0
IsSeated phase table of me = (of ≡ table) × (me.0.live ≡ true) × (me.0.lane.phase ≡ phase)

-- the word of a place in a table
abbrev pub IsWord : TableId → Shape → ℕ → Place → Type 0
IsWord table x at p = (at < table.words) × (at ≡ word_of x p)

-- there is a sector of this number, and this place is its lock's word
pub record IsLockOf (table : TableId) (x : Shape) (number place : ℕ) : Type 0 where
  pub sector : number < x.sectors
  pub at : IsWord table x place (Lock (lock_of (geometry x) number))

-- what the code knows of a lane is true of the view
pub record IsMine (m : Mine) (v : View) : Type 0 where
  pub number : v.number ≡ m.number
  pub block : v.lane.block ≡ m.block
  pub side : v.lane.side ≡ m.side
  pub seq : v.lane.half.seq ≡ m.seq
  pub two : m.side < 2
  pub written : 1 ≤ m.seq
  pub ring : m.seq ≤ 3
