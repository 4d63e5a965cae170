-- The passes of a pool's callers, before and after their turns.
use Rattle.std.specs.Prelude.{◌≡◌, ℕ, ◌<◌, ◌≤◌, true, List, length, None, slice_index_or}
use Rattle.atomic_table.specs.Seated.{TableId}
use Rattle.turn_lock.specs.declared.parted.Parted.{Ghosts}
use Rattle.turn_lock.specs.declared.pass.TurnPass.{TurnPass}
use Rattle.turn_lock.specs.Passes.{lock_of, number_of, out_of}
use Rattle.lane_pool.specs.declared.holders.Hand.TheVariants as hand
use Rattle.lane_pool.specs.declared.pool.PoolPart.{PoolPart}
use Rattle.lane_pool.specs.Parts.{HasNoneOut, HasPart}
use Rattle.lane_pool.specs.Pools.{Now}

-- it has no set out, and may make so many calls
pub record HasTurns (n : ℕ) (m : PoolPart) : Type 0 where
  pub placed : m.placed ≡ true
  pub free : m.hand ≡ hand.Empty
  pub left : n ≤ m.left

-- it has a place, and no set out
pub record HasPlace (m : PoolPart) : Type 0 where
  pub placed : m.placed ≡ true
  pub none_out : HasNoneOut m

module _ {g : Ghosts Now PoolPart} where
  -- the pass of caller q, outside, whose part is such
  pub record IsOf (lock : TableId) (P : PoolPart → Type 0) (q : ℕ) (p : TurnPass Now PoolPart g) : Type 0 where
    pub at : lock_of p ≡ lock
    pub number : number_of p ≡ q
    pub outside : out_of p ≡ None
    pub part : HasPart P p

  abbrev pub AreOf : TableId → (PoolPart → Type 0) → List (TurnPass Now PoolPart g) → Type 0
  AreOf lock P ps = (q : ℕ) (p : TurnPass Now PoolPart g) → q < length ps → IsOf lock P q (slice_index_or ps q p)
