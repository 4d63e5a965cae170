-- The states after a power cut, and the map that opening recovers from them.
use Rattle.std.specs.Prelude.{◌≡◌, ℕ, ◌+◌, ◌*◌, ◌<◌, ◌≢◌, ◌==◌, ◌&&◌, not, ◌⊎◌, if◌then◌else◌, zero, suc, Bool, true, false}
use Rattle.lane_core.specs.Areas.{Geometry, blocks_of, Areas, Half, half_in, seq_in, IsNewer, mapped, entry_at, block_in, normal}
use Rattle.lane_core.specs.History.{Cell, end_of, cell_in}
use Rattle.lane_core.specs.Machine.{State, Phase, LogBStored, Logged, other}
use Rattle.lane_core.specs.Invariant.{Sized}
use Rattle.arena_open.specs.declared.cell.Cell.TheVariants as cell

-- each word of the arena by itself is the kept one or the seen one
pub record AreLeft (g : Geometry) (seen kept left : Areas) : Type 0 where
  pub data_left : (b k : ℕ) → b < blocks_of g → k < g.width → (left.data_at b k ≡ kept.data_at b k) ⊎ (left.data_at b k ≡ seen.data_at b k)
  pub map_left : (m : ℕ) → 2 * m < g.sectors → (left.map_at m ≡ kept.map_at m) ⊎ (left.map_at m ≡ seen.map_at m)
  pub a_left : (l side : ℕ) → l < g.lanes → side < 2 → (left.log_a l side ≡ kept.log_a l side) ⊎ (left.log_a l side ≡ seen.log_a l side)
  pub b_left : (l side : ℕ) → l < g.lanes → side < 2 → (left.log_b l side ≡ kept.log_b l side) ⊎ (left.log_b l side ≡ seen.log_b l side)

-- the side of a lane's group whose half is the newer
pub record IsCurrent (areas : Areas) (l side : ℕ) : Type 0 where
  pub two : side < 2
  pub newer : IsNewer (seq_in (areas.log_b l side)) (seq_in (areas.log_b l (other side)))

abbrev pub half_at : Areas → ℕ → ℕ → Half
half_at areas l side = half_in (areas.log_a l side) (areas.log_b l side)

abbrev pub is_pending : Areas → Half → Bool
is_pending areas half = not (half.old == half.new) && (mapped areas.map_at half.lba == half.old)

-- The entry of sector t with the pending moves of the first n lanes made. If two lanes have one,
-- the greater lane's counts
unfoldable pub recovered_entry : Areas → (ℕ → ℕ) → ℕ → ℕ → ℕ
recovered_entry areas sides zero t = entry_at areas.map_at t
recovered_entry areas sides (suc l) t = if is_pending areas (half_at areas l (sides l)) && ((half_at areas l (sides l)).lba == t) then normal (half_at areas l (sides l)).new else recovered_entry areas sides l t

-- the sectors and the lanes name each block once
pub record EachOnce (g : Geometry) (of_sector of_lane : ℕ → ℕ) : Type 0 where
  pub sector_in : (s : ℕ) → s < g.sectors → of_sector s < g.sectors + g.lanes
  pub lane_in : (l : ℕ) → l < g.lanes → of_lane l < g.sectors + g.lanes
  pub sector_once : (s t : ℕ) → s < g.sectors → t < g.sectors → of_sector s ≡ of_sector t → s ≡ t
  pub lane_once : (l m : ℕ) → l < g.lanes → m < g.lanes → of_lane l ≡ of_lane m → l ≡ m
  pub apart : (s l : ℕ) → s < g.sectors → l < g.lanes → of_sector s ≢ of_lane l

-- the write's log entry was stored, and its map entry wasn't
abbrev pub is_open : Phase → Bool
is_open LogBStored = true
is_open Logged = true
is_open _ = false

-- the cell is the one at the end of the history, or that of a write in flight
abbrev pub Survives : Geometry → (ℕ → Cell) → State → ℕ → Cell → Type 0
Survives g opening s t c = (c ≡ end_of opening s.history t) ⊎ ((l : ℕ) × (l < g.lanes) × (is_open (s.lanes l).phase ≡ true) × ((s.lanes l).sector ≡ t) × (c ≡ cell.Bytes (s.lanes l).words))

pub record IsRecoverable (g : Geometry) (opening : ℕ → Cell) (s : State) (left : Areas) (sides : ℕ → ℕ) : Type 0 where
  pub sized : (l : ℕ) → l < g.lanes → Sized g (half_at left l (sides l))
  pub sound : EachOnce g (λ t. block_in (recovered_entry left sides g.lanes t) t) (λ l. (half_at left l (sides l)).old)
  pub contents : (t : ℕ) → t < g.sectors → Survives g opening s t (cell_in g.width left.data_at (recovered_entry left sides g.lanes t) t)
