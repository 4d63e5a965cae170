-- What stands behind the pool's lock, and a caller's part of it.
use Rattle.std.specs.Prelude.{◌≡◌, ◌≢◌, ◌⊎◌, ℕ, ◌<◌, ◌≤◌, nat_lt, false, List, length, map, sum_by, slice_index_or, Option, Some, None}
use Rattle.lane_pool.specs.declared.holders.Hand.{Hand}
use Rattle.lane_pool.specs.declared.holders.Hand.TheVariants as hand
use Rattle.lane_pool.specs.declared.holders.Holder.{Holder}
use Rattle.lane_pool.specs.declared.holders.Stop.{Stop}
use Rattle.lane_pool.specs.declared.pool.PoolPart.{PoolPart}
use Rattle.lane_pool.specs.declared.sets.LaneSet.{LaneSet}
use Rattle.lane_pool.specs.declared.sets.PowerOff.{PowerOff}
use Rattle.lane_pool.specs.Sets.{IsAtPlace, IsReady}

-- the sets with which the pool began, the sets that are at home, the callers, and whether power is off
pub record Now : Type 0 where
  pub first : List LaneSet
  pub sets : List (Option LaneSet)
  pub holders : List Holder
  pub off : Option PowerOff

abbrev pub pool_now : List LaneSet → List (Option LaneSet) → List Holder → Option PowerOff → Now
pool_now first sets holders off = record { first = first; sets = sets; holders = holders; off = off }

-- ---- lookups

-- what stands for a caller that there isn't
abbrev pub nobody : Holder
nobody = record { left = 0; hand = hand.Empty; stop = None; told = None }

abbrev pub holder_at : List Holder → ℕ → Holder
holder_at holders q = slice_index_or holders q nobody

-- the set that is at home at a place
abbrev pub set_at : List (Option LaneSet) → ℕ → Option LaneSet
set_at sets i = slice_index_or sets i None

-- the calls that all callers may still make
abbrev pub left_of : Holder → ℕ
left_of h = h.left

abbrev pub left_in : List Holder → ℕ
left_in holders = sum_by left_of holders

-- no caller has a set out
abbrev pub NobodyOut : List Holder → Type 0
NobodyOut holders = (q at room : ℕ) → (holder_at holders q).hand ≡ hand.Out at room → ⊥

-- ---- what the lock keeps

-- a caller has to do with the set at a place: it has it out, or handed it to `stop`
abbrev pub Has : Hand → ℕ → Type 0
Has hand.Empty i = ⊥
Has (hand.Out at room) i = at ≡ i
Has (hand.Stopped at) i = at ≡ i

pub record IsPool (v : Now) : Type 0 where
  -- a place for each set
  pub count : length v.sets ≡ length v.first
  -- a set at home is the one of its place; its lanes are ready for all calls that callers may still make, or it was handed to `stop`
  pub home : (i : ℕ) (s : LaneSet) → set_at v.sets i ≡ Some s → IsAtPlace v.first i s
  pub ready : (i : ℕ) (s : LaneSet) → set_at v.sets i ≡ Some s → IsReady (left_in v.holders) s ⊎ ((q : ℕ) × ((holder_at v.holders q).hand ≡ hand.Stopped i))
  -- one that isn't is with a caller
  pub away : (i : ℕ) → i < length v.sets → set_at v.sets i ≡ None → (q : ℕ) × (room : ℕ) × ((holder_at v.holders q).hand ≡ hand.Out i room)
  -- what a caller has out isn't at home, and had room for all calls that callers may still make
  pub out : (q i room : ℕ) → (holder_at v.holders q).hand ≡ hand.Out i room → (i < length v.sets) × (set_at v.sets i ≡ None) × (left_in v.holders ≤ room)
  -- what a caller handed to `stop` is at home, and power is off
  pub stopped : (q i : ℕ) → (holder_at v.holders q).hand ≡ hand.Stopped i → (v.off ≢ None) × ((s : LaneSet) × (set_at v.sets i ≡ Some s))
  -- no two callers have to do with one set
  pub one : (q r i : ℕ) → Has (holder_at v.holders q).hand i → Has (holder_at v.holders r).hand i → q ≡ r
  -- power is off only if some caller said so that hadn't been told so
  pub by_one : (p : PowerOff) → v.off ≡ Some p → (q : ℕ) × ((holder_at v.holders q).stop ≡ Some (record { off = p; told = false }))
  -- a caller was told no other `PowerOff` than this
  pub told : (q : ℕ) (p : PowerOff) → (holder_at v.holders q).told ≡ Some p → v.off ≡ Some p
  pub stops : (q : ℕ) (s : Stop) → (holder_at v.holders q).stop ≡ Some s → v.off ≢ None

-- and the count of these calls is kept
pub record IsInside (total : ℕ) (v : Now) : Type 0 where
  pub counted : total ≡ left_in v.holders
  pub is_pool : IsPool v

-- ---- a caller's part

abbrev pub handed_in : List (Option LaneSet) → Hand → Option LaneSet
handed_in sets hand.Empty = None
handed_in sets (hand.Out at room) = None
handed_in sets (hand.Stopped at) = set_at sets at

abbrev pub part_of_caller : Now → ℕ → Holder → PoolPart
part_of_caller v q h = record { first = v.first; placed = nat_lt q (length v.holders); left = h.left; hand = h.hand; handed = handed_in v.sets h.hand; stop = h.stop; told = h.told }

abbrev pub part_at : Now → ℕ → PoolPart
part_at v q = part_of_caller v q (holder_at v.holders q)

-- ---- a new pool

abbrev pub new_holder : ℕ → Holder
new_holder entries = record { left = entries; hand = hand.Empty; stop = None; told = None }

-- nobody did anything, and caller q may make so many calls
abbrev pub fresh : List LaneSet → List ℕ → Now
fresh sets entries = record { first = sets; sets = map (λ s. Some s) sets; holders = map new_holder entries; off = None }
