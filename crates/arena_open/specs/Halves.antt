-- Halves whose numbers are within an arena.
use Rattle.std.specs.Prelude.{◌≢◌, ◌⊎◌, ℕ, ◌+◌, ◌^◌, ◌<◌, ◌≤◌, List, All}
use Rattle.flog.specs.Group.{place_of}
use Rattle.flog.specs.declared.half.Half.{Half}
use Rattle.flog.specs.declared.group.Group.{Group}

-- the sector of a move is below `external`, and its new block fits an entry
pub record IsMove (external : ℕ) (half : Half) : Type 0 where
  pub sector : half.lba < external
  pub block : half.new < 2 ^ 30

-- if a half makes a move, the move is within the arena
abbrev pub IsInRange : ℕ → Half → Type 0
IsInRange external half = half.old ≢ half.new → IsMove external half

abbrev pub AreInRange : ℕ → List Group → Type 0
AreInRange external groups = All (λ group. IsInRange external group.half) groups

abbrev pub AreMoves : ℕ → List Half → Type 0
AreMoves external halves = All (IsMove external) halves

-- a side's half, two words of the group, doesn't overlap the other side's
abbrev pub HalvesApart : ℕ → Type 0
HalvesApart side = (other : ℕ) → other < 2 → other ≢ side → (place_of side + 2 ≤ place_of other) ⊎ (place_of other + 2 ≤ place_of side)
