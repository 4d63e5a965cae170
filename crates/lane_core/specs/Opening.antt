-- An arena that was just opened.
use Rattle.std.specs.Prelude.{ℕ, ◌+◌, ◌*◌, ◌^◌, ◌<◌, ◌==◌, if◌then◌else◌, []}
use Rattle.lane_core.specs.Areas.{Geometry, IsGeometry, Areas, mapped, word_a, word_b}
use Rattle.lane_core.specs.Machine.{State, Lane, Idle}
use Rattle.lane_core.specs.Invariant.{Sized}
use Rattle.lane_core.specs.Cut.{IsCurrent, half_at, EachOnce}

abbrev pub opened_lane : Areas → ℕ → ℕ → Lane
opened_lane areas l side = record {
  block = (half_at areas l side).old;
  side = side;
  half = half_at areas l side;
  phase = Idle;
  tag = record { session = 0; call = 0 };
  sector = 0;
  words = [];
  loaded = 0;
  got = [];
  log = [];
}

abbrev pub opened : Areas → (ℕ → ℕ) → State
opened areas sides = record {
  seen = areas;
  kept = areas;
  readers = λ l. 0;
  locks = λ k. 0;
  lanes = λ l. opened_lane areas l (sides l);
  history = [];
}

-- what opening has checked
pub record IsOpen (g : Geometry) (areas : Areas) (sides : ℕ → ℕ) : Type 0 where
  pub geometry : IsGeometry g
  pub current : (l : ℕ) → l < g.lanes → IsCurrent areas l (sides l)
  pub sized : (l : ℕ) → l < g.lanes → Sized g (half_at areas l (sides l))
  pub once : EachOnce g (mapped areas.map_at) (λ l. (half_at areas l (sides l)).old)

-- a new arena: each entry is zero, with the sector's own block, and each lane has a block behind
-- those
abbrev pub formatted : Geometry → Areas
formatted g = record {
  data_at = λ b k. 0;
  map_at = λ m. (2 ^ 31 + 2 * m + 1) * 2 ^ 32 + (2 ^ 31 + 2 * m);
  log_a = λ l side. if side == 0 then word_a l (g.sectors + l) else 0;
  log_b = λ l side. if side == 0 then word_b (g.sectors + l) 1 else 0;
}
