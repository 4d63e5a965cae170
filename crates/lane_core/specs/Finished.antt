-- The history of a run that has ended, without its unfinished reads.
use Rattle.std.specs.Prelude.{◌≡◌, ℕ, ◌<◌, ◌≤◌, List, []}
use Rattle.lane_core.specs.Areas.{Geometry}
use Rattle.lane_core.specs.History.{Cell, Entry, IsLegal, of_lane, end_of}

-- h is legal, each lane's entries in it are those of its log, there are no others, and it leaves
-- these cells
pub record IsAccount (g : Geometry) (opening cells : ℕ → Cell) (log : ℕ → List Entry) (h : List Entry) : Type 0 where
  pub legal : IsLegal opening h
  pub each : (l : ℕ) → l < g.lanes → of_lane l h ≡ log l
  pub no_other : (l : ℕ) → g.lanes ≤ l → of_lane l h ≡ []
  pub leaves : (t : ℕ) → t < g.sectors → end_of opening h t ≡ cells t
