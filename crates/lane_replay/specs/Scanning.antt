-- Steps that print nothing: a scan that goes round.
use Rattle.std.specs.Prelude.{◌≡◌, ℕ, ◌+◌, ◌==◌, Bool, true, false}
use Rattle.lane_core.specs.declared.phase.Phase.{Phase}
use Rattle.lane_core.specs.declared.phase.Phase.TheVariants.{Scanning, Staged}
use Rattle.lane_core.specs.Held.{Held}
use Rattle.lane_replay.specs.Lanes.{lane_changed}
use Rattle.lane_replay.specs.Steps.{steps}

abbrev pub is_scanning : Phase → Bool
is_scanning (Scanning j) = true
is_scanning _ = false

-- the first look of a scan
abbrev pub is_first_look : Phase → Bool
is_first_look (Scanning j) = j == 0
is_first_look _ = false

abbrev pub is_staged : Phase → Bool
is_staged Staged = true
is_staged _ = false

-- a lane stands in another phase, and all else is as it was
abbrev pub with_phase : Held → ℕ → Phase → Held
with_phase held l phase = lane_changed held l (λ p. record p { phase = phase })

-- this many steps of a lane lead from one to the other, and print nothing
abbrev pub Leads : ℕ → ℕ → Held → Held → Type 0
Leads k lane a b = (n : ℕ) → steps (k + n) lane false a ≡ steps n lane false b
