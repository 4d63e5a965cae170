-- A lane of a core: its phase, and what its step and the beginning of a call change.
use Rattle.std.specs.Prelude.{ℕ, slice_get, Option, Some, None}
use Rattle.lane_core.specs.declared.now.LaneNow.{LaneNow}
use Rattle.lane_core.specs.declared.phase.Phase.{Phase}
use Rattle.lane_core.specs.declared.phase.Phase.TheVariants.{Idle}
use Rattle.lane_core.specs.declared.stepped.Stepped.{Stepped}
use Rattle.lane_core.specs.Held.{Held}
use Rattle.lane_core.specs.Schedules.{Step, answer_in, held_after, if_there, with_lane}

-- what a core holds after a step of a lane, and what the step answers
unfoldable pub stepped : Held → ℕ → Held
stepped held l = held_after held (Step l)

unfoldable pub answered : Held → ℕ → Stepped
answered held l = answer_in held l

abbrev pub phase_by : Option LaneNow → Phase
phase_by None = Idle
phase_by (Some p) = p.phase

-- the phase of a lane
unfoldable pub phase_at : Held → ℕ → Phase
phase_at held l = phase_by (slice_get held.lanes l)

-- only one lane changes
unfoldable pub lane_changed : Held → ℕ → (LaneNow → LaneNow) → Held
lane_changed held l change = if_there held (λ p. with_lane held l (change p)) (slice_get held.lanes l)
