-- An idle lane of a core becomes what a call makes of it.
use Rattle.std.proofs.Common.{◌≡◌, ℕ, get_or, slice_get, slice_set, Some, sym, ap, ◌∙◌}
use Rattle.std.proofs.lemmas.Option.{slice_get_within}
use Rattle.lane_core.specs.declared.machine.Core.{Core}
use Rattle.lane_core.specs.declared.now.LaneNow.{LaneNow}
use Rattle.lane_core.specs.declared.phase.Phase.TheVariants.{Idle}
use Rattle.lane_core.specs.Begins.{IsIdleLane}
use Rattle.lane_core.proofs.Stepping.{lane_there, there_is}

-- the lane was read out of the core
module _ (core : Core) (lane : ℕ) (mine : LaneNow) (rests : IsIdleLane core lane) (value : mine ≡ get_or core.lanes.items lane mine) where
  pub here : slice_get core.lanes.items lane ≡ Some mine
  here = lane_there core.lanes.items lane mine (slice_get_within core.lanes.items lane rests.0 rests.1) value

  pub idle : mine.phase ≡ Idle
  idle = ap (λ (p : LaneNow). p.phase) (there_is (sym here ∙ rests.1)) ∙ rests.2

  pub became : (f : LaneNow → LaneNow) (q : LaneNow) → q ≡ f mine → (r : LaneNow) → slice_get core.lanes.items lane ≡ Some r → slice_set core.lanes.items lane q ≡ slice_set core.lanes.items lane (f r)
  became f q is r at = ap (λ q. slice_set core.lanes.items lane q) (is ∙ ap f (there_is (sym here ∙ at)))
