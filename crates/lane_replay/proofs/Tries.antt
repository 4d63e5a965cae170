-- A staged write tries its lock.
use Rattle.std.proofs.Common.{◌≡◌, ℕ, suc, Bool, true, false, if◌then◌else◌, slice_get, slice_set, Some, sym, ap, ◌∙◌, subst}
use Rattle.std.proofs.lemmas.Option.{slice_get_within}
use Rattle.lane_core.specs.declared.now.LaneNow.{LaneNow}
use Rattle.lane_core.specs.declared.phase.Phase.TheVariants.{Staged, Locked}
use Rattle.lane_core.specs.declared.stepped.Step.TheVariants as step
use Rattle.lane_core.specs.declared.stepped.Stepped.TheVariants as told
use Rattle.lane_core.specs.After.{answer_after, is_free, lock_wanted}
use Rattle.lane_core.specs.Places.{Lock, word_of}
use Rattle.lane_core.specs.Rows.{put_in}
use Rattle.lane_core.proofs.Put.{never}
use Rattle.lane_core.specs.Held.{Held}
use Rattle.lane_replay.specs.Lanes.{answered, phase_at, stepped}
use Rattle.lane_replay.specs.Steps.{steps}
use Rattle.lane_replay.specs.Scanning.{Leads, is_staged}
use Rattle.lane_replay.proofs.LaneLists.{get_set, set_same}
use Rattle.lane_replay.proofs.OneStep.{answer_there, held_from, phase_there, same_lanes, step_in, stepped_there}
use Rattle.lane_replay.proofs.ManySteps.{leads_more, leads_none, stays, went_on}
use Rattle.lane_replay.proofs.Rounds.{staged_is}

module _ (held : Held) (l : ℕ) (p : LaneNow) (at : slice_get held.lanes l ≡ Some p) where
  abbrev taken : Bool → LaneNow
  taken free = if free then record p { phase = Locked; tag = p.next; sector = p.next_sector } else p

  -- what is held after the try, whether the lock was free or not
  abbrev tried : Bool → Held
  tried free = held_from held.shape (if free then put_in held.row (word_of held.shape (Lock (lock_wanted held.shape l held.row p))) (suc l) else held.row) (slice_set held.lanes l (taken free)) held.entries

  unmoved : (free : Bool) → is_staged (phase_at (tried free) l) ≡ true → tried free ≡ held
  unmoved true e = never (ap is_staged (sym (phase_there (tried true) l (taken true) (get_set held.lanes l (taken true) (slice_get_within held.lanes l p at)))) ∙ e)
  unmoved false e = same_lanes held (slice_set held.lanes l p) (set_same held.lanes l p at)

  tries : p.phase ≡ Staged → stepped held l ≡ tried (is_free held.shape l held.row p)
  tries staged = stepped_there held l p at ∙ ap (step_in held l p) staged

  asks : p.phase ≡ Staged → answered held l ≡ told.Went step.LockTake
  asks staged = answer_there held l p at ∙ ap (λ phase. answer_after held.shape l held.row p phase) staged

  phase_was : is_staged (phase_at held l) ≡ true → p.phase ≡ Staged
  phase_was e = staged_is p.phase (ap is_staged (sym (phase_there held l p at)) ∙ e)

  -- another lane has the lock
  pub waits : (n : ℕ) (new : Held) → is_staged (phase_at held l) ≡ true → new ≡ stepped held l → is_staged (phase_at new l) ≡ true → steps 0 l false new ≡ steps n l false held
  waits n new was is still =
      let staged = phase_was was in
      let same : stepped held l ≡ held = tries staged ∙ unmoved (is_free held.shape l held.row p) (ap (λ h. is_staged (phase_at h l)) (sym (is ∙ tries staged)) ∙ still) in
      let lead : Leads 1 l held held = subst (λ b. Leads 1 l held b) same (leads_more 0 l held held step.LockTake (leads_none l held) (asks staged)) in
      ap (steps 0 l false) (is ∙ same) ∙ stays l n held lead

  pub takes : (n m : ℕ) (new : Held) → is_staged (phase_at held l) ≡ true → new ≡ stepped held l → n ≡ suc m → steps m l false new ≡ steps n l false held
  takes n m new was is count =
      ap (steps m l false) is ∙ sym (went_on m l held step.LockTake (asks (phase_was was))) ∙ ap (λ k. steps k l false held) (sym count)
