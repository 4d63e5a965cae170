-- A scan that goes round: each look changes the lane's phase alone.
use Rattle.std.proofs.Common.{◌≡◌, ℕ, ◌+◌, ◌%◌, true, false, slice_get, slice_set, Some, refl, sym, ap, ◌∙◌, subst}
use Rattle.std.proofs.lemmas.Bool.{eqb-true}
use Rattle.std.proofs.lemmas.List.{set-set}
use Rattle.std.proofs.lemmas.Option.{slice_get_within}
use Rattle.lane_core.specs.declared.now.LaneNow.{LaneNow}
use Rattle.lane_core.specs.declared.phase.Phase.{Phase}
use Rattle.lane_core.specs.declared.phase.Phase.TheVariants.{Scanning, Staged}
use Rattle.lane_core.specs.declared.stepped.Step.TheVariants as step
use Rattle.lane_core.specs.declared.stepped.Stepped.TheVariants as told
use Rattle.lane_core.specs.Lines.{scanned, word_at}
use Rattle.lane_core.specs.Machine.{other_lane}
use Rattle.lane_core.specs.Places.{Reader}
use Rattle.lane_core.proofs.Put.{never}
use Rattle.lane_core.specs.Held.{Held}
use Rattle.lane_core.specs.Schedules.{with_lane}
use Rattle.lane_replay.specs.Lanes.{answered, phase_at, stepped}
use Rattle.lane_replay.specs.Steps.{steps}
use Rattle.lane_replay.specs.Scanning.{Leads, is_first_look, is_scanning, is_staged, with_phase}
use Rattle.lane_replay.proofs.LaneLists.{get_set, set_same}
use Rattle.lane_replay.proofs.OneStep.{answer_there, changed_there, held_from, phase_there, same_lanes, stepped_there}
use Rattle.lane_replay.proofs.ManySteps.{leads_more, leads_none, rest_of_rounds}

pub first_is : (phase : Phase) → is_first_look phase ≡ true → phase ≡ Scanning 0
first_is (Scanning j) e = ap Scanning (eqb-true j 0 e)
first_is _ e = never e

pub scanning_is : (phase : Phase) → is_scanning phase ≡ true → (j : ℕ) × (phase ≡ Scanning j)
scanning_is (Scanning j) e = (j, refl)
scanning_is _ e = never e

pub staged_is : (phase : Phase) → is_staged phase ≡ true → phase ≡ Staged
staged_is Staged e = refl
staged_is _ e = never e

-- a scan that made so many looks, from its first on, is at this look
pub record IsAt (first now : Held) (l made : ℕ) : Type 0 where
  pub leads : Leads made l first now
  pub look : ℕ
  pub is : now ≡ with_phase first l (Scanning look)

-- so many looks of a scan lead here
pub record Looked (first next : Held) (l made : ℕ) : Type 0 where
  pub leads : Leads made l first next
  pub phase : Phase
  pub is : next ≡ with_phase first l phase

module _ (first : Held) (l : ℕ) (p : LaneNow) (at : slice_get first.lanes l ≡ Some p) where
  -- the phase after a look at the j-th other lane
  abbrev next_of : ℕ → Phase
  next_of j = scanned first.shape (word_at first.shape first.row (Reader (other_lane l j))) p.block j

  -- the lane in another phase
  abbrev in_phase : Phase → LaneNow
  in_phase phase = record p { phase = phase }

  phase_set : (phase : Phase) → with_phase first l phase ≡ with_lane first l (in_phase phase)
  phase_set phase = changed_there first l p at (λ p. record p { phase = phase })

  there : (phase : Phase) → slice_get (with_lane first l (in_phase phase)).lanes l ≡ Some (in_phase phase)
  there phase = get_set first.lanes l (in_phase phase) (slice_get_within first.lanes l p at)

  pub phase_is : (phase : Phase) → phase_at (with_phase first l phase) l ≡ phase
  phase_is phase = ap (λ h. phase_at h l) (phase_set phase) ∙ phase_there (with_lane first l (in_phase phase)) l (in_phase phase) (there phase)

  look_answers : (j : ℕ) → answered (with_phase first l (Scanning j)) l ≡ told.Went step.RttScan
  look_answers j = ap (λ h. answered h l) (phase_set (Scanning j)) ∙ answer_there (with_lane first l (in_phase (Scanning j))) l (in_phase (Scanning j)) (there (Scanning j))

  look_leads : (j : ℕ) → stepped (with_phase first l (Scanning j)) l ≡ with_phase first l (next_of j)
  look_leads j =
      ap (λ h. stepped h l) (phase_set (Scanning j)) ∙ stepped_there (with_lane first l (in_phase (Scanning j))) l (in_phase (Scanning j)) (there (Scanning j))
      ∙ ap (λ lanes. held_from first.shape first.row lanes first.entries) (set-set first.lanes l (in_phase (Scanning j)) (in_phase (next_of j))) ∙ sym (phase_set (next_of j))

  -- in its own phase it is as it was
  phase_same : (phase : Phase) → p.phase ≡ phase → with_phase first l phase ≡ first
  phase_same phase e = phase_set phase ∙ ap (λ ph. with_lane first l (in_phase ph)) (sym e) ∙ same_lanes first (slice_set first.lanes l p) (set_same first.lanes l p at)

  pub begins_at : is_first_look (phase_at first l) ≡ true → IsAt first first l 0
  begins_at was = record {
    leads = leads_none l first;
    look = 0;
    is = sym (phase_same (Scanning 0) (first_is p.phase (ap is_first_look (sym (phase_there first l p at)) ∙ was)));
  }

  -- after one look more
  pub looked : (made : ℕ) (now next : Held) → IsAt first now l made → next ≡ stepped now l → Looked first next l (made + 1)
  looked made now next h stepping =
      let answer : answered now l ≡ told.Went step.RttScan = ap (λ h. answered h l) h.is ∙ look_answers h.look in
      record {
        leads = subst (λ b. Leads (made + 1) l first b) (sym stepping) (leads_more made l first now step.RttScan h.leads answer);
        phase = next_of h.look;
        is = stepping ∙ ap (λ h. stepped h l) h.is ∙ look_leads h.look;
      }

  phase_found : (next : Held) (k : ℕ) (h : Looked first next l k) → phase_at next l ≡ h.phase
  phase_found next k h = ap (λ h. phase_at h l) h.is ∙ phase_is h.phase

  -- it goes on
  pub goes_on : (next : Held) (k : ℕ) → Looked first next l k → is_scanning (phase_at next l) ≡ true → IsAt first next l k
  goes_on next k h scans =
      let j = scanning_is h.phase (ap is_scanning (sym (phase_found next k h)) ∙ scans) in
      record { leads = h.leads; look = j.0; is = h.is ∙ ap (with_phase first l) j.1 }

  -- it is back at its first look
  pub goes_round : (next : Held) (k rest left : ℕ) → is_first_look (phase_at first l) ≡ true → Looked first next l k → is_first_look (phase_at next l) ≡ true → left ≡ k + rest
      → steps (rest % k) l false next ≡ steps left l false first
  goes_round next k rest left was h again count =
      let began : p.phase ≡ Scanning 0 = first_is p.phase (ap is_first_look (sym (phase_there first l p at)) ∙ was) in
      let back : h.phase ≡ Scanning 0 = first_is h.phase (ap is_first_look (sym (phase_found next k h)) ∙ again) in
      let same : next ≡ first = h.is ∙ phase_same h.phase (began ∙ sym back) in
      let round : Leads k l first first = subst (λ b. Leads k l first b) same h.leads in
      ap (steps (rest % k) l false) same ∙ rest_of_rounds k l rest first round ∙ sym (round rest) ∙ ap (λ n. steps n l false first) (sym count)

  -- it has found no reader of its block
  pub goes_out : (next : Held) (k rest left : ℕ) → Looked first next l k → left ≡ k + rest → steps rest l false next ≡ steps left l false first
  goes_out next k rest left h count = sym (h.leads rest) ∙ ap (λ n. steps n l false first) (sym count)
