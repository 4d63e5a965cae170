-- Calls that begin in a core, and calls that are refused.
use Rattle.std.proofs.Common.{◌≡◌, ◌⊎◌, ℕ, Bool, true, false, if◌then◌else◌, List, slice_get, slice_set, Option, Some, None, Result, Ok, Err, refl, sym, ap, ◌∙◌, subst, inl, inr}
use Rattle.nvd_words.specs.declared.tag.Tag.{Tag}
use Rattle.lane_core.specs.declared.call.Begun.{Begun}
use Rattle.lane_core.specs.declared.call.Begun.TheVariants as told
use Rattle.lane_core.specs.declared.call.Call.{Call}
use Rattle.lane_core.specs.declared.call.Call.TheVariants as call
use Rattle.lane_core.specs.declared.machine.Core.{Core}
use Rattle.lane_core.specs.declared.now.LaneNow.{LaneNow}
use Rattle.lane_core.specs.declared.phase.Phase.{Phase}
use Rattle.lane_core.specs.Begins.{BusyExactly, CallBegins, KeepsRest, is_idle, write_begun}
use Rattle.session_script.specs.declared.payload.Payload.{Payload}
use Rattle.lane_replay.specs.declared.refused.Refused.{Refused}
use Rattle.lane_replay.specs.declared.refused.Refused.TheVariants as refused
use Rattle.lane_core.specs.Held.{Held, held_by}
use Rattle.lane_core.specs.Schedules.{with_lane}
use Rattle.lane_replay.specs.Lanes.{phase_at}
use Rattle.lane_replay.specs.Calls.{Begins, busy, called, held_unless, or_else}
use Rattle.lane_replay.proofs.OneStep.{changed_there, phase_there, same_held}

-- ---- a call begins

rest_held : (old new : Core) (l : ℕ) (p q : LaneNow) → KeepsRest old new → new.lanes.items ≡ slice_set old.lanes.items l q → held_by new ≡ with_lane (held_by old) l q
rest_held old new l p q rest lanes = same_held rest.shape rest.row lanes rest.entries

begun_held : (old new : Core) (l : ℕ) (tag : Tag) (c : Call) (p : LaneNow) → slice_get old.lanes.items l ≡ Some p → CallBegins old new l tag c → held_by new ≡ with_lane (held_by old) l (called old.shape tag c p)
begun_held old new l tag (call.Read sector) p at h = rest_held old new l p (called old.shape tag (call.Read sector) p) h.rest (h.lanes p at)
begun_held old new l tag (call.Write sector words) p at h = rest_held old new l p (called old.shape tag (call.Write sector words) p) h.rest (h.lanes p at)

abbrev busy_if : Phase → Bool → Option Refused
busy_if phase idle = if idle then None else Some (refused.LaneBusy phase)

busy_none : (phase : Phase) → is_idle phase ≡ true → None ≡ busy phase
busy_none phase e = ap (busy_if phase) (sym e)

busy_some : (phase : Phase) → is_idle phase ≡ false → Some (refused.LaneBusy phase) ≡ busy phase
busy_some phase e = ap (busy_if phase) (sym e)

-- what `begin` answers
abbrev began : Result (Unit {0}) Begun
began = Ok tt

abbrev busy_in : Phase → Result (Unit {0}) Begun
busy_in phase = Err (told.LaneBusy phase)

abbrev no_memory : Result (Unit {0}) Begun
no_memory = Err told.OutOfMemory

-- it says whether the lane is idle
idle_if_ok : (b : Bool) (phase : Phase) → (b ≡ false → began ≡ busy_in phase) → b ≡ true
idle_if_ok true phase h = refl
idle_if_ok false phase h = let e : began ≡ busy_in phase = h refl in cc

pub begins_ok : (old new : Core) (l : ℕ) (tag : Tag) (c : Call) (p : LaneNow) → slice_get old.lanes.items l ≡ Some p → BusyExactly old l began → CallBegins old new l tag c
    → Begins (held_by old) l (called old.shape tag c) (busy (phase_at (held_by old) l)) None (held_by new)
begins_ok old new l tag c p at exactly h =
    let idle : is_idle p.phase ≡ true = idle_if_ok (is_idle p.phase) p.phase (exactly p at).0 in
    let none : None ≡ busy (phase_at (held_by old) l) = busy_none p.phase idle ∙ ap busy (sym (phase_there (held_by old) l p at)) in
    record {
      same = none;
      held = begun_held old new l tag c p at h ∙ sym (changed_there (held_by old) l p at (called old.shape tag c)) ∙ ap (held_unless (held_by old) l (called old.shape tag c)) none;
    }

busy_phase : (b : Bool) (phase other : Phase) → (b ≡ false → busy_in other ≡ busy_in phase) → (b ≡ true → (busy_in other ≡ began) ⊎ (busy_in other ≡ no_memory)) → (b ≡ false) × (other ≡ phase)
busy_phase false phase other h k = (refl, (let e : busy_in other ≡ busy_in phase = h refl in cc))
busy_phase true phase other h k = elim (k refl) [ inl e ↦ absurd cc | inr e ↦ absurd cc ]

abbrev refused_by : Begun → Result (Unit {0}) Begun
refused_by why = Err why

pub begins_busy : (old new : Core) (l : ℕ) (tag : Tag) (c : Call) (p : LaneNow) (why : Begun) (phase : Phase) → slice_get old.lanes.items l ≡ Some p → why ≡ told.LaneBusy phase → BusyExactly old l (refused_by why) → new ≡ old
    → Begins (held_by old) l (called old.shape tag c) (busy (phase_at (held_by old) l)) (Some (refused.LaneBusy phase)) (held_by new)
begins_busy old new l tag c p why phase at e exactly same =
    let both = (subst (λ w. BusyExactly old l (refused_by w)) e exactly) p at in
    let is = busy_phase (is_idle p.phase) p.phase phase both.0 both.1 in
    let some : Some (refused.LaneBusy phase) ≡ busy (phase_at (held_by old) l) =
    ap (λ ph. Some (refused.LaneBusy ph)) is.1 ∙ busy_some p.phase is.0 ∙ ap busy (sym (phase_there (held_by old) l p at)) in
    record { same = some; held = ap held_by same ∙ ap (held_unless (held_by old) l (called old.shape tag c)) some }

-- ---- refusals before it

module _ (held new : Held) (l : ℕ) (change : LaneNow → LaneNow) (why : Option Refused) where
  -- the first reason decides
  pub refused_first : (first due : Option Refused) (reason : Refused) → Some reason ≡ first → new ≡ held → Begins held l change (or_else first due) (Some reason) new
  refused_first first due reason e same = subst (λ o. Begins held l change (or_else o due) (Some reason) new) e (record { same = refl; held = same })

  -- without it the others do
  pub refused_next : (first due : Option Refused) → None ≡ first → Begins held l change due why new → Begins held l change (or_else first due) why new
  refused_next first due e h = subst (λ o. Begins held l change (or_else o due) why new) e h

-- the words of a value are the bytes that it states
pub same_words : (held new : Held) (l : ℕ) (due why : Option Refused) (tag : Tag) (sector : ℕ) (value : Payload) (words bytes : List ℕ) → words ≡ bytes
    → Begins held l (λ p. write_begun held.shape p tag sector words) due why new → Begins held l (λ p. write_begun held.shape p tag sector bytes) due why new
same_words held new l due why tag sector value words bytes e h = subst (λ ws. Begins held l (λ p. write_begun held.shape p tag sector ws) due why new) e h
