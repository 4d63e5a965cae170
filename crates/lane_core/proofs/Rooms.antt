-- Room for entries changes nothing else.
use Rattle.std.proofs.Common.{ℕ, ◌≤◌, List, slice_get, slice_set, sym, ap, ◌∙◌, subst, arith}
use Rattle.nvd_words.specs.declared.tag.Tag.{Tag}
use Rattle.lane_core.specs.declared.machine.Core.{Core}
use Rattle.lane_core.specs.declared.now.LaneNow.{LaneNow}
use Rattle.lane_core.specs.declared.shape.Shape.{Shape}
use Rattle.lane_core.specs.History.{Cells}
use Rattle.lane_core.specs.Machine.{State, begin_read, begin_write}
use Rattle.lane_core.specs.Places.{IsShape, geometry}
use Rattle.lane_core.specs.Invariant.{IsSound}
use Rattle.lane_core.specs.Ready.{IsFilled}
use Rattle.lane_core.specs.Showing.{Shown}
use Rattle.lane_core.specs.Cores.{owing}
use Rattle.lane_core.specs.Machines.{IsCore, CoreShows}
use Rattle.lane_core.specs.Begins.{read_begun, write_begun, HasRoom, IsIdleLane, KeepsRest, ReadStarts, Starts, WriteStarts}

-- what the core shows, by its parts
shows_by : (a b : Core) (s : State) → HasRoom a b → CoreShows a s → CoreShows b s
shows_by a b s h shown =
    subst (λ x. Shown x b.row b.lanes.items b.history.entries s) (sym h.rest.shape)
    (subst (λ r. Shown a.shape r b.lanes.items b.history.entries s) (sym h.rest.row)
    (subst (λ ls. Shown a.shape a.row ls b.history.entries s) (sym h.lanes)
    (subst (λ es. Shown a.shape a.row a.lanes.items es s) (sym h.rest.entries) shown)))

pub room_core : (o : Cells) (a b : Core) → HasRoom a b → IsCore o a → IsCore o b
room_core o a b h core = (
  core.0,
  record {
    shape = subst IsShape (sym h.rest.shape) core.1.shape;
    shown = shows_by a b core.0 h core.1.shown;
    sound = subst (λ (x : Shape). IsSound (geometry x) o core.0) (sym h.rest.shape) core.1.sound;
    filled = λ l p at. subst (λ x. IsFilled x p) (sym h.rest.shape) (core.1.filled l p (ap (λ ls. slice_get ls l) (sym h.lanes) ∙ at));
    room = let r = core.1.room in let m = h.more in subst (λ ls. owing ls ≤ b.history.room) (sym h.lanes) (omega arith);
  },
)

pub room_idle : (a b : Core) (l : ℕ) → HasRoom a b → IsIdleLane a l → IsIdleLane b l
room_idle a b l h idle = (idle.0, ap (λ ls. slice_get ls l) h.lanes ∙ idle.1, idle.2)

rest_by : (a b c : Core) → HasRoom a b → KeepsRest b c → KeepsRest a c
rest_by a b c h k = record { shape = k.shape ∙ h.rest.shape; info = k.info ∙ h.rest.info; row = k.row ∙ h.rest.row; entries = k.entries ∙ h.rest.entries }

-- a call that begins if there is room
starts_by : (a b c : Core) (l : ℕ) (f : Shape → LaneNow → LaneNow) (g : Shape → State → State) → HasRoom a b → Starts b c l (f b.shape) (g b.shape) → Starts a c l (f a.shape) (g a.shape)
starts_by a b c l f g h r = record {
  rest = rest_by a b c h r.rest;
  lanes = λ p at. r.lanes p (ap (λ ls. slice_get ls l) h.lanes ∙ at) ∙ ap (λ ls. slice_set ls l (f b.shape p)) h.lanes ∙ ap (λ x. slice_set a.lanes.items l (f x p)) h.rest.shape;
  line = λ s shown. subst (λ (x : Shape). CoreShows c (g x s)) h.rest.shape (r.line s (shows_by a b s h shown));
}

pub read_by : (a b c : Core) (l : ℕ) (tag : Tag) (sector : ℕ) (words cell : List ℕ) → HasRoom a b → ReadStarts b c l tag sector words cell → ReadStarts a c l tag sector words cell
read_by a b c l tag sector words cell h r = starts_by a b c l (λ x p. read_begun p tag sector words cell) (λ x s. begin_read (geometry x) s l tag sector) h r

pub write_by : (a b c : Core) (l : ℕ) (tag : Tag) (sector : ℕ) (words : List ℕ) → HasRoom a b → WriteStarts b c l tag sector words → WriteStarts a c l tag sector words
write_by a b c l tag sector words h r = starts_by a b c l (λ x p. write_begun x p tag sector words) (λ x s. begin_write (geometry x) s l) h r
