-- A call that begins keeps the arena of a core.
use Rattle.std.proofs.Common.{◌≡◌, ℕ, ◌==◌, if◌then◌else◌, Bool, true, false, replicate, slice_get, slice_set, Some, refl, sym, ◌∙◌, subst}
use Rattle.nvd_words.specs.declared.tag.Tag.{Tag}
use Rattle.lane_core.specs.declared.call.Call.{Call}
use Rattle.lane_core.specs.declared.call.Call.TheVariants as call
use Rattle.lane_core.specs.declared.machine.Core.{Core}
use Rattle.lane_core.specs.declared.now.LaneNow.{LaneNow}
use Rattle.lane_core.specs.declared.phase.Phase.TheVariants.{Scanning, Staging}
use Rattle.lane_core.specs.After.{wants_lock}
use Rattle.lane_core.specs.Begins.{CallBegins, KeepsRest, read_begun, write_begun}
use Rattle.lane_core.specs.Fixed.{RowHasFixed}
use Rattle.lane_core.specs.Machines.{KeepsCore}
use Rattle.lane_core.specs.Reopening.{KeepsArena, first_cells}
use Rattle.lane_core.specs.Invariant.{is_reading}
use Rattle.lane_core.specs.Rows.{IsMarked, RowWords}
use Rattle.lane_core.specs.Sessions.{IsFree, IsServed, ServesSessions}
use Rattle.lane_core.proofs.Served.{served_begin}

pub rest_of : (a b : Core) (lane : ℕ) (tag : Tag) (c : Call) → CallBegins a b lane tag c → KeepsRest a b
rest_of a b lane tag (call.Read sector) h = h.rest
rest_of a b lane tag (call.Write sector words) h = h.rest

kept_by : (a b : Core) → KeepsCore a b → KeepsRest a b → KeepsArena a b
kept_by a b core rest state h = record {
  opened = h.opened;
  info = rest.info ∙ h.info;
  shape = rest.shape ∙ h.shape;
  shows = core (first_cells state) h.shows;
  fixed = subst (λ x. RowHasFixed x state.words b.row.words) (sym rest.shape) (subst (λ (row : RowWords). RowHasFixed a.shape state.words row.words) (sym rest.row) h.fixed);
  marked = subst IsMarked (sym rest.row) h.marked;
}

pub arena_begun : (a b : Core) (lane : ℕ) (tag : Tag) (c : Call) → KeepsCore a b → CallBegins a b lane tag c → KeepsArena a b
arena_begun a b lane tag c core h = kept_by a b core (rest_of a b lane tag c h)

-- ---- and the sessions of its calls

pub first_tag : (b : Bool) (tag next : Tag) → (if wants_lock (if b then Staging 0 else Scanning 0) then next else tag) ≡ next
first_tag true tag next = refl
first_tag false tag next = refl

pub first_unread : (b : Bool) → is_reading (if b then Staging 0 else Scanning 0) ≡ false
first_unread true = refl
first_unread false = refl

pub serves_begun : (a b : Core) (lane : ℕ) (tag : Tag) (c : Call) (p : LaneNow) → slice_get a.lanes.items lane ≡ Some p → CallBegins a b lane tag c
    → ServesSessions a → IsFree tag.session a.lanes.items → ServesSessions b
serves_begun a b lane tag (call.Read sector) p at h served free =
    let q : LaneNow = read_begun p tag sector (replicate a.shape.width 0) (replicate a.shape.width 0) in
    subst (λ ls. IsServed ls b.history.entries) (sym (h.lanes p at)) (subst (λ es. IsServed (slice_set a.lanes.items lane q) es) (sym h.rest.entries)
    (served_begin a.lanes.items lane p q at a.history.entries tag refl refl free served))
serves_begun a b lane tag (call.Write sector words) p at h served free =
    let q : LaneNow = write_begun a.shape p tag sector words.items in
    subst (λ ls. IsServed ls b.history.entries) (sym (h.lanes p at)) (subst (λ es. IsServed (slice_set a.lanes.items lane q) es) (sym h.rest.entries)
    (served_begin a.lanes.items lane p q at a.history.entries tag (first_tag (a.shape.lanes == 1) p.tag tag) (first_unread (a.shape.lanes == 1)) free served))
