use Rattle.std.proofs.Common.{◌≡◌, ◌<◌, slice_get, slice_set, Some, sym, ap, ◌∙◌, subst, refl}
use Rattle.lane_core.specs.declared.now.LaneNow.{LaneNow}
use Rattle.lane_core.specs.After.{answer_after, lane_after, past_after, row_after}
use Rattle.lane_core.specs.Cores.{ShowsSound}
use Rattle.lane_core.specs.Fixed.{RowHasFixed}
use Rattle.lane_core.specs.History.{Cells}
use Rattle.lane_core.specs.Machine.{State}
use Rattle.lane_core.specs.Machines.{IsCore}
use Rattle.lane_core.specs.Reopening.{first_cells}
use Rattle.lane_core.specs.Rows.{IsMarked, Recorded, RowWords}
use Rattle.lane_core.specs.Sessions.{IsServed}
use Rattle.lane_core.proofs.Served.{changed, served_step}
use Rattle.lane_core.proofs.Cores.{ready}
use Rattle.lane_core.proofs.Fixed.{line_keeps}
use Rattle.lane_core.proofs.Marked.{line_marks}
use Rattle.lane_core.proofs.Holding.{core_is_held}
use Rattle.lane_core.proofs.Nothing.{nothing_idle}
use Rattle.lane_core.proofs.Stepping.{lane_there, there_is, stepped_parts, line_shown}
use Rattle.lane_core.proofs.machine.Core.step.Goals as goal

pub step_lane-requires : goal.step_lane-requires
step_lane-requires c =
    let core = c.args.self.now in
    let mine = c.index_mut-mine.result.now in
    let s = c.requires.core.1.0 in
    let h = c.requires.core.1.1 in
    let at : slice_get core.lanes.items c.args.lane ≡ Some mine = lane_there core.lanes.items c.args.lane mine (subst (λ n. c.args.lane < n) (sym h.shown.count) c.requires.lane) c.index_mut-mine.ensures.value in
    record { ready = ready core.shape core.row core.lanes.items core.history c.requires.core.0 s c.args.lane mine h at }

pub returns-clause-line : goal.returns-clause-line
returns-clause-line c = λ p here.
    let core = c.args.self.now in
    let mine = c.index_mut-mine.result.now in
    let s = c.requires.core.1.0 in
    let h = c.requires.core.1.1 in
    let at : slice_get core.lanes.items c.args.lane ≡ Some mine = lane_there core.lanes.items c.args.lane mine (subst (λ n. c.args.lane < n) (sym h.shown.count) c.requires.lane) c.index_mut-mine.ensures.value in
    let same : mine ≡ p = there_is (sym at ∙ here) in
    let row = c.step_lane.ensures.row ∙ ap (λ (p : LaneNow). row_after core.shape c.args.lane core.row p p.phase) same in
    let lane = c.step_lane.ensures.lane ∙ ap (λ (p : LaneNow). lane_after core.shape c.args.lane core.row p p.phase) same in
    let past = c.step_lane.ensures.history ∙ ap (λ (p : LaneNow). past_after core.shape c.args.lane core.row p core.history p.phase) same in
    let answer = c.step_lane.ensures.answer ∙ ap (λ (p : LaneNow). answer_after core.shape c.args.lane core.row p p.phase) same in
    record {
      shape = refl;
      info = refl;
      row = row;
      lanes = ap (λ q. slice_set core.lanes.items c.args.lane q) lane;
      history = past;
      answer = answer;
      line = λ t shown. line_shown core.shape core.row c.step_lane.new.row core.lanes.items core.history c.step_lane.new.history c.requires.core.0 s t c.args.lane p c.step_lane.new.mine h here row lane past shown;
      nothing = λ e. nothing_idle core.shape c.args.lane core.row p p.phase (sym answer ∙ e);
      idle = λ e. answer ∙ ap (λ ph. answer_after core.shape c.args.lane core.row p ph) e;
    }

pub returns-clause-keeps : goal.returns-clause-keeps
returns-clause-keeps c =
    let core = c.args.self.now in
    let mine = c.index_mut-mine.result.now in
    let made = c.step_lane in
    let lane_is_there : (s : State) (o : Cells) → ShowsSound core.shape core.row core.lanes.items core.history o s → slice_get core.lanes.items c.args.lane ≡ Some mine =
    λ s o h. lane_there core.lanes.items c.args.lane mine (subst (λ n. c.args.lane < n) (sym h.shown.count) c.requires.lane) c.index_mut-mine.ensures.value in
    let keeps : (o : Cells) → IsCore o core → (s : State) × ShowsSound core.shape made.new.row (slice_set core.lanes.items c.args.lane made.new.mine) made.new.history o s =
    λ o is. (
      _,
      stepped_parts core.shape core.row made.new.row core.lanes.items core.history made.new.history o is.0 c.args.lane mine made.new.mine is.1 (lane_is_there is.0 o is.1)
          made.ensures.row made.ensures.lane made.ensures.history,
    ) in
    record {
      sound = (c.requires.core.0, keeps c.requires.core.0 c.requires.core.1);
      core = keeps;
      arena = λ state h.
          let is_ready = ready core.shape core.row core.lanes.items core.history (first_cells state) h.shows.0 c.args.lane mine h.shows.1 (lane_is_there h.shows.0 (first_cells state) h.shows.1) in
          record {
            opened = h.opened;
            info = h.info;
            shape = h.shape;
            shows = keeps (first_cells state) h.shows;
            fixed = subst (λ (row : RowWords). RowHasFixed core.shape state.words row.words) (sym made.ensures.row)
                (line_keeps core.shape core.row c.args.lane mine core.history.room is_ready state.words h.fixed mine.phase refl);
            marked = subst IsMarked (sym made.ensures.row) (line_marks core.shape core.row c.args.lane mine core.history.room is_ready h.marked mine.phase refl);
          };
      shape = refl;
    }

pub returns-clause-serves : goal.returns-clause-serves
returns-clause-serves c = λ served.
    let core = c.args.self.now in
    let mine = c.index_mut-mine.result.now in
    let h = c.requires.core.1.1 in
    let at : slice_get core.lanes.items c.args.lane ≡ Some mine = lane_there core.lanes.items c.args.lane mine (subst (λ n. c.args.lane < n) (sym h.shown.count) c.requires.lane) c.index_mut-mine.ensures.value in
    let q : LaneNow = lane_after core.shape c.args.lane core.row mine mine.phase in
    let past : Recorded = past_after core.shape c.args.lane core.row mine core.history mine.phase in
    subst (λ (q : LaneNow). IsServed (slice_set core.lanes.items c.args.lane q) c.step_lane.new.history.entries) (sym c.step_lane.ensures.lane)
    (subst (λ (r : Recorded). IsServed (slice_set core.lanes.items c.args.lane q) r.entries) (sym c.step_lane.ensures.history)
    (served_step core.lanes.items c.args.lane mine q at core.history.entries past.entries (changed core.shape c.args.lane core.row mine core.history mine.phase refl) served))

pub returns-clause-held : goal.returns-clause-held
returns-clause-held c =
    let core = c.args.self.now in
    let mine = c.index_mut-mine.result.now in
    let h = c.requires.core.1.1 in
    let at : slice_get core.lanes.items c.args.lane ≡ Some mine = lane_there core.lanes.items c.args.lane mine (subst (λ n. c.args.lane < n) (sym h.shown.count) c.requires.lane) c.index_mut-mine.ensures.value in
    (core_is_held.steps core _ c.args.lane mine _ at (returns-clause-line c mine at)).0

pub returns-clause-answer : goal.returns-clause-answer
returns-clause-answer c =
    let core = c.args.self.now in
    let mine = c.index_mut-mine.result.now in
    let h = c.requires.core.1.1 in
    let at : slice_get core.lanes.items c.args.lane ≡ Some mine = lane_there core.lanes.items c.args.lane mine (subst (λ n. c.args.lane < n) (sym h.shown.count) c.requires.lane) c.index_mut-mine.ensures.value in
    (core_is_held.steps core _ c.args.lane mine _ at (returns-clause-line c mine at)).1
