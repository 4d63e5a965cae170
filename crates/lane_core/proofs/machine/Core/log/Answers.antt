use Rattle.std.proofs.Common.{◌<◌, sym, ap, ◌∙◌, subst}
use Rattle.lane_core.specs.History.{of_lane}
use Rattle.lane_core.specs.Invariant.{is_reading}
use Rattle.lane_core.proofs.Callings.{some_lane}
use Rattle.lane_core.proofs.LaneLogs.{but_last_log, whole_log}
use Rattle.lane_core.proofs.machine.Core.log.Goals as goal

pub returns-then-is_reading : goal.returns-then-is_reading
returns-then-is_reading c =
    let core = c.args.self.now in
    let h = c.requires.core.1.1 in
    let p = some_lane core.lanes.items c.args.lane (subst (λ n. c.args.lane < n) (sym h.shown.count) c.requires.lane) in
    record {
      entries = but_last_log core c.args.lane p.0 p.1 _ _ c.requires.core (c.in_ok-entries.ensures ∙ ap (of_lane c.args.lane) c.as_slice.ensures) c.without_last.ensures
          (ap is_reading (sym (c.phase.ensures p.0 p.1)) ∙ sym c.is_reading.ensures ∙ c.if-is_reading.true);
    }

pub returns-else-is_reading : goal.returns-else-is_reading
returns-else-is_reading c =
    let core = c.args.self.now in
    let h = c.requires.core.1.1 in
    let p = some_lane core.lanes.items c.args.lane (subst (λ n. c.args.lane < n) (sym h.shown.count) c.requires.lane) in
    record {
      entries = whole_log core c.args.lane p.0 p.1 _ c.requires.core (c.in_ok-entries.ensures ∙ ap (of_lane c.args.lane) c.as_slice.ensures)
          (ap is_reading (sym (c.phase.ensures p.0 p.1)) ∙ sym c.is_reading.ensures ∙ c.if-is_reading.false);
    }
