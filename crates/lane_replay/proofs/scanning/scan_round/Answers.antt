use Rattle.std.proofs.Common.{◌≡◌, ◌+◌, ◌-◌, true, sym, ap, ◌∙◌, arith, rules}
use Rattle.lane_core.specs.Held.{held_by}
use Rattle.lane_replay.specs.Scanning.{is_first_look, is_scanning}
use Rattle.lane_replay.proofs.OneStep.{core_lane}
use Rattle.lane_replay.proofs.Parts.{keeps_on, keeps_same}
use Rattle.lane_replay.proofs.Rounds.{begins_at, goes_on, goes_out, goes_round, looked}
use Rattle.lane_replay.proofs.scanning.scan_round.Goals as goal

pub loop-made-init : goal.loop-made-init
loop-made-init c =
    let core = c.args.core.now in
    let p = core_lane core c.args.lane c.requires.core c.requires.lane in
    record { keeps = keeps_same core c.requires.core; at = begins_at (held_by core) c.args.lane p.0 p.1 c.requires.first }

pub loop-made-preserved : goal.loop-made-preserved
loop-made-preserved c =
    let core = c.args.core.now in
    let p = core_lane core c.args.lane c.requires.core c.requires.lane in
    let old = held_by core in
    let now = held_by c.loop-made.core in
    let new = held_by c.step_lane.new.core in
    let yes : c.is_scanning.result ≡ true = search rules in
    record {
      keeps = keeps_on core c.loop-made.core c.step_lane.new.core c.loop-made.invariant.keeps c.step_lane.ensures.keeps;
      at = goes_on old c.args.lane p.0 p.1 new (c.loop-made.made + 1) (looked old c.args.lane p.0 p.1 c.loop-made.made now new c.loop-made.invariant.at c.step_lane.ensures.held)
          (ap is_scanning (sym c.phase_of-phase.ensures) ∙ sym c.is_scanning.ensures ∙ yes);
    }

pub returns-then-is_first_look-clause-same : goal.returns-then-is_first_look-clause-same
returns-then-is_first_look-clause-same c =
    let core = c.args.core.now in
    let p = core_lane core c.args.lane c.requires.core c.requires.lane in
    let old = held_by core in
    let now = held_by c.loop-made.core in
    let new = held_by c.step_lane.new.core in
    let count : c.args.left ≡ c.loop-made.made + 1 + (c.args.left - c.loop-made.made - 1) = omega arith in
    goes_round old c.args.lane p.0 p.1 new (c.loop-made.made + 1) (c.args.left - c.loop-made.made - 1) c.args.left c.requires.first
    (looked old c.args.lane p.0 p.1 c.loop-made.made now new c.loop-made.invariant.at c.step_lane.ensures.held)
    (ap is_first_look (sym c.phase_of-phase.ensures) ∙ sym c.is_first_look.ensures ∙ c.if-is_first_look.true) count

pub returns-then-not-is_scanning-clause-same : goal.returns-then-not-is_scanning-clause-same
returns-then-not-is_scanning-clause-same c =
    let core = c.args.core.now in
    let p = core_lane core c.args.lane c.requires.core c.requires.lane in
    let old = held_by core in
    let now = held_by c.loop-made.core in
    let new = held_by c.step_lane.new.core in
    let count : c.args.left ≡ c.loop-made.made + 1 + (c.args.left - c.loop-made.made - 1) = omega arith in
    goes_out old c.args.lane p.0 p.1 new (c.loop-made.made + 1) (c.args.left - c.loop-made.made - 1) c.args.left
    (looked old c.args.lane p.0 p.1 c.loop-made.made now new c.loop-made.invariant.at c.step_lane.ensures.held) count
