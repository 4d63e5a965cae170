use Rattle.std.proofs.Common.{◌<◌, sym, ap, ◌∙◌, subst, refl}
use Rattle.lane_core.specs.Begins.{is_idle}
use Rattle.lane_core.proofs.Callings.{some_lane, idle_is}
use Rattle.lane_core.proofs.Keeping.{arena_begun, rest_of, serves_begun}
use Rattle.lane_core.proofs.machine.Core.begin.Goals as goal

pub begin_idle-requires-clause-lane : goal.begin_idle-requires-clause-lane
begin_idle-requires-clause-lane c =
    let core = c.args.self.now in
    let h = c.requires.core.1.1 in
    let p = some_lane core.lanes.items c.args.lane (subst (λ n. c.args.lane < n) (sym h.shown.count) c.requires.lane) in
    (p.0, p.1, idle_is p.0.phase (ap is_idle (sym (c.phase-phase.ensures p.0 p.1)) ∙ sym c.is_idle.ensures ∙ c.if-is_idle.true))

pub returns-then-begin_idle-clause-keeps : goal.returns-then-begin_idle-clause-keeps
returns-then-begin_idle-clause-keeps c =
    let core = c.args.self.now in
    let new = c.begin_idle.new.self in
    let begins = c.if-begin_idle.ensures.begun refl in
    record {
      sound = (c.requires.core.0, c.begin_idle.ensures.core c.requires.core.0 c.requires.core.1);
      core = c.begin_idle.ensures.core;
      arena = arena_begun core new c.args.lane c.args.tag c.args.call c.begin_idle.ensures.core begins;
      shape = (rest_of core new c.args.lane c.args.tag c.args.call begins).shape;
    }

pub returns-then-begin_idle-clause-serves : goal.returns-then-begin_idle-clause-serves
returns-then-begin_idle-clause-serves c = λ served free.
    let core = c.args.self.now in
    let h = c.requires.core.1.1 in
    let p = some_lane core.lanes.items c.args.lane (subst (λ n. c.args.lane < n) (sym h.shown.count) c.requires.lane) in
    serves_begun core c.begin_idle.new.self c.args.lane c.args.tag c.args.call p.0 p.1 (c.if-begin_idle.ensures.begun refl) served free
