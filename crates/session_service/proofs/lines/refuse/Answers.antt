use Rattle.std.proofs.Common.{◌+◌, refl, arith}
use Rattle.session_service.specs.declared.runner.Runner.{Runner}
use Rattle.session_service.proofs.Steps as steps
use Rattle.session_service.proofs.lines.refuse.Goals as goal

pub rest_session-requires : goal.rest_session-requires
rest_session-requires g c = (c.requires.0, c.requires.1, c.requires.2, c.requires.4.at)

pub is_off-requires : goal.is_off-requires
is_off-requires g c =
    let rested = c.rest_session.ensures in
    steps.asks c.args.service.now c.requires.0 c.requires.1 c.requires.2 c.rest_session.new.runner (rested.at c.requires.0 c.requires.1 c.requires.2 c.requires.4.at) rested.rests

pub overflow_add-caller : goal.overflow_add-caller
overflow_add-caller g c =
    let n = c.requires.4 in
    let at = c.rest_session.ensures.at c.requires.0 c.requires.1 c.requires.2 n.at in
    let call = at.call in
    let lt = n.next.0 in
    let short = n.short in omega (arith, call, lt, short)

pub returns-then-is_off-clause-goes : goal.returns-then-is_off-clause-goes
returns-then-is_off-clause-goes g c = λ script q replies l next refused.
    let rested = c.rest_session.ensures in
    let r = c.rest_session.new.runner in
    let o = c.is_off.ensures in
    let after : Runner = record r { session = record r.session { caller = record r.session.caller { pool = c.is_off.new.pass } } } in
    let now = steps.still_next c.args.service.now script q replies l c.args.runner.now r next (rested.at script q replies next.at) in
    steps.off_goes c.args.service.now script q replies l r after now refl refl refl refl o.same o.can_ask.0.1 (refl, refl) now.at.knows.outside rested.rests rested.rests refl (c.if-is_off.ensures.told refl) o.stopped

pub returns-clause-goes : goal.returns-clause-goes
returns-clause-goes g c = λ script q replies l next refused.
    let rested = c.rest_session.ensures in
    let r = c.rest_session.new.runner in
    let o = c.is_off.ensures in
    let after : Runner = record r { session = record r.session { caller = record r.session.caller { pool = c.is_off.new.pass; call = r.session.caller.call + 1 } } } in
    let now = steps.still_next c.args.service.now script q replies l c.args.runner.now r next (rested.at script q replies next.at) in
    steps.refused_goes c.args.service.now script q replies l r after now refl refl refl refl o.same o.can_ask.0.1 refl rested.rests rested.rests refl refl o.stopped c.args.why l refl
    (steps.refused_still c.args.service.now l c.args.why c.args.runner.now r rested.held refused)
