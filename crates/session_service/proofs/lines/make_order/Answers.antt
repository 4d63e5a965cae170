use Rattle.std.proofs.Common.{◌+◌, Ok, refl, ap, arith}
use Rattle.session_script.specs.declared.script.Line.TheVariants as line
use Rattle.session_service.specs.declared.runner.Runner.{Runner}
use Rattle.session_service.proofs.Steps as steps
use Rattle.session_service.proofs.lines.make_order.Goals as goal

pub rest_session-requires : goal.rest_session-requires
rest_session-requires g c = (c.requires.0, c.requires.1, c.requires.2, c.requires.3.at)

pub order-requires-clause-may : goal.order-requires-clause-may
order-requires-clause-may g c =
    let n = c.requires.3 in
    steps.may_order c.args.service.now c.requires.0 c.requires.1 c.requires.2 c.rest_session.new.runner (c.rest_session.ensures.at c.requires.0 c.requires.1 c.requires.2 n.at) (let lt = n.next.0 in omega (arith, lt))

pub order-requires-clause-text : goal.order-requires-clause-text
order-requires-clause-text g c = c.requires.3.text

pub order-requires-clause-can_ask : goal.order-requires-clause-can_ask
order-requires-clause-can_ask g c =
    steps.asks c.args.service.now c.requires.0 c.requires.1 c.requires.2 c.rest_session.new.runner (c.rest_session.ensures.at c.requires.0 c.requires.1 c.requires.2 c.requires.3.at) c.rest_session.ensures.rests

pub returns-clause-goes : goal.returns-clause-goes
returns-clause-goes g c = λ script q replies next.
    let rested = c.rest_session.ensures in
    let r = c.rest_session.new.runner in
    let o = c.order.ensures in
    let after : Runner = record r { session = record r.session { caller = record r.session.caller { pool = c.order.new.seat; call = r.session.caller.call + 1 } }; orders = c.order.new.pass; held = c.held_after-runner.result } in
    let now = steps.still_next c.args.service.now script q replies (line.Order c.args.asked.now) c.args.runner.now r next (rested.at script q replies next.at) in
    steps.order_comes c.args.service.now script q replies c.args.asked.now r after now rested.rests rested.rests c.in_ok-reply.reply refl refl refl refl o.pass.0 o.pass.1 o.seat.0 o.seat.1.0.1 refl c.held_after-runner.ensures
    (c.in_ok-reply.ensures.answered c.in_ok-reply.reply refl) (λ e. c.in_ok-reply.ensures.cut (ap Ok e))

pub overflow_add-caller : goal.overflow_add-caller
overflow_add-caller g c =
    let n = c.requires.3 in
    let at = c.rest_session.ensures.at c.requires.0 c.requires.1 c.requires.2 n.at in
    let call = at.call in
    let lt = n.next.0 in
    let short = n.short in omega (arith, call, lt, short)
