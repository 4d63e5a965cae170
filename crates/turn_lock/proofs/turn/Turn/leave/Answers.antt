use Rattle.std.proofs.Common.{Some, ◌∙◌}
use Rattle.turn_lock.proofs.Callers.{seat_is, is_some_and}
use Rattle.turn_lock.proofs.turn.Turn.leave.Goals as goal

pub turn_free-requires-clause-inside : goal.turn_free-requires-clause-inside
turn_free-requires-clause-inside g c =
    let p = c.args.pass.now in
    let i = is_some_and _ _ c.requires.inside in
    let s = seat_is p.seat.me p.number (Some i.0) p.of_a_caller p.numbered p.empty_slot i.1 in
    (s.0, i.0, s.1, λ q ne. i.2 q (λ e. ne (e ∙ p.numbered)))
