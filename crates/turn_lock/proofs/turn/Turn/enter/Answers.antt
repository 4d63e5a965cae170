use Rattle.std.proofs.Common.{ℕ, None, Some, sym, ap, ◌∙◌}
use Rattle.turn_lock.specs.Turns.{out_in, carried}
use Rattle.turn_lock.proofs.Callers.{seat_is, says}
use Rattle.turn_lock.proofs.turn.Turn.enter.Goals as goal

pub wait-requires-clause-outside : goal.wait-requires-clause-outside
wait-requires-clause-outside g c =
    let p = c.args.pass.now in
    let s = seat_is p.seat.me p.number None p.of_a_caller p.numbered p.empty_slot c.requires.outside in
    (s.0, s.1)

pub invariant_of-pass : goal.invariant_of-pass
invariant_of-pass g c =
    let p = c.args.pass.now in
    let s = seat_is p.seat.me p.number None p.of_a_caller p.numbered p.empty_slot c.requires.outside in
    let t = c.wait.ensures.inside s.0 s.1 in
    let a = says c.wait.new.seat.me.0 p.number s.0 (Some c.wait.result) (ap (λ m. m.0) t.0) in
    record { of_a_caller = a.0; numbered = a.1; empty_slot = ap (λ m. m.1) t.0 ∙ sym (ap carried a.3) }

pub returns-clause-part : goal.returns-clause-part
returns-clause-part g c =
    let p = c.args.pass.now in
    let s = seat_is p.seat.me p.number None p.of_a_caller p.numbered p.empty_slot c.requires.outside in
    let t = c.wait.ensures.inside s.0 s.1 in
    s.2 ∙ ap Some t.1 ∙ ap (λ (q : ℕ). Some (g.T.Parted.part c.wait.result q)) (sym p.numbered)

pub returns-clause-pass : goal.returns-clause-pass
returns-clause-pass g c =
    let p = c.args.pass.now in
    let s = seat_is p.seat.me p.number None p.of_a_caller p.numbered p.empty_slot c.requires.outside in
    let t = c.wait.ensures.inside s.0 s.1 in
    let a = says c.wait.new.seat.me.0 p.number s.0 (Some c.wait.result) (ap (λ m. m.0) t.0) in
    (c.wait.ensures.table, a.1 ∙ sym p.numbered)

pub returns-clause-kept : goal.returns-clause-kept
returns-clause-kept g c =
    let p = c.args.pass.now in
    let s = seat_is p.seat.me p.number None p.of_a_caller p.numbered p.empty_slot c.requires.outside in
    let t = c.wait.ensures.inside s.0 s.1 in
    let a = says c.wait.new.seat.me.0 p.number s.0 (Some c.wait.result) (ap (λ m. m.0) t.0) in
    a.2 ∙ sym s.2

pub returns-clause-inside : goal.returns-clause-inside
returns-clause-inside g c =
    let p = c.args.pass.now in
    let s = seat_is p.seat.me p.number None p.of_a_caller p.numbered p.empty_slot c.requires.outside in
    let t = c.wait.ensures.inside s.0 s.1 in
    ap (λ m. out_in m.0) t.0
