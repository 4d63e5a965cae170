use Rattle.std.proofs.Common.{◌+◌, arith}
use Rattle.bio_queue.specs.Serving.{MayMake}
use Rattle.bio_queue.specs.Standing.{stands_of}
use Rattle.bio_tests.proofs.Turns.{by_turn, fewer_calls}
use Rattle.bio_tests.proofs.parties.serve.Goals as goal

pub serve_one-requires-clause-done : goal.serve_one-requires-clause-done
serve_one-requires-clause-done g c = λ _ _. let s = c.reserve.ensures.same in rw (s.0, s.2, s.3, s.4, s.5, c.reserve.ensures.completed) c.requires.done

pub returns-clause-may : goal.returns-clause-may
returns-clause-may g c = λ on n may.
    let s = c.reserve.ensures.same in
    let r = c.reserve.new.self in
    let before : MayMake c.args.sectors.now r.sectors r.width (n + 1) (stands_of r.completed.items) r.session = rw (s.2, s.3, s.4, c.reserve.ensures.completed) may in
    let after : MayMake c.args.sectors.now r.sectors r.width n (stands_of c.serve_one.new.self.completed.items) c.serve_one.new.self.session = by_turn c.serve_one.result
    (λ e. c.serve_one.ensures.may e n before)
    (λ e. (c.serve_one.ensures.rests e).1 n (fewer_calls c.args.sectors.now r.sectors r.width n (n + 1) (stands_of r.completed.items) r.session (omega arith) before))
    (λ e. absurd (on e)) in
    rw (← s.2, ← s.3) after

pub returns-clause-made : goal.returns-clause-made
returns-clause-made g c =
    let s = c.reserve.ensures.same in
    let r = c.reserve.new.self in
    let before : MayMake c.args.sectors.now r.sectors r.width 1 (stands_of r.completed.items) r.session = rw (s.2, s.3, s.4, c.reserve.ensures.completed) c.requires.may in
    by_turn c.serve_one.result (λ e. (c.serve_one.ensures.may e 0 before).made) (λ e. ((c.serve_one.ensures.rests e).1 1 before).made) (λ e. (c.serve_one.ensures.off e).1)
