use Rattle.std.proofs.Common.{◌≡◌, ◌<◌, length, ap, ◌∙◌, arith}
use Rattle.turn_lock.specs.Passes.{lock_id, first_of}
use Rattle.turn_lock.proofs.Rows.{has_each}
use Rattle.turn_callers.proofs.Tallies.{all_counted}
use Rattle.turn_callers.proofs.counting.count_turns.Goals as goal

pub close-requires-clause-every : goal.close-requires-clause-every
close-requires-clause-every g c = λ q h.
    let ps = c.count_each-passes.result.items in
    let of = c.in_ok-turn.ensures in
    let inside : q < length ps = omega (arith, h, c.count_each-passes.ensures.count, of.callers.0, of.count, c.in_ok-turn.passes.ok.0) in
    has_each ps (λ r p i. (c.count_each-passes.ensures.empty r p i).1) q inside

pub returns : goal.returns
returns g c =
    let ps = c.count_each-passes.result.items in
    let of = c.in_ok-turn.ensures in
    let first = first_of c.in_ok-turn.turn in
    let count : length ps ≡ c.args.callers = omega (arith, c.count_each-passes.ensures.count, of.count, c.in_ok-turn.passes.ok.0) in
    all_counted (lock_id c.in_ok-turn.turn) ps c.count_each-passes.ensures.empty c.close.result first c.args.callers c.args.each count (ap (λ t. t.left.items) of.callers.1 ∙ c.in_ok-tally.ensures.left) c.close.ensures.callers
    (λ q h. c.close.ensures.strangers q (omega (arith, h, of.callers.0)))
    ∙ ap (λ t. t.all) of.callers.1 ∙ c.in_ok-tally.ensures.all
