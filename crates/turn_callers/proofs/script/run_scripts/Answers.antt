use Rattle.std.proofs.Common.{◌≡◌, ◌<◌, length, None, Some, sym, ap, ◌∙◌, subst, arith}
use Rattle.std.specs.Prelude.{All, Any}
use Rattle.turn_lock.specs.Passes.{lock_id, lock_of, number_of, part_of, out_of}
use Rattle.turn_lock.specs.Rows.{items_at}
use Rattle.turn_callers.specs.Replay.{entries_by, made}
use Rattle.turn_callers.specs.Shares.{share_at}
use Rattle.turn_callers.proofs.Ends.{all_out, every_one, answered, tied}
use Rattle.turn_callers.proofs.script.run_scripts.Goals as goal

pub close-requires-clause-passes : goal.close-requires-clause-passes
close-requires-clause-passes g c =
    subst (λ ps. All (λ p. (lock_of p ≡ lock_id c.in_ok-turn.turn) × (out_of p ≡ None)) ps) (sym c.in_ok-passes.ensures.passes)
    (all_out (lock_id c.in_ok-turn.turn) c.args.scripts.now c.run_each-done.result.items c.run_each-done.ensures.done)

pub close-requires-clause-every : goal.close-requires-clause-every
close-requires-clause-every g c = λ q h.
    subst (λ ps. Any (λ p. number_of p ≡ q) ps) (sym c.in_ok-passes.ensures.passes)
    (every_one (lock_id c.in_ok-turn.turn) c.args.scripts.now c.run_each-done.result.items c.run_each-done.ensures.done q (omega (arith, h, c.run_each-done.ensures.count, c.in_ok-turn.ensures.callers.0)))

pub returns-clause-replies : goal.returns-clause-replies
returns-clause-replies g c = λ q h.
    let done = c.run_each-done.result.items in
    let inside : q < length done = omega (arith, h, c.run_each-done.ensures.count) in
    let known = subst (λ ps. All (λ p. part_of p ≡ Some (share_at c.close.result.journal.items c.close.result.rooms.items (number_of p))) ps) c.in_ok-passes.ensures.passes c.close.ensures.callers in
    ap (λ v. entries_by q v.items) c.into_journal-journal.ensures.same
    ∙ tied (lock_id c.in_ok-turn.turn) c.args.scripts.now done c.run_each-done.ensures.done c.close.result known q inside
    ∙ ap (λ vs. made q (items_at c.args.scripts.now q) (items_at vs q)) (sym c.in_ok-passes.ensures.replies)

pub returns-clause-each_answered : goal.returns-clause-each_answered
returns-clause-each_answered g c = λ q h.
    let done = c.run_each-done.result.items in
    let inside : q < length done = omega (arith, h, c.run_each-done.ensures.count) in
    ap (λ vs. length (items_at vs q)) c.in_ok-passes.ensures.replies ∙ answered (lock_id c.in_ok-turn.turn) c.args.scripts.now done c.run_each-done.ensures.done q inside
