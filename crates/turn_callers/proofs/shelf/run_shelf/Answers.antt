use Rattle.std.proofs.Common.{◌<◌, ℕ, length, map, sym, ap, ◌∙◌, subst, arith}
use Rattle.turn_lock.specs.Passes.{lock_id}
use Rattle.turn_lock.specs.Rows.{items_at}
use Rattle.turn_callers.specs.Orders.{made_at}
use Rattle.turn_callers.specs.Replay.{HasNoOther}
use Rattle.turn_callers.proofs.Closing.{all_answered, all_tied}
use Rattle.turn_callers.proofs.shelf.run_shelf.Goals as goal

pub returns-clause-journals : goal.returns-clause-journals
returns-clause-journals g c =
    let done = c.run_each-done.result.items in
    let js = c.in_ok-journals.ensures.journals in
    let there = λ (j : ℕ) (h : j < c.args.places). js j (omega (arith, h, c.in_ok-turns.ensures.places)) in
    record {
      legal = λ j h. (there j h).legal;
      replies = λ j h q i.
          let near : q < length done = omega (arith, i, c.run_each-done.ensures.count) in
          all_tied c.args.scripts.now done c.in_ok-journals.sessions.items j q _ (there j h) near c.in_ok-journals.ensures.kept c.in_ok-journals.ensures.same
          ∙ ap (λ vs. made_at q j (items_at c.args.scripts.now q) (items_at vs q)) (sym c.in_ok-replies.ensures);
      no_other = λ j h. subst (λ (n : ℕ). HasNoOther n (items_at c.in_ok-journals.journals.items j)) c.run_each-done.ensures.count (there j h).no_other;
    }

pub returns-clause-each_answered : goal.returns-clause-each_answered
returns-clause-each_answered g c = λ q i.
    let done = c.run_each-done.result.items in
    let near : q < length done = omega (arith, i, c.run_each-done.ensures.count) in
    ap (λ vs. length (items_at vs q)) c.in_ok-replies.ensures
    ∙ all_answered (map lock_id c.as_slice.result.now) c.args.scripts.now done c.in_ok-journals.sessions.items q c.run_each-done.ensures.done near c.in_ok-journals.ensures.kept c.in_ok-journals.ensures.same
