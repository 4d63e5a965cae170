use Rattle.std.proofs.Common.{◌<◌, ℕ, ◌+◌, ◌-◌, [], ◌∷◌, ◌++◌, Some, length, length-append, get_or, take, sym, ap, ◌∙◌, arith}
use Rattle.turn_lock.specs.Passes.{number_of}
use Rattle.turn_callers.specs.declared.register.RegisterCall.TheVariants.{Read}
use Rattle.turn_callers.specs.Replay.{made, entry}
use Rattle.turn_callers.specs.Shares.{share}
use Rattle.turn_callers.proofs.Journal.{next_part}
use Rattle.turn_callers.proofs.script.run_session.Goals as goal

pub loop-call-preserved : goal.loop-call-preserved
loop-call-preserved g c =
    let i = c.loop-call.invariant in
    let m = c.make_in_turn.ensures in
    let items = c.push_reserved.ensures.items in
    let calls = c.args.calls.now in
    let k : ℕ = c.loop-call.call-index in
    let rs = c.loop-call.replies.items in
    let r : ℕ = c.make_in_turn.result in
    let n : ℕ = number_of c.args.session.now.pass in
    let inside : k < length calls = omega arith in
    record {
      lock = m.pass.0 ∙ i.lock;
      number = m.pass.1 ∙ i.number;
      outside = m.outside;
      part = m.part (share (made n (take k calls) rs) (length calls - k)) i.part
          ∙ ap (λ (q : ℕ). Some (share (made n (take k calls) rs ++ entry q (get_or calls k Read) r ∷ []) ((length calls - k) - 1))) i.number
          ∙ ap Some (next_part n k calls rs Read r inside i.count)
          ∙ ap (λ l. Some (share (made n (take (k + 1) calls) l) (length calls - (k + 1)))) (sym items);
      count = omega (arith, ap length items, length-append rs (r ∷ []), i.count);
      capacity = c.push_reserved.ensures.capacity ∙ i.capacity;
    }
