use Rattle.std.proofs.Common.{rules, ◌≡◌, ℕ, ◌+◌, ◌∷◌, [], ◌++◌, sym, ap, ◌∙◌, arith}
use Rattle.std.specs.Prelude.{sum}
use Rattle.std.proofs.lemmas.List.FromFn.{map-range_with_len_more}
use Rattle.namespace_ops.specs.Room.{room_of}
use Rattle.namespace_ops.proofs.Sums.{sum_more}
use Rattle.namespace_ops.proofs.journal_room.added.Goals as goal

pub loop-session-preserved : goal.loop-session-preserved
loop-session-preserved c =
    let s : ℕ = c.loop-session.session in
    let one : c.in-Some.entries ≡ room_of c.args.room.now s + room_of c.args.calls.now s = search rules in
    let more : c.in-Some-checked_add.sum ≡ c.loop-session.total + c.in-Some.entries = search rules in (
      c.in_ok-push.ensures.items ∙ (λ i. c.loop-session.invariant.0 i ++ one i ∷ [])
          ∙ sym (map-range_with_len_more (λ (q : ℕ). room_of c.args.room.now q + room_of c.args.calls.now q) 0 s s (omega arith)),
      more ∙ ap (λ (n : ℕ). n + c.in-Some.entries) c.loop-session.invariant.1 ∙ sym (sum_more c.loop-session.sessions.items c.in-Some.entries) ∙ ap sum (sym c.in_ok-push.ensures.items),
    )
