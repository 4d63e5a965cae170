use Rattle.std.proofs.Common.{◌≡◌, None, [], ◌∷◌, ◌++◌, sym, ap, ◌∙◌, arith, append_assoc}
use Rattle.std.proofs.Math.ListN.{replicate}
use Rattle.std.proofs.lemmas.List.{append-nil, replicate-append-replicate}
use Rattle.turn_lock.proofs.dealing.add_empty.Goals as goal

pub loop-init : goal.loop-init
loop-init g c = sym (append-nil _)

pub loop-preserved : goal.loop-preserved
loop-preserved g c =
    c.in_ok-push.ensures.items ∙ ap (λ s. s ++ None ∷ []) c.loop.invariant ∙ append_assoc c.args.slots.now.items (replicate c.loop.counter None) (None ∷ [])
    ∙ ap (λ s. c.args.slots.now.items ++ s) (replicate-append-replicate c.loop.counter 1 None)

pub returns : goal.returns
returns g c =
    let last : c.loop.counter ≡ c.args.count = omega (arith, c.loop.auto.counter-end, c.loop-test.false) in
    c.loop.invariant ∙ ap (λ n. c.args.slots.now.items ++ replicate n None) last
