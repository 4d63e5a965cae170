use Rattle.std.proofs.Common.{sym, ap, ◌∙◌, List, ℕ}
use Rattle.namespace_ops.specs.Counted.{State}
use Rattle.namespace_ops.specs.Room.{with_room}
use Rattle.registry_service.proofs.Serving.{new_serving}
use Rattle.registry_service.proofs.served.ServedRegistry.of.Goals as goal

pub invariant_of-result : goal.invariant_of-result
invariant_of-result c =
    new_serving c.reserve.new.self c.args.fuse c.args.calls.now (ap (λ (s : State). s.stopped) c.reserve.ensures.state ∙ c.requires.running) (c.reserve.ensures.journal ∙ c.requires.first)
    (c.in_ok-reserve.ensures.room ∙ ap (λ (room : List ℕ). with_room room c.args.calls.now) c.requires.roomless) c.journal-journal.ensures.says (c.reserve.ensures.opening ∙ c.requires.opening ∙ sym (ap (λ (s : State). s.areas) c.reserve.ensures.state)) c.left-first.result c.in_ok-opens.opens.items c.left-first.ensures c.in_ok-opens.ensures
