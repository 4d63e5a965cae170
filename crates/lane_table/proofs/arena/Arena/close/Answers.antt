use Rattle.std.proofs.Common.{sym, ap, subst}
use Rattle.lane_core.specs.declared.shape.Shape.{Shape}
use Rattle.lane_table.specs.Closed.{AreInOrder}
use Rattle.lane_table.proofs.Closes.{closes_as}
use Rattle.lane_table.proofs.arena.Arena.close.Goals as goal

pub returns-in-Ok-clause-closed : goal.returns-in-Ok-clause-closed
returns-in-Ok-clause-closed c =
    let a = c.args.self in
    let order = subst (λ (x : Shape). AreInOrder x.lanes c.args.ends.items) (sym a.shape_is) c.requires.every in
    closes_as a.table.shared.key c.gather-host.result.id a.shape.total c.args.ends.items _ c.gather-host.result.me _ _ order (ap (λ (x : Shape). x.total) (sym a.shape_is))
    c.copy_words.ensures c.copy_words-in-Ok.ensures c.gather-host.ensures.logs c.gather-host.ensures.known c.close_with-closed.ensures.values.2
