use Rattle.std.proofs.Common.{ap, ◌∙◌, arith}
use mathlib.Core.Option.{some}
use Rattle.turn_lock.proofs.Closing.{closes_at, closes_some}
use Rattle.turn_lock.proofs.Keeps.{spares}
use Rattle.turn_lock.proofs.turn.Turn.close.Goals as goal

pub take_value-requires : goal.take_value-requires
take_value-requires g c =
    let table = c.args.self.one_of_each in
    let values = c.close_with-closed.ensures.values in
    let count = c.close_with-closed.ensures.counts.1 in
    let spare = spares g.T.Parted.part c.args.self.table.shared.key.callers c.args.self.table.shared.key.value.value _ _ _ _ values.2 in
    record {
      full = values.1;
      some = omega (arith, table, count);
      empty = λ k other below. spare k other (omega (arith, table, count));
    }

pub unreachable-requires : goal.unreachable-requires
unreachable-requires g c =
    closes_some {g = g.T.Parted} c.args.self.table.shared.key.callers _ _ c.args.passes.items _ _ _ c.gather-keeper.ensures.known c.requires.every c.close_with-closed.ensures.values.2
    (c.take_value.ensures ∙ ap some c.in-None.is)

pub returns-clause-callers : goal.returns-clause-callers
returns-clause-callers g c =
    (closes_at {g = g.T.Parted} c.args.self.table.shared.key.callers _ _ c.args.passes.items _ _ _ c.gather-keeper.ensures.known c.requires.every c.close_with-closed.ensures.values.2 c.in-Some.value
    (c.take_value.ensures ∙ ap some c.in-Some.is)).0

pub returns-clause-strangers : goal.returns-clause-strangers
returns-clause-strangers g c =
    (closes_at {g = g.T.Parted} c.args.self.table.shared.key.callers _ _ c.args.passes.items _ _ _ c.gather-keeper.ensures.known c.requires.every c.close_with-closed.ensures.values.2 c.in-Some.value
    (c.take_value.ensures ∙ ap some c.in-Some.is)).1
