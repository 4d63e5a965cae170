use Rattle.std.proofs.Common.{◌≡◌, None, Some, sym, ap, ◌∷◌, ◌∙◌, arith}
use Rattle.atomic_table.specs.Table.{rest}
use Rattle.turn_lock.proofs.Keeps.{takes_as, took, waits, finds, has}
use Rattle.turn_lock.proofs.steps.turn_take.Goals as goal

pub compare_exchange-found-requires : goal.compare_exchange-found-requires
compare_exchange-found-requires g c =
    let o = c.requires.outside in
    (c.requires.table.0, omega (arith, c.requires.table.1.0), takes_as _ _ _ _ _ _ _ o.0 _ (omega arith) o.1)

pub returns-then-found-ne0-clause-missed : goal.returns-then-found-ne0-clause-missed
returns-then-found-ne0-clause-missed g c =
    let o = c.requires.outside in
    waits g.T.Parted.part c.args.shared.now.key.callers c.args.shared.now.key.value.value c.args.number o.0 c.args.seat.now.me c.compare_exchange-found.new.seat.me c.compare_exchange-found.result c.compare_exchange-found.ensures.2 o.1 c.if-found-ne0.true

pub exchange-requires : goal.exchange-requires
exchange-requires g c =
    let o = c.requires.outside in
    let e = c.compare_exchange-found.ensures in
    let t = took g.T.Parted.part c.args.shared.now.key.callers c.args.shared.now.key.value.value c.args.number o.0 c.args.seat.now.me c.compare_exchange-found.new.seat.me c.compare_exchange-found.result e.2 o.1 c.if-found-ne0.false in
    (e.0 ∙ c.requires.table.0, (Some t.0, ap (λ m. m.1) t.1 ∙ sym (ap (λ m. (4, Some t.0) ∷ rest m.1) t.1)))

pub unreachable-requires : goal.unreachable-requires
unreachable-requires g c =
    let o = c.requires.outside in
    let e = c.compare_exchange-found.ensures in
    let f = finds g.T.Parted.part c.args.shared.now.key.callers c.args.shared.now.key.value.value c.args.number o.0 c.args.seat.now.me c.compare_exchange-found.new.seat.me c.compare_exchange-found.result c.exchange.result e.2 o.1 c.if-found-ne0.false c.exchange.ensures.2 in
    let no_value : None ≡ Some f.0 = sym c.in-None.is ∙ f.1 in cc

pub returns-clause-took : goal.returns-clause-took
returns-clause-took g c = λ d is.
    let x = c.exchange.ensures in
    has g.T.Parted.part c.args.shared.now.key.callers c.args.shared.now.key.value.value c.args.number d c.args.seat.now.me c.compare_exchange-found.new.seat.me c.exchange.new.seat.me c.compare_exchange-found.result c.exchange.result c.in-Some.value c.compare_exchange-found.ensures.2 is c.if-found-ne0.false x.2 c.in-Some.is x.3
