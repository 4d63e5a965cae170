use Rattle.std.proofs.Common.{◌∷◌, Some, ap, ◌∙◌, arith}
use Rattle.atomic_table.specs.Table.{rest}
use Rattle.turn_lock.proofs.Keeps.{frees_as}
use Rattle.turn_lock.proofs.steps.turn_free.Goals as goal

pub store-requires : goal.store-requires
store-requires g c =
    let i = c.requires.inside in
    let e = c.exchange.ensures in
    (e.0 ∙ c.requires.table.0, omega (arith, c.requires.table.1.0), frees_as _ _ _ _ _ _ _ i.1 c.args.value _ (e.3 ∙ ap (λ m. (m.0, (4, Some c.args.value) ∷ rest m.1)) i.2) i.3)

pub returns-clause-outside : goal.returns-clause-outside
returns-clause-outside g c =
    let i = c.requires.inside in
    let e = c.exchange.ensures in
    c.store.ensures.2 c.args.number i.0 i.1 c.args.value (e.3 ∙ ap (λ m. (m.0, (4, Some c.args.value) ∷ rest m.1)) i.2)
