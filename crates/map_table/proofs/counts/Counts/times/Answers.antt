use Rattle.std.proofs.Common.{sym, ◌∙◌, get_or, refl, Bool, true, false}
use Rattle.map_table.proofs.Tallies.{counted_inside, times_at}
use Rattle.map_table.proofs.counts.Counts.times.Goals as goal

pub get-requires : goal.get-requires
get-requires c =
    rw c.self.invariant
    (counted_inside c.self.inside.named c.self.inside.again c.args.self.now c.args.block c.self.view_is c.self.invariant c.requires)

pub get-requires-else-get : goal.get-requires-else-get
get-requires-else-get c = counted_inside c.self.inside.named c.self.inside.again c.args.self.now c.args.block c.self.view_is c.self.invariant c.requires

pub returns-then-get : goal.returns-then-get
returns-then-get c =
    times_at c.self.inside.named c.self.inside.again c.args.self.now c.args.block (get_or c.self.inside.named c.args.block false) true c.self.view_is c.self.invariant
    (counted_inside c.self.inside.named c.self.inside.again c.args.self.now c.args.block c.self.view_is c.self.invariant c.requires) refl
    (sym c.get.ensures ∙ c.if-get.true)

pub returns-then-get-2 : goal.returns-then-get-2
returns-then-get-2 c =
    times_at c.self.inside.named c.self.inside.again c.args.self.now c.args.block true false c.self.view_is c.self.invariant
    (counted_inside c.self.inside.named c.self.inside.again c.args.self.now c.args.block c.self.view_is c.self.invariant c.requires)
    (sym c.get-else-get.ensures ∙ c.if-get-2.true) (sym c.get.ensures ∙ c.if-get.false)

pub returns-else-get-2 : goal.returns-else-get-2
returns-else-get-2 c =
    times_at c.self.inside.named c.self.inside.again c.args.self.now c.args.block false false c.self.view_is c.self.invariant
    (counted_inside c.self.inside.named c.self.inside.again c.args.self.now c.args.block c.self.view_is c.self.invariant c.requires)
    (sym c.get-else-get.ensures ∙ c.if-get-2.false) (sym c.get.ensures ∙ c.if-get.false)
