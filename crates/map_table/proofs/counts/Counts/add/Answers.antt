use Rattle.std.proofs.Common.{◌<◌, ◌+◌, min, ap, sym, ◌∙◌, length, List, ℕ, Bool, get_or, set}
use Rattle.map_table.specs.Times.{counts_of}
use Rattle.map_table.proofs.Tallies.{counted_inside, counts_first, counts_again}
use Rattle.map_table.proofs.counts.Counts.add.Goals as goal

pub get-requires : goal.get-requires
get-requires c = counted_inside c.self.inside.named c.self.inside.again c.args.self.now c.args.block c.self.view_is c.self.invariant c.requires

pub set-requires-else-get : goal.set-requires-else-get
set-requires-else-get c = counted_inside c.self.inside.named c.self.inside.again c.args.self.now c.args.block c.self.view_is c.self.invariant c.requires

pub returns-then-get : goal.returns-then-get
returns-then-get c =
    let lt : c.args.block < length c.self.inside.named = counted_inside c.self.inside.named c.self.inside.again c.args.self.now c.args.block c.self.view_is c.self.invariant c.requires in
    ap (λ (again : List Bool). counts_of c.self.inside.named again) c.set.ensures
    ∙ counts_again c.self.inside.named c.self.inside.again c.args.block c.self.invariant lt (sym c.get.ensures ∙ c.if-get.true)
    ∙ ap (λ (l : List ℕ). set l c.args.block (min 2 (get_or l c.args.block 0 + 1))) c.self.view_is

pub returns-else-get : goal.returns-else-get
returns-else-get c =
    let lt : c.args.block < length c.self.inside.named = counted_inside c.self.inside.named c.self.inside.again c.args.self.now c.args.block c.self.view_is c.self.invariant c.requires in
    ap (λ (named : List Bool). counts_of named c.self.inside.again) c.set-else-get.ensures
    ∙ counts_first c.self.inside.named c.self.inside.again c.args.block c.self.invariant lt (sym c.get.ensures ∙ c.if-get.false)
    ∙ ap (λ (l : List ℕ). set l c.args.block (min 2 (get_or l c.args.block 0 + 1))) c.self.view_is
