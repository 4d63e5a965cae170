use Rattle.std.proofs.Common.{◌≡◌, ℕ, ◌+◌, ◌-◌, ◌/◌, ap, ◌∙◌, arith}
use Rattle.arena_layout.specs.Plan.{inner_of, internal_of}
use Rattle.arena_layout.proofs.Sectors.{blocks}
use Rattle.arena_layout.proofs.planning.internal_blocks.Goals as goal

-- the quotient is the number of blocks
is_blocks : (available sector inner from : ℕ) → inner ≡ inner_of sector → from ≡ inner → (available - 4096) / (from + 4) ≡ internal_of available sector
unfolding internal_of
is_blocks available sector inner from e f = ap (λ (k : ℕ). (available - 4096) / (k + 4)) (f ∙ e)

pub overflow_cast-result : goal.overflow_cast-result
overflow_cast-result c =
    let few = (blocks c.args.sector c.requires.sector).few c.args.available c.requires.small in
    omega (arith, few, is_blocks c.args.available c.args.sector c.inner_size.result c.from.result c.inner_size.ensures c.from.ensures)

pub returns-clause-blocks : goal.returns-clause-blocks
returns-clause-blocks c = is_blocks c.args.available c.args.sector c.inner_size.result c.from.result c.inner_size.ensures c.from.ensures

pub returns-clause-some : goal.returns-clause-some
returns-clause-some c =
    let some = (blocks c.args.sector c.requires.sector).some c.args.available c.requires.enough in
    omega (arith, some, is_blocks c.args.available c.args.sector c.inner_size.result c.from.result c.inner_size.ensures c.from.ensures)

pub returns-clause-few : goal.returns-clause-few
returns-clause-few c =
    let few = (blocks c.args.sector c.requires.sector).few c.args.available c.requires.small in
    omega (arith, few, is_blocks c.args.available c.args.sector c.inner_size.result c.from.result c.inner_size.ensures c.from.ensures)

pub returns-clause-entries : goal.returns-clause-entries
returns-clause-entries c =
    let fits = (blocks c.args.sector c.requires.sector).fits c.args.available c.requires.enough in
    omega (arith, fits, is_blocks c.args.available c.args.sector c.inner_size.result c.from.result c.inner_size.ensures c.from.ensures)
