use Rattle.std.proofs.Common.{◌≡◌, not, eqb, ◌&&◌, length, ap, ◌∙◌, subst}
use Rattle.nfit_reader.specs.Table.{is_region}
use Rattle.nfit_reader.proofs.Groups.{region_test}
use Rattle.nfit_reader.proofs.regions.is_region.Goals as goal

pub returns-then-range : goal.returns-then-range
returns-then-range c = λ structures e.
    ap not c.is_empty.ensures
    ∙ subst (λ b. (b && not (eqb (length c.args.group.now) 0)) ≡ is_region structures c.args.range) c.if-range.true (region_test structures c.args.range c.args.group.now e)
