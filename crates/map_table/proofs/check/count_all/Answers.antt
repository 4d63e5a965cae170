use Rattle.std.proofs.Common.{ℕ, ap, ◌∙◌}
use Rattle.map_table.specs.Blocks.{first_outside}
use Rattle.map_table.proofs.Checked.{outside_first, outside_second}
use Rattle.map_table.proofs.check.count_all.Goals as goal

pub returns-in-Some-clause-outside : goal.returns-in-Some-clause-outside
returns-in-Some-clause-outside c = outside_first _ _ _ _ c.in-Some.ensures.outside

pub returns-in-None-clause-outside : goal.returns-in-None-clause-outside
returns-in-None-clause-outside c =
    outside_second _ _ _ _ c.in-None.ensures.outside (c.count_free.ensures.outside ∙ ap (λ (n : ℕ). first_outside n c.args.free.now) c.count_entries.ensures.sized)
