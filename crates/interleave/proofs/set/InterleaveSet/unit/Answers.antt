use Rattle.std.proofs.Common.{ℕ, ◌^◌, ◌%◌, List, subst, ap, ◌∙◌}
use Rattle.nfit_reader.specs.declared.table.Mapping.{Mapping}
use Rattle.interleave.specs.Sound.{PartsAlike}
use Rattle.interleave.proofs.Stripes.{parts_alike, unit_words}
use Rattle.interleave.proofs.set.InterleaveSet.unit.Goals as goal

pub returns-clause-parts : goal.returns-clause-parts
returns-clause-parts c =
    subst (λ (l : List Mapping). PartsAlike l) c.self.view_is
    (parts_alike (2 ^ c.self.inside.line_bits) (2 ^ c.self.inside.count_bits) c.self.inside.mappings c.self.inside.table.items c.self.invariant.made c.self.invariant.some)

pub returns-clause-whole : goal.returns-clause-whole
returns-clause-whole c =
    ap (λ (n : ℕ). n % 8) c.self.invariant.is_unit
    ∙ unit_words (2 ^ c.self.inside.line_bits) (2 ^ c.self.inside.count_bits) c.self.inside.mappings c.self.inside.table.items c.self.invariant.made c.self.invariant.some
