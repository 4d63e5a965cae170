use Rattle.std.proofs.Common.{◌<◌, ap, sym, ◌∙◌, length, List, ℕ, ltb, subst}
use Rattle.std.specs.Prelude.{position, IfSome}
use Rattle.map_table.proofs.Tallies.{length_counts, first_flagged}
use Rattle.map_table.proofs.counts.Counts.least_twice.Goals as goal

pub returns-clause-block : goal.returns-clause-block
returns-clause-block c =
    c.first_flag.ensures.first ∙ sym (first_flagged c.self.inside.named c.self.inside.again c.self.invariant) ∙ ap (λ (l : List ℕ). position (ltb 1) l) c.self.view_is

pub returns-clause-inside : goal.returns-clause-inside
returns-clause-inside c =
    subst (λ (n : ℕ). IfSome c.first_flag.result (λ block. block < n))
    (c.self.invariant ∙ sym (length_counts c.self.inside.named c.self.inside.again c.self.invariant) ∙ ap (λ (l : List ℕ). length l) c.self.view_is) c.first_flag.ensures.inside
