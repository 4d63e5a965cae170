use Rattle.std.proofs.Common.{ap, sym, ◌∙◌, length, List, ℕ}
use Rattle.map_table.proofs.Tallies.{length_counts}
use Rattle.map_table.proofs.counts.Counts.len.Goals as goal

pub returns : goal.returns
returns c =
    c.len.ensures ∙ sym (length_counts c.self.inside.named c.self.inside.again c.self.invariant) ∙ ap (λ (l : List ℕ). length l) c.self.view_is
