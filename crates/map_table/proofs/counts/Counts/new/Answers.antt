use Rattle.std.proofs.Common.{◌∙◌}
use Rattle.map_table.specs.Times.{counts_of}
use Rattle.map_table.proofs.Tallies.{none_counted}
use Rattle.map_table.proofs.counts.Counts.new.Goals as goal

pub returns : goal.returns
returns c = (λ i. counts_of (c.in_ok-named.ensures i) (c.in_ok-again.ensures i)) ∙ none_counted c.args.blocks
