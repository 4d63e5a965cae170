use Rattle.std.proofs.Common.{ap, ◌∙◌}
use Rattle.map_table.specs.Entry.{entry_of}
use Rattle.lane_table.proofs.Loads.{found_is}
use Rattle.lane_table.proofs.loading.found_in.Goals as goal

pub returns-in-Zero : goal.returns-in-Zero
returns-in-Zero c = found_is _ c.args.sector _ _ (c.entry-entry.ensures ∙ ap (λ e. entry_of e c.args.sector) c.entry_in.ensures) c.in-Zero.is

pub returns-in-Bad : goal.returns-in-Bad
returns-in-Bad c = found_is _ c.args.sector _ _ (c.entry-entry.ensures ∙ ap (λ e. entry_of e c.args.sector) c.entry_in.ensures) c.in-Bad.is

pub returns-in-Initial : goal.returns-in-Initial
returns-in-Initial c = found_is _ c.args.sector _ _ (c.entry-entry.ensures ∙ ap (λ e. entry_of e c.args.sector) c.entry_in.ensures) c.in-Initial.is

pub returns-in-Normal : goal.returns-in-Normal
returns-in-Normal c = found_is _ c.args.sector _ _ (c.entry-entry.ensures ∙ ap (λ e. entry_of e c.args.sector) c.entry_in.ensures) c.in-Normal.is
