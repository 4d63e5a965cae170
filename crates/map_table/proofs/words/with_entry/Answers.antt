use Rattle.std.proofs.Common.{ℕ, arith, ap, ◌∙◌}
use Rattle.map_table.specs.Entry.{entry_in}
use Rattle.map_table.proofs.Entries.{put_back, other_stays}
use Rattle.map_table.proofs.words.with_entry.Goals as goal

pub returns-clause-put : goal.returns-clause-put
returns-clause-put c =
    ap (λ (w : ℕ). entry_in w c.args.sector) c.replaced.ensures ∙ put_back c.args.word c.args.sector c.args.entry (omega arith)

pub returns-clause-other : goal.returns-clause-other
returns-clause-other c = λ other apart.
    ap (λ (w : ℕ). entry_in w other) c.replaced.ensures ∙ other_stays c.args.word c.args.sector c.args.entry other (omega arith) apart
