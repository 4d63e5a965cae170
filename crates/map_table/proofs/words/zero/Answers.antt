use Rattle.map_table.proofs.Entries.{zero_back}
use Rattle.map_table.proofs.words.zero.Goals as goal

pub returns-clause-reads_back : goal.returns-clause-reads_back
returns-clause-reads_back c = λ sector. zero_back c.args.block sector c.requires
