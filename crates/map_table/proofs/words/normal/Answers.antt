use Rattle.map_table.proofs.Entries.{normal_back}
use Rattle.map_table.proofs.words.normal.Goals as goal

pub returns-clause-reads_back : goal.returns-clause-reads_back
returns-clause-reads_back c = λ sector. normal_back c.args.block sector c.requires
