use Rattle.label_index.proofs.Laws.{spelling_stands}
use Rattle.label_index.proofs.Laws.{spelling_reads_back}
use Rattle.label_index.proofs.law.spelling_reads_back.Goals as goal

pub returns-clause-stands : goal.returns-clause-stands
returns-clause-stands c = spelling_stands

pub returns-clause-read : goal.returns-clause-read
returns-clause-read c = spelling_reads_back
