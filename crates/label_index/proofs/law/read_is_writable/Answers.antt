use Rattle.label_index.proofs.Laws.{read_is_valid}
use Rattle.label_index.proofs.law.read_is_writable.Goals as goal

pub returns : goal.returns
returns c = read_is_valid
