use Rattle.label_codec.proofs.Laws.{read_is_writable}
use Rattle.label_codec.proofs.law.read_is_writable.Goals as goal

pub returns : goal.returns
returns c = read_is_writable
