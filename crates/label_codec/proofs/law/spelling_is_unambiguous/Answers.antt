use Rattle.label_codec.proofs.Laws.{no_shared_spelling}
use Rattle.label_codec.proofs.Laws.{no_double_reading}
use Rattle.label_codec.proofs.law.spelling_is_unambiguous.Goals as goal

pub returns-clause-shared : goal.returns-clause-shared
returns-clause-shared c = no_shared_spelling

pub returns-clause-double : goal.returns-clause-double
returns-clause-double c = no_double_reading
