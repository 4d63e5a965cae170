use Rattle.label_codec.proofs.Laws.{spelling_is_clean}
use Rattle.label_codec.proofs.OneSpelling.{one_spelling}
use Rattle.label_codec.proofs.law.spelling_is_the_one.Goals as goal

pub returns-clause-clean : goal.returns-clause-clean
returns-clause-clean c = spelling_is_clean

pub returns-clause-one : goal.returns-clause-one
returns-clause-one c = one_spelling
