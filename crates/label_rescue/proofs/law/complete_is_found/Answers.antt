use Rattle.label_rescue.proofs.Whole.{complete_found}
use Rattle.label_rescue.proofs.law.complete_is_found.Goals as goal

pub returns : goal.returns
returns c = complete_found
