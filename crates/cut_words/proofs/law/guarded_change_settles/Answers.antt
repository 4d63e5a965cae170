use Rattle.cut_words.proofs.Guarded.{all_settled}
use Rattle.cut_words.proofs.law.guarded_change_settles.Goals as goal

pub returns : goal.returns
returns c = all_settled
