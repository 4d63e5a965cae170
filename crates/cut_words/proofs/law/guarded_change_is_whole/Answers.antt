use Rattle.cut_words.proofs.Guarded.{whole}
use Rattle.cut_words.proofs.law.guarded_change_is_whole.Goals as goal

pub returns : goal.returns
returns c = whole
