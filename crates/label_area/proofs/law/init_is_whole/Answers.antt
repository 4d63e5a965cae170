use Rattle.label_area.proofs.Init.{init_is_whole}
use Rattle.label_area.proofs.law.init_is_whole.Goals as goal

pub returns : goal.returns
returns c = init_is_whole
