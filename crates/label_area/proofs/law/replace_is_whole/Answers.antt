use Rattle.label_area.proofs.After.{replace_is_whole, replace_settles}
use Rattle.label_area.proofs.law.replace_is_whole.Goals as goal

pub returns-clause-whole : goal.returns-clause-whole
returns-clause-whole c = replace_is_whole

pub returns-clause-settles : goal.returns-clause-settles
returns-clause-settles c = replace_settles
