use Rattle.std.proofs.Common.{◌∙◌}
use Rattle.map_table.proofs.Once.{sound, once_named}
use Rattle.map_table.proofs.check.check_blocks.Goals as goal

pub returns-clause-sound : goal.returns-clause-sound
returns-clause-sound c = sound _ _ _ c.check_in.ensures

pub returns-clause-complete : goal.returns-clause-complete
returns-clause-complete c = λ names found. c.check_in.ensures found ∙ once_named _ _ names
