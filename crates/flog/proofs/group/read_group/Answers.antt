use Rattle.flog.proofs.Halves.{newer, packs}
use Rattle.flog.proofs.group.read_group.Goals as goal

pub returns-clause-newer : goal.returns-clause-newer
returns-clause-newer c = newer _ _ _ _ c.read_current.ensures

pub returns-clause-packs : goal.returns-clause-packs
returns-clause-packs c = packs _ _ _ _ c.read_current.ensures
