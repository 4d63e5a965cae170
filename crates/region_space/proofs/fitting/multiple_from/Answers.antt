use Rattle.region_space.proofs.Multiples.{multiple_from}
use Rattle.region_space.proofs.fitting.multiple_from.Goals as goal

pub returns : goal.returns
returns c = rw c.from-unit.ensures (multiple_from c.args.bytes c.args.unit c.requires.positive)
