use Rattle.interleave.proofs.Exponents.{exponent_of}
use Rattle.interleave.proofs.powers.exponent.Goals as goal

pub returns-clause-exact : goal.returns-clause-exact
returns-clause-exact c = (exponent_of c.args.power c.requires c.ranges.power.fits).0

pub returns-clause-fits : goal.returns-clause-fits
returns-clause-fits c = (exponent_of c.args.power c.requires c.ranges.power.fits).1
