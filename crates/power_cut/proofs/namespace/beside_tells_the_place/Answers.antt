use Rattle.power_cut.proofs.Stays.{placed_stay}
use Rattle.power_cut.proofs.namespace.beside_tells_the_place.Goals as goal

pub returns : goal.returns
returns c = placed_stay
