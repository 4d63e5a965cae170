use Rattle.shell_changes.proofs.Maps.{accepted_apart}
use Rattle.shell_changes.proofs.laws.accepted_is_apart.Goals as goal

pub returns : goal.returns
returns c = accepted_apart
