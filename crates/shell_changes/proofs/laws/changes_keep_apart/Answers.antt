use Rattle.shell_changes.proofs.Maps.{keep_apart}
use Rattle.shell_changes.proofs.laws.changes_keep_apart.Goals as goal

pub returns : goal.returns
returns c = keep_apart
