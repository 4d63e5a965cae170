use Rattle.shell_changes.proofs.Maps.{reports_show}
use Rattle.shell_changes.proofs.laws.reports_show_the_map.Goals as goal

pub returns : goal.returns
returns c = reports_show
