use Rattle.shell_set_check.proofs.Loads.{lines_are_loaded}
use Rattle.shell_set_check.proofs.law.lines_are_loaded.Goals as goal

pub returns : goal.returns
returns c = lines_are_loaded
