use Rattle.std.proofs.Common.{refl}
use Rattle.shell_changes.proofs.saving.saved_answer.Goals as goal

pub returns : goal.returns
returns g c = record { set = c.in_ok-set.set; leaves = c.in_ok-set.ensures; ends_so = refl; says = refl; saves = refl }
