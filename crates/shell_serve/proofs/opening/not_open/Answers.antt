use Rattle.std.proofs.Common.{refl}
use Rattle.shell_serve.proofs.opening.not_open.Goals as goal

pub returns-in-Ok-clause-made : goal.returns-in-Ok-clause-made
returns-in-Ok-clause-made c = (c.in-Ok.report, (c.in-Ok.is, refl))
