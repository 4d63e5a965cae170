use Rattle.std.proofs.Common.{subst}
use Rattle.std.specs.Prelude.{IfOk}
use Rattle.arena_open.specs.Halves.{AreInRange}
use Rattle.namespace_words.proofs.HeldArenas.{groups_in_range}
use Rattle.shell_check.proofs.log.decode_log.Goals as goal

pub returns-in-Ok-clause-in_range : goal.returns-in-Ok-clause-in_range
returns-in-Ok-clause-in_range c =
    subst (λ r. IfOk r (AreInRange c.args.layout.now.external)) c.in-Ok.is
    (groups_in_range c.args.layout.now c.args.log.now c.groups_of.result c.requires.layout c.groups_of.ensures.told)
