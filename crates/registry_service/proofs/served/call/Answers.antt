use Rattle.std.proofs.Common.{sym, subst}
use Rattle.namespace_map.specs.declared.commands.Command.{Command}
use Rattle.namespace_ops.specs.Counted.{Answered}
use Rattle.namespace_ops.specs.Registered.{state_of}
use Rattle.registry_service.proofs.served.call.Goals as goal

pub returns-in-Unclaim-clause-answered : goal.returns-in-Unclaim-clause-answered
returns-in-Unclaim-clause-answered c =
    subst (λ (k : Command). Answered (state_of c.args.registry.now) (state_of c.unclaim.new.self) c.args.fuse.now c.args.fuse.now k c.unclaim.result) (sym c.in-Unclaim.is) (c.unclaim.ensures.answered c.args.fuse.now)
