use Rattle.std.proofs.Common.{List, sym, subst}
use Rattle.namespace_areas.specs.declared.area.Area.{Area}
use Rattle.namespace_areas.specs.Areas.{AreRunning}
use Rattle.namespace_areas.proofs.Seen.{held_running}
use Rattle.namespace_ops.proofs.registry.Registry.over.Goals as goal

pub check_overlap-requires-clause-running : goal.check_overlap-requires-clause-running
check_overlap-requires-clause-running c = subst (λ (xs : List Area). AreRunning xs) (sym c.as_slice.ensures) (held_running c.args.areas c.requires.held)
