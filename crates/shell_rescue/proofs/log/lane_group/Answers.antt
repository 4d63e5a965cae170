use Rattle.std.proofs.Common.{Option, subst, sym}
use Rattle.std.specs.Prelude.{IfSome}
use Rattle.flog.specs.declared.group.Group.{Group}
use Rattle.arena_open.specs.Halves.{IsInRange}
use Rattle.shell_rescue.proofs.Counted.{accepted_in_range}
use Rattle.shell_rescue.proofs.log.lane_group.Goals as goal

pub returns-clause-in_range : goal.returns-clause-in_range
returns-clause-in_range g c =
    let l = c.args.layout.now in
    subst (λ (o : Option Group). IfSome o (λ group. IsInRange l.external group.half)) (sym c.accepted.ensures)
    (accepted_in_range l c.requires.layout c.log_group.result c.read_group.result c.read_group.ensures.group)
