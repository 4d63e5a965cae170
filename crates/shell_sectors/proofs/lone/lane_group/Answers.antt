use Rattle.std.proofs.Common.{◌∙◌, List, get_or, sym, ap, subst}
use Rattle.flog.specs.declared.group.Group.{Group}
use Rattle.arena_open.specs.declared.opened.Opened.{Opened}
use Rattle.lane_core.specs.Arenas.{no_group}
use Rattle.shell_sectors.specs.LoneRuns.{CanWrite}
use Rattle.shell_sectors.proofs.LaneFacts.{can_write}
use Rattle.shell_sectors.proofs.lone.lane_group.Goals as goal

pub returns-clause-writes : goal.returns-clause-writes
returns-clause-writes c =
    subst (λ (gs : List Group). CanWrite c.args.arena.now.opened.info.layout.internal (get_or gs 0 no_group))
    (sym (c.as_slice.ensures ∙ ap (λ (o : Opened). o.groups) c.parts.ensures)) (can_write c.args.arena.now c.requires)
