use Rattle.std.proofs.Common.{sym, subst}
use Rattle.std.specs.Prelude.{IfOk}
use Rattle.shell_changes.specs.declared.saving.Remains.{Remains}
use Rattle.shell_changes.specs.Remains.{CanLeave, LeavesSet}
use Rattle.shell_changes.proofs.saving.set_left.Goals as goal

pub area_left-requires-clause-sound : goal.area_left-requires-clause-sound
area_left-requires-clause-sound g c = (subst CanLeave c.in-Area.is c.requires).0

pub area_left-requires-clause-there : goal.area_left-requires-clause-there
area_left-requires-clause-there g c = (subst CanLeave c.in-Area.is c.requires).1

pub areas_left-requires : goal.areas_left-requires
areas_left-requires g c = subst CanLeave c.in-Areas.is c.requires

pub formatted_left-requires-clause-areas : goal.formatted_left-requires-clause-areas
formatted_left-requires-clause-areas g c = (subst CanLeave c.in-Formatted.is c.requires).0

pub formatted_left-requires-clause-arena : goal.formatted_left-requires-clause-arena
formatted_left-requires-clause-arena g c = (subst CanLeave c.in-Formatted.is c.requires).1

pub returns-in-Area : goal.returns-in-Area
returns-in-Area g c =
    subst (λ (remains : Remains). IfOk c.area_left.result (λ set. LeavesSet g.C.Chooser.picks remains set c.args.choose.now c.area_left.new.choose)) (sym c.in-Area.is) c.area_left.ensures

pub returns-in-Areas : goal.returns-in-Areas
returns-in-Areas g c =
    subst (λ (remains : Remains). IfOk c.areas_left.result (λ set. LeavesSet g.C.Chooser.picks remains set c.args.choose.now c.areas_left.new.choose)) (sym c.in-Areas.is) c.areas_left.ensures

pub returns-in-Formatted : goal.returns-in-Formatted
returns-in-Formatted g c =
    subst (λ (remains : Remains). IfOk c.formatted_left.result (λ set. LeavesSet g.C.Chooser.picks remains set c.args.choose.now c.formatted_left.new.choose)) (sym c.in-Formatted.is) c.formatted_left.ensures
