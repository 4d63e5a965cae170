use Rattle.std.proofs.Common.{subst, Some}
use Rattle.std.proofs.Math.ListN.{set}
use Rattle.power_cut.specs.Left.{LeavesAll, IsLeftOfAll}
use Rattle.image_set.proofs.Areas.{area_left, copyable}
use Rattle.image_set.proofs.outline.Outline.leave_area.Goals as goal

pub returns-clause-left : goal.returns-clause-left
returns-clause-left g c =
    let alone = c.in_ok-images.ensures.alone c.new-2.ensures.items in
    area_left g.C.Chooser.picks c.args.self c.args.«module» c.args.area c.in_ok-images.images c.args.choose.now c.leave_all.new.choose c.requires.sound c.requires.named
    (subst (λ cs. LeavesAll g.C.Chooser.picks (set c.args.self.labels c.args.«module» (Some c.args.area)) cs c.in_ok-images.images c.args.choose.now c.leave_all.new.choose) c.new.ensures
    (subst (λ ls. LeavesAll g.C.Chooser.picks ls c.new.result c.in_ok-images.images c.args.choose.now c.leave_all.new.choose) c.with_area-labels.ensures alone.0))
    (subst (λ cs. IsLeftOfAll (set c.args.self.labels c.args.«module» (Some c.args.area)) cs c.in_ok-images.images) c.new.ensures
    (subst (λ ls. IsLeftOfAll ls c.new.result c.in_ok-images.images) c.with_area-labels.ensures alone.1))

pub returns-clause-copyable : goal.returns-clause-copyable
returns-clause-copyable g c =
    let alone = c.in_ok-images.ensures.alone c.new-2.ensures.items in
    copyable g.C.Chooser.picks c.args.self c.args.«module» c.args.area c.in_ok-images.images c.args.choose.now c.leave_all.new.choose c.requires.sound c.requires.named
    (subst (λ cs. LeavesAll g.C.Chooser.picks (set c.args.self.labels c.args.«module» (Some c.args.area)) cs c.in_ok-images.images c.args.choose.now c.leave_all.new.choose) c.new.ensures
    (subst (λ ls. LeavesAll g.C.Chooser.picks ls c.new.result c.in_ok-images.images c.args.choose.now c.leave_all.new.choose) c.with_area-labels.ensures alone.0))
