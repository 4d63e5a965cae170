use Rattle.std.proofs.Common.{[], refl, sym, subst, ◌∙◌}
use Rattle.power_cut.specs.Left.{InTurn, IsLeftOf, LeavesAll, LeavesOption}
use Rattle.image_set.proofs.Areas.{none_asked}
use Rattle.image_set.proofs.Kept.{each_length}
use Rattle.image_set.proofs.changing.OutlineRest.leave_areas.Goals as goal

pub returns-clause-left : goal.returns-clause-left
returns-clause-left g c =
    let alone = c.in_ok-images.ensures.alone c.new-2.ensures.items in
    let asked : LeavesAll g.C.Chooser.picks c.args.labels [] c.in_ok-images.images c.args.choose.now c.leave_all.new.choose =
    subst (λ cs. LeavesAll g.C.Chooser.picks c.args.labels cs c.in_ok-images.images c.args.choose.now c.leave_all.new.choose) c.new.ensures alone.0 in
    record {
      asked = subst (λ after. InTurn (LeavesOption g.C.Chooser.picks) c.args.labels c.in_ok-images.images.labels c.args.choose.now after)
          (sym (none_asked g.C.Chooser.picks c.in_ok-images.images.contents asked.between c.leave_all.new.choose asked.contents)) asked.labels;
      left_of = alone.1.labels;
      nfit = refl;
      sizes = refl;
      bad = refl;
    }

pub returns-clause-copyable : goal.returns-clause-copyable
returns-clause-copyable g c =
    let alone = c.in_ok-images.ensures.alone c.new-2.ensures.items in
    record {
      labels = each_length IsLeftOf c.args.labels c.in_ok-images.images.labels alone.1.labels ∙ c.requires.count;
      bad = c.requires.rest.bad;
      few = c.requires.rest.few;
    }
