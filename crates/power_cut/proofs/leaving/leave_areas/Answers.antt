use Rattle.std.proofs.Common.{[], ◌∷◌, ◌++◌, sym, ap, ◌∙◌, subst, append_assoc}
use Rattle.power_cut.specs.Left.{Each, InTurn, IsLeftOf, LeavesOption}
use Rattle.power_cut.proofs.InTurn.{in_turn_more, each_more}
use Rattle.power_cut.proofs.leaving.leave_areas.Goals as goal

pub loop-area-preserved : goal.loop-area-preserved
loop-area-preserved g c =
    let i = c.loop-area.invariant in
    let part = c.in-Some.area in
    let leaves = LeavesOption g.C.Chooser.picks in
    let pushed = sym c.in_ok-push.ensures.ok in
    record {
      rest = append_assoc c.loop-area.yielded (part ∷ []) c.next.new.self.rest.items ∙ ap (λ r. c.loop-area.yielded ++ r) (sym c.in-Some.ensures.steps.0) ∙ i.rest;
      asked = subst (λ left. InTurn leaves (c.loop-area.yielded ++ part ∷ []) left c.args.choose.now c.leave_area.new.choose) pushed
          (in_turn_more leaves c.loop-area.yielded c.loop-area.left part c.leave_area.result c.args.choose.now c.loop-area.choose c.leave_area.new.choose i.asked c.leave_area.ensures.asked);
      each = subst (λ left. Each IsLeftOf (c.loop-area.yielded ++ part ∷ []) left) pushed
          (each_more IsLeftOf c.loop-area.yielded c.loop-area.left part c.leave_area.result i.each c.leave_area.ensures.left);
    }
