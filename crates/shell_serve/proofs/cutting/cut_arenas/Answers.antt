use Rattle.std.proofs.Common.{[], ◌∷◌, ◌++◌, sym, ap, ◌∙◌, subst, append_assoc}
use Rattle.power_cut.specs.Left.{Each, LeavesWords}
use Rattle.cut_words.specs.Words.{IsLeft}
use Rattle.shell_serve.proofs.Choosing.{in_turn_more}
use Rattle.shell_serve.proofs.Lists.{each_more}
use Rattle.shell_serve.proofs.cutting.cut_arenas.Goals as goal

pub loop-arena-preserved : goal.loop-arena-preserved
loop-arena-preserved g c =
    let i = c.loop-arena.invariant in
    let arena = c.in-Some.arena in
    record {
      rest = append_assoc c.loop-arena.yielded (arena ∷ []) c.next.new.self.rest.items ∙ ap (λ r. c.loop-arena.yielded ++ r) (sym c.in-Some.ensures.steps.0) ∙ i.rest;
      asked =
          in_turn_more (LeavesWords g.C.Chooser.picks) c.loop-arena.yielded c.loop-arena.left _ arena c.leave.result c.args.choose.now c.loop-arena.choose c.leave.new.choose c.in_ok-push.ensures.ok i.asked
          c.leave.ensures.asked;
      each = subst (λ left. Each IsLeft (c.loop-arena.yielded ++ arena ∷ []) left) (sym c.in_ok-push.ensures.ok)
          (each_more IsLeft c.loop-arena.yielded c.loop-arena.left arena c.leave.result i.each c.leave.ensures.left);
    }
