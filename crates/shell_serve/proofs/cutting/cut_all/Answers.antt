use Rattle.std.proofs.Common.{All, [], ◌∷◌, ◌++◌, sym, ap, ◌∙◌, subst, append_assoc}
use Rattle.power_cut.specs.Left.{Each}
use Rattle.cut_words.specs.Words.{IsLeft}
use Rattle.shell_serve.specs.Chosen.{LeavesArenas}
use Rattle.shell_serve.proofs.Choosing.{in_turn_more}
use Rattle.shell_serve.proofs.Lists.{each_more}
use Rattle.shell_serve.proofs.cutting.cut_all.Goals as goal

pub loop-own-preserved : goal.loop-own-preserved
loop-own-preserved g c =
    let i = c.loop-own.invariant in
    let own = c.in-Some.own in
    record {
      rest = append_assoc c.loop-own.yielded (own ∷ []) c.next.new.self.rest.items ∙ ap (λ r. c.loop-own.yielded ++ r) (sym c.in-Some.ensures.steps.0) ∙ i.rest;
      asked =
          in_turn_more (LeavesArenas g.C.Chooser.picks) c.loop-own.yielded c.loop-own.left.items _ own c.in_ok-cut_arenas.field-0 c.args.choose.now c.loop-own.choose c.cut_arenas.new.choose c.in_ok-push.ensures.items i.asked
          c.in_ok-cut_arenas.ensures.asked;
      each = subst (λ left. Each (λ own parts. Each IsLeft own.items parts) (c.loop-own.yielded ++ own ∷ []) left) (sym c.in_ok-push.ensures.items)
          (each_more (λ own parts. Each IsLeft own.items parts) c.loop-own.yielded c.loop-own.left.items own c.in_ok-cut_arenas.field-0 i.each c.in_ok-cut_arenas.ensures.cut);
    }
