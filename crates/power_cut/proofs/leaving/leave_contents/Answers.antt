use Rattle.std.proofs.Common.{[], ◌∷◌, ◌++◌, sym, ap, ◌∙◌, subst, append_assoc}
use Rattle.cut_words.specs.Words.{IsLeft}
use Rattle.power_cut.specs.Left.{Each, InTurn, LeavesWords}
use Rattle.power_cut.proofs.InTurn.{in_turn_more, each_more}
use Rattle.power_cut.proofs.leaving.leave_contents.Goals as goal

pub loop-words-preserved : goal.loop-words-preserved
loop-words-preserved g c =
    let i = c.loop-words.invariant in
    let part = c.in-Some.words in
    let leaves = LeavesWords g.C.Chooser.picks in
    let pushed = sym c.in_ok-push.ensures.ok in
    record {
      rest = append_assoc c.loop-words.yielded (part ∷ []) c.next.new.self.rest.items ∙ ap (λ r. c.loop-words.yielded ++ r) (sym c.in-Some.ensures.steps.0) ∙ i.rest;
      asked = subst (λ left. InTurn leaves (c.loop-words.yielded ++ part ∷ []) left c.args.choose.now c.leave_words.new.choose) pushed
          (in_turn_more leaves c.loop-words.yielded c.loop-words.left part c.leave_words.result c.args.choose.now c.loop-words.choose c.leave_words.new.choose i.asked c.leave_words.ensures.asked);
      each = subst (λ left. Each IsLeft (c.loop-words.yielded ++ part ∷ []) left) pushed
          (each_more IsLeft c.loop-words.yielded c.loop-words.left part c.leave_words.result i.each c.leave_words.ensures.left);
    }
