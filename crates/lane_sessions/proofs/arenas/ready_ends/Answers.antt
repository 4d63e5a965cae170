use Rattle.std.proofs.Common.{[], ◌∷◌, ◌++◌, append_assoc, ap, ◌∙◌, sym, subst}
use Rattle.lane_sessions.specs.Making.{IsEndOf}
use Rattle.lane_sessions.specs.Rows.{Along}
use Rattle.lane_sessions.proofs.Along.{along_push}
use Rattle.lane_sessions.proofs.arenas.ready_ends.Goals as goal

pub loop-lane-preserved : goal.loop-lane-preserved
loop-lane-preserved c =
    let i = c.loop-lane.invariant in
    let l = c.in-Some.lane in
    let done = c.loop-lane.yielded in
    record {
      rest = append_assoc done (l ∷ []) c.next.new.self.rest.items ∙ ap (λ r. done ++ r) (sym c.in-Some.ensures.steps.0) ∙ i.rest;
      ends = subst (λ xs. Along (IsEndOf c.args.calls) (done ++ l ∷ []) xs) (sym c.in_ok-push.ensures.items) (along_push (IsEndOf c.args.calls) done c.loop-lane.ends.items l _ i.ends c.in_ok-ready_end.ensures);
    }
