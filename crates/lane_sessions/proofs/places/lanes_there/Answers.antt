use Rattle.std.proofs.Common.{[], ◌∷◌, ◌++◌, ap, ◌∙◌, sym}
use Rattle.lane_sessions.specs.Ending.{there}
use Rattle.lane_sessions.proofs.Columns.{there_push}
use Rattle.lane_sessions.proofs.places.lanes_there.Goals as goal

pub loop-end-preserved : goal.loop-end-preserved
loop-end-preserved c =
    let done = c.loop-end.yielded in
    let end = c.in-Some.end in
    c.in_ok-push_lane.ensures ∙ ap (λ l. l ++ there (end ∷ [])) c.loop-end.invariant ∙ sym (there_push done end)
