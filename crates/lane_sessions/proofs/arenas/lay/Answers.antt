use Rattle.std.proofs.Common.{[], ◌∷◌, ◌++◌, append_assoc, ap, ◌∙◌, sym}
use Rattle.lane_sessions.proofs.arenas.lay.Goals as goal

pub loop-state-preserved : goal.loop-state-preserved
loop-state-preserved c =
    let i = c.loop-state.invariant in
    let state = c.in-Some.state in
    let done = c.loop-state.yielded in
    record {
      rest = append_assoc done (state ∷ []) c.next.new.self.rest.items ∙ ap (λ r. done ++ r) (sym c.in-Some.ensures.steps.0) ∙ i.rest;
      laid = c.in_ok-add_column.ensures.laid done state i.laid c.in_ok-column.ensures;
    }
