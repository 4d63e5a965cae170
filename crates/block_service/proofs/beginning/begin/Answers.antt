use Rattle.std.proofs.Common.{List, [], ◌∷◌, ◌++◌, ap, ◌∙◌}
use Rattle.arena_open.specs.declared.state.ArenaState.{ArenaState}
use Rattle.block_service.proofs.Sessions.{begun}
use Rattle.block_service.proofs.beginning.begin.Goals as goal

pub returns-clause-sessions : goal.returns-clause-sessions
returns-clause-sessions c =
    let m = c.in_ok-made in
    let state = c.args.state in
    let one = c.in_ok-push.ensures.items ∙ ap (λ (r : List ArenaState). r ++ state ∷ []) c.new-states.ensures.items in
    begun m.made.sectors state c.push.new.self.items c.as_slice.result.now c.in_ok-limits.limits.items c.args.calls m.made.sessions.items one m.ensures.arenas c.as_slice.ensures.value c.in_ok-limits.ensures.each c.ranges.calls.fits m.ensures.sessions
    (λ l q x some cut few new. c.new_session_may_make.ensures.may m.made.sectors state [] l q x some cut few new)
    (λ l q x new. c.new_session_may_make.ensures.on m.made.sectors (state ∷ []) l q x new)
