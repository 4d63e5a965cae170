use Rattle.std.proofs.Common.{List, [], ◌∷◌, ◌++◌, None, ap, arith, refl, ◌∙◌}
use Rattle.arena_open.specs.declared.state.ArenaState.{ArenaState}
use Rattle.lane_sessions.specs.declared.making.SessionLimits.{SessionLimits}
use Rattle.bio_tests.proofs.Beginning.{two_new}
use Rattle.bio_tests.proofs.arena.begin.Goals as goal

pub returns-clause-sessions : goal.returns-clause-sessions
returns-clause-sessions c =
    let s = c.in_ok-made.made.sectors in
    let state = c.in_ok-state.state in
    let limit : SessionLimits = record { cut = None; calls = 200 } in
    let states = c.in_ok-push.ensures.items ∙ ap (λ (r : List ArenaState). r ++ state ∷ []) c.new-states.ensures.items in
    two_new s c.push.new.self.items state states c.in_ok-made.ensures.arenas c.in_ok-state.ensures.width c.in_ok-state.ensures.sectors limit c.in_ok-made.made.sessions.items c.in_ok-made.ensures.sessions
    (λ q x some new. c.new_session_may_make.ensures.may s state [] limit q x some refl (omega arith) new)
