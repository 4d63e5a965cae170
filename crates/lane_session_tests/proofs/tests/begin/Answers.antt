use Rattle.std.proofs.Common.{List, [], ◌∷◌, ◌++◌, Some, None, ap, arith, ◌∙◌}
use Rattle.arena_open.specs.declared.state.ArenaState.{ArenaState}
use Rattle.lane_session_tests.proofs.Making.{first_new, second_new, third_new}
use Rattle.lane_session_tests.proofs.tests.begin.Goals as goal

pub returns-clause-first : goal.returns-clause-first
returns-clause-first c =
    let states = c.in_ok-push.ensures.items ∙ ap (λ (r : List ArenaState). r ++ c.in_ok-state.state ∷ []) c.new-states.ensures.items in
    first_new c.in_ok-made.made.sectors c.push.new.self.items c.in_ok-state.state states c.in_ok-made.ensures.arenas c.in_ok-state.ensures.width c.in_ok-state.ensures.sectors
    (record { cut = None; calls = 601 }) (record { cut = Some 1000; calls = 20 }) (record { cut = None; calls = 3 })
    c.in_ok-made.made.sessions.items c.in_ok-first.first c.in_ok-first.second c.in_ok-first.third c.in_ok-first.ensures c.in_ok-made.ensures.sessions (omega arith)

pub returns-clause-second : goal.returns-clause-second
returns-clause-second c =
    let states = c.in_ok-push.ensures.items ∙ ap (λ (r : List ArenaState). r ++ c.in_ok-state.state ∷ []) c.new-states.ensures.items in
    second_new c.in_ok-made.made.sectors c.push.new.self.items c.in_ok-state.state states c.in_ok-made.ensures.arenas c.in_ok-state.ensures.width c.in_ok-state.ensures.sectors
    (record { cut = None; calls = 601 }) (record { cut = Some 1000; calls = 20 }) (record { cut = None; calls = 3 })
    c.in_ok-made.made.sessions.items c.in_ok-first.first c.in_ok-first.second c.in_ok-first.third c.in_ok-first.ensures c.in_ok-made.ensures.sessions (omega arith)

pub returns-clause-third : goal.returns-clause-third
returns-clause-third c =
    let states = c.in_ok-push.ensures.items ∙ ap (λ (r : List ArenaState). r ++ c.in_ok-state.state ∷ []) c.new-states.ensures.items in
    third_new c.in_ok-made.made.sectors c.push.new.self.items c.in_ok-state.state states c.in_ok-made.ensures.arenas c.in_ok-state.ensures.width c.in_ok-state.ensures.sectors
    (record { cut = None; calls = 601 }) (record { cut = Some 1000; calls = 20 }) (record { cut = None; calls = 3 })
    c.in_ok-made.made.sessions.items c.in_ok-first.first c.in_ok-first.second c.in_ok-first.third c.in_ok-first.ensures c.in_ok-made.ensures.sessions (omega arith)
