use Rattle.std.proofs.Common.{◌≡◌, ℕ, List, [], ◌∷◌, ◌++◌, None, ap, sym, subst, ◌∙◌}
use Rattle.std.specs.Prelude.{All}
use Rattle.lane_calls.specs.declared.session.Session.{Session}
use Rattle.lane_calls.specs.Sessions.{Parts}
use Rattle.lane_sessions.specs.Ending.{KnowAll}
use Rattle.lane_session_tests.proofs.Making.{all_between, all_rest}
use Rattle.lane_session_tests.proofs.tests.finish.Goals as goal

pub close_sectors-requires-clause-known : goal.close_sectors-requires-clause-known
close_sectors-requires-clause-known g c =
    let one = c.in_ok-push.ensures.items ∙ ap (λ (r : List Session). r ++ c.pause.new.session ∷ []) c.new-sessions.ensures.items in
    let two = c.in_ok-push-2.ensures.items ∙ ap (λ (r : List Session). r ++ c.pause-2.new.session ∷ []) one in
    let three = c.in_ok-push-3.ensures.items ∙ ap (λ (r : List Session). r ++ c.pause-3.new.session ∷ []) two in
    subst (λ (r : List Session). (parts : ℕ → Parts) × KnowAll c.args.sectors parts r) (sym three)
    (all_between c.args.sectors c.pause.new.session c.pause-2.new.session c.pause-3.new.session
    (c.pause.ensures.number ∙ c.requires.first.0, c.pause.ensures.resting.0) (c.pause-2.ensures.number ∙ c.requires.second.0, c.pause-2.ensures.resting.0) (c.pause-3.ensures.number ∙ c.requires.third.0, c.pause-3.ensures.resting.0))

pub close_sectors-requires-clause-rest : goal.close_sectors-requires-clause-rest
close_sectors-requires-clause-rest g c =
    let one = c.in_ok-push.ensures.items ∙ ap (λ (r : List Session). r ++ c.pause.new.session ∷ []) c.new-sessions.ensures.items in
    let two = c.in_ok-push-2.ensures.items ∙ ap (λ (r : List Session). r ++ c.pause-2.new.session ∷ []) one in
    let three = c.in_ok-push-3.ensures.items ∙ ap (λ (r : List Session). r ++ c.pause-3.new.session ∷ []) two in
    subst (λ (r : List Session). All (λ (s : Session). s.kept ≡ None) r) (sym three)
    (all_rest c.pause.new.session c.pause-2.new.session c.pause-3.new.session c.pause.ensures.resting.1 c.pause-2.ensures.resting.1 c.pause-3.ensures.resting.1)
