use Rattle.std.proofs.Common.{ℕ, List, [], ◌∷◌, ◌++◌, ap, sym, subst, ◌∙◌}
use Rattle.lane_calls.specs.declared.session.Session.{Session}
use Rattle.lane_calls.specs.Sessions.{Parts}
use Rattle.lane_sessions.specs.Ending.{KnowAll}
use Rattle.bio_tests.proofs.Pairs.{both_known}
use Rattle.bio_tests.proofs.arena.end.Goals as goal

pub close_sectors-requires-clause-known : goal.close_sectors-requires-clause-known
close_sectors-requires-clause-known g c =
    let one = c.in_ok-push.ensures.items ∙ ap (λ (r : List Session). r ++ c.pause.new.session ∷ []) c.new-sessions.ensures.items in
    let two = c.in_ok-push-2.ensures.items ∙ ap (λ (r : List Session). r ++ c.pause-2.new.session ∷ []) one in
    subst (λ (r : List Session). (parts : ℕ → Parts) × KnowAll c.args.sectors parts r) (sym two)
    (both_known c.args.sectors c.pause.new.session c.pause-2.new.session (c.pause.ensures.number ∙ c.requires.numbers.0) (c.pause-2.ensures.number ∙ c.requires.numbers.1) c.pause.ensures.between c.pause-2.ensures.between)
