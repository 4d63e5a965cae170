use Rattle.std.proofs.Common.{◌≡◌, true, subst}
use Rattle.power_cut.specs.Namespace.{ReachEnds}
use Rattle.sets_tests.proofs.power_cut_tests.written.Goals as goal

pub of-words-requires-clause-reach : goal.of-words-requires-clause-reach
of-words-requires-clause-reach c =
    let yes : c.reach_ends.result ≡ true = cc in
    subst (λ ms. ReachEnds c.args.set.now ms) c.deref.ensures.value (c.reach_ends.ensures.yes yes)
