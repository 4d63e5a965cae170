use Rattle.std.proofs.Common.{[], ◌∷◌, ◌++◌, ap, ◌∙◌}
use Rattle.bio_tests.proofs.Pairs.{at_each}
use Rattle.bio_tests.proofs.parties.close.Goals as goal

pub close-requires-clause-done : goal.close-requires-clause-done
close-requires-clause-done g c =
    let one = c.in_ok-push-3.ensures.items ∙ ap (λ r. r ++ c.args.first.worker ∷ []) c.new-workers.ensures.items in
    let two = c.in_ok-push-4.ensures.items ∙ ap (λ r. r ++ c.args.second.worker ∷ []) one in
    at_each _ c.push-4.new.self.items c.args.first.worker c.args.second.worker two c.requires.first c.requires.second
