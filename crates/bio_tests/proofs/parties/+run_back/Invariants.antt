use Rattle.std.proofs.Common.{length}
use Rattle.bio_tests.proofs.parties.+run_back.Given as goal

abbrev pub decreases-run_back : goal.decreases-run_back
decreases-run_back g l = length l.steps.items
