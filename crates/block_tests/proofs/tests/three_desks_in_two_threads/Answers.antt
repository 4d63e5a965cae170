use Rattle.std.proofs.Common.{◌≡◌, length}
use Rattle.block_tests.proofs.tests.three_desks_in_two_threads.Goals as goal

pub serve_operations-requires-clause-fitting : goal.serve_operations-requires-clause-fitting
serve_operations-requires-clause-fitting g c κs = rw (c.in_ok-state.ensures.sectors, c.in_ok-state.ensures.width) c.loop-desk.all.fitting
