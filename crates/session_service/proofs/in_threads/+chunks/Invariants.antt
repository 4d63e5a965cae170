use Prim.Native.Nat.{◌+◌, ◌*◌}
use lib.ListN.{length}
use Rattle.session_service.proofs.in_threads.+chunks.Given as goal

abbrev pub decreases-chunks_from : goal.decreases-chunks_from
decreases-chunks_from g l = 3 * length l.items.now

abbrev pub decreases-first_and_rest : goal.decreases-first_and_rest
decreases-first_and_rest g l = 3 * length l.rest.now + 2

abbrev pub decreases-first_and_rest-here : goal.decreases-first_and_rest-here
decreases-first_and_rest-here g l = 3 * length l.rest.now + 1
