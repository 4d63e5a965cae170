use Rattle.bio_queue.proofs.stepping.serve_next.Goals as goal

pub take_turn-requires-clause-done : goal.take_turn-requires-clause-done
take_turn-requires-clause-done g c = let s = c.reserve_one.ensures.same in rw (s.0, s.2, s.3, s.4, s.5, c.reserve_one.ensures.completed) c.requires.done

pub stop-requires-in-Err-clause-done : goal.stop-requires-in-Err-clause-done
stop-requires-in-Err-clause-done g c = let s = c.reserve_one.ensures.same in rw (s.0, s.2, s.3, s.4, s.5, c.reserve_one.ensures.completed) c.requires.done
