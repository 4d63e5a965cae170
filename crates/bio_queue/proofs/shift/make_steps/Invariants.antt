use Rattle.bio_queue.proofs.shift.make_steps.Given as goal

abbrev pub invariant-loop : goal.invariant-loop
invariant-loop g l =
    (goal.iterator-loop g).can_next l.iterator'
    × (goal.iterator-loop g).is_finite l.iterator'
    × g.W.Shift.may l.queue l.sectors l.item
    × g.W.Shift.since l.initial.item l.item
