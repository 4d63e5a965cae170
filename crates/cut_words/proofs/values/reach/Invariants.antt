use Rattle.std.proofs.Common.{◌≡◌, ◌+◌, ◌-◌, ◌≤◌, ◌++◌, max, replicate, vec_len}
use Rattle.std.specs.Vec.{vec_capacity}
use Rattle.cut_words.proofs.values.reach.Given as goal

abbrev pub invariant-loop-front : goal.invariant-loop-front
invariant-loop-front l = record {
  items : l.front.items ≡ l.initial.front.items ++ replicate (vec_len l.front - vec_len l.initial.front) 0;
  from : vec_len l.initial.front ≤ vec_len l.front;
  to : vec_len l.front ≤ max (vec_len l.initial.front) (l.i + 1);
  room : vec_capacity l.initial.front ≤ vec_capacity l.front;
}

abbrev pub decreases-loop-front : goal.decreases-loop-front
decreases-loop-front l = l.i + 1 - vec_len l.front
