use Rattle.std.proofs.Common.{◌≡◌, ℕ, ◌-◌, ◌%◌, ◌^◌, ◌<◌, false}
use Rattle.interleave.specs.Places.{unit_of}
use Rattle.region_space.specs.Space.{fits}
use Rattle.region_space.proofs.space.Space.first_fit.Given as goal

abbrev pub invariant-loop-offset : goal.invariant-loop-offset
invariant-loop-offset l = record {
  small : l.offset < 2 ^ 65;
  whole : l.offset % unit_of l.set ≡ 0;
  none : (k : ℕ) → k < l.offset → k % unit_of l.set ≡ 0 → fits l.set l.self l.raw k ≡ false;
}

abbrev pub decreases-loop-offset : goal.decreases-loop-offset
decreases-loop-offset l = l.span - l.offset
