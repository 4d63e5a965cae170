use Rattle.std.proofs.Common.{◌≡◌, ℕ, ◌-◌, ◌<◌, ◌≤◌, false, List, Option}
use Rattle.bad_ranges.specs.Bad.{bad_words}
use Rattle.bad_ranges.specs.Table.{AreTables}
use Rattle.bad_ranges.proofs.extent.are_any_bad.Given as goal

abbrev pub invariant-loop-i : goal.invariant-loop-i
invariant-loop-i l = record {
  from : l.first ≤ l.i;
  good : (objects : List (Option (List ℕ))) → AreTables l.tables objects → (j : ℕ) → l.first ≤ j → j < l.i → bad_words l.extent objects j ≡ false;
}

abbrev pub decreases-loop-i : goal.decreases-loop-i
decreases-loop-i l = l.end - l.i
