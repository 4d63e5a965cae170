use Rattle.std.proofs.Common.{◌≡◌, ◌≤◌, ◌-◌, length, take, drop}
use Rattle.power_cut.specs.Namespace.{words_of}
use Rattle.power_cut.proofs.namespace.SetWordsWordSpace.load_from.Given as goal

abbrev pub invariant-loop-done : goal.invariant-loop-done
invariant-loop-done l = record {
  below : l.done ≤ length l.into;
  count : length l.into ≡ length l.fn.into;
  front : take l.done l.into ≡ take l.done (drop l.first (words_of l.self).kept);
}

abbrev pub decreases-loop-done : goal.decreases-loop-done
decreases-loop-done l = length l.into - l.done
