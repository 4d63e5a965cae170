use Rattle.std.proofs.Common.{◌≡◌, ◌≤◌, ◌-◌, List, ℕ, length, take, drop}
use Rattle.namespace_words.specs.Source.{Reveals, bytes_by}
use Rattle.namespace_words.proofs.extent.read_extent.Given as goal

abbrev pub invariant-loop-done : goal.invariant-loop-done
invariant-loop-done g l = record {
  below : l.done ≤ length l.into;
  count : length l.into ≡ length l.fn.into;
  same : g.S.ImageSource.held l.images ≡ g.S.ImageSource.held l.fn.images;
  later : g.S.ImageSource.faults l.fn.images ≤ g.S.ImageSource.faults l.images;
  front : (contents : List (List ℕ)) → Reveals (g.S.ImageSource.held l.fn.images) l.extent.set contents → take l.done l.into ≡ take l.done (drop l.first (bytes_by l.extent contents));
}

abbrev pub decreases-loop-done : goal.decreases-loop-done
decreases-loop-done g l = length l.into - l.done
