use Rattle.std.proofs.Common.{◌≡◌, ℕ, ◌-◌, ◌≤◌, List, length}
use Rattle.namespace_words.specs.Source.{IsFront, Reveals, words_by}
use Rattle.namespace_words.proofs.loading.read_pieces.Given as goal

abbrev pub invariant-loop-images : goal.invariant-loop-images
invariant-loop-images g l = record {
  below : length l.words.items ≤ l.count;
  room : length l.room ≡ length l.fn.room;
  same : g.S.ImageSource.held l.images ≡ g.S.ImageSource.held l.fn.images;
  later : g.S.ImageSource.faults l.fn.images ≤ g.S.ImageSource.faults l.images;
  front : (contents : List (List ℕ)) → Reveals (g.S.ImageSource.held l.fn.images) l.extent.set contents → IsFront l.fn.words.items (words_by l.extent contents) → IsFront l.words.items (words_by l.extent contents);
}

abbrev pub decreases-loop-images : goal.decreases-loop-images
decreases-loop-images g l = l.count - length l.words.items
