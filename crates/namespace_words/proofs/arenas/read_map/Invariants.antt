use Rattle.std.proofs.Common.{◌≡◌, ◌+◌, ◌-◌, ◌*◌, ◌%◌, ◌/◌, ◌^◌, ◌≤◌, ◌⊎◌, ℕ, List, length, drop, map}
use Rattle.std.specs.List.{range_with_len}
use Rattle.arena_open.specs.Reading.{entry_at}
use Rattle.namespace_words.specs.Source.{AreBytesFrom, Reveals, bytes_by, words_by}
use Rattle.namespace_words.proofs.arenas.read_map.Given as goal

abbrev pub invariant-loop-first : goal.invariant-loop-first
invariant-loop-first g l = record {
  even : (l.first % 2 ≡ 0) ⊎ (l.first ≡ l.layout.external);
  within : l.first ≤ l.layout.external;
  room : length l.piece ≡ 4 * 2 ^ 16;
  count : length l.entries.items ≡ l.first;
  same : g.S.ImageSource.held l.images ≡ g.S.ImageSource.held l.fn.images;
  later : g.S.ImageSource.faults l.fn.images ≤ g.S.ImageSource.faults l.images;
  told : (contents : List (List ℕ)) → Reveals (g.S.ImageSource.held l.fn.images) l.extent.set contents → l.entries.items ≡ map (entry_at l.layout (drop l.at (words_by l.extent contents))) (range_with_len 0 l.first);
  bytes : (contents : List (List ℕ)) → Reveals (g.S.ImageSource.held l.fn.images) l.extent.set contents → AreBytesFrom (bytes_by l.extent contents) l.start (8 * ((l.first + 1) / 2));
}

abbrev pub decreases-loop-first : goal.decreases-loop-first
decreases-loop-first g l = l.layout.external - l.first
