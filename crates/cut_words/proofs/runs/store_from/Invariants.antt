use Rattle.std.proofs.Common.{◌≡◌, ◌+◌, ◌-◌, ◌≤◌, ◌<◌, ◌^◌, ℕ, Option, Bool, length, drop}
use Rattle.cut_words.specs.Words.{Words}
use Rattle.cut_words.specs.Runs.{stores_from, NonePending}
use Rattle.cut_words.specs.Fuses.{Makes}
use Rattle.cut_words.proofs.runs.store_from.Given as goal

-- the effect on the rest is the effect on the whole
abbrev pub invariant-loop-index : goal.invariant-loop-index
invariant-loop-index g l = record {
  at : l.place ≡ l.base + l.index;
  within : l.index ≤ length l.values;
  inside : l.base + length l.values ≤ length (g.W.WordSpace.words l.words).kept;
  same : length (g.W.WordSpace.words l.words).kept ≡ length (g.W.WordSpace.words l.initial.words).kept;
  beside : g.W.WordSpace.beside l.words ≡ g.W.WordSpace.beside l.initial.words;
  small : length (g.W.WordSpace.words l.words).kept < 2 ^ 60;
  settled : NonePending (g.W.WordSpace.words l.words) l.place (length l.values - l.index);
  on : (w : Words) (f : Option ℕ) (made : Bool) → Makes (g.W.WordSpace.words l.words) w l.fuse f (stores_from l.place (drop l.index l.values)) made
      → Makes (g.W.WordSpace.words l.initial.words) w l.initial.fuse f (stores_from l.base l.values) made;
}

abbrev pub decreases-loop-index : goal.decreases-loop-index
decreases-loop-index g l = length l.values - l.index
