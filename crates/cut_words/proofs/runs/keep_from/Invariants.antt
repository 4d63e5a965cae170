use Rattle.std.proofs.Common.{◌≡◌, ◌+◌, ◌-◌, ◌≤◌, ◌<◌, ◌^◌, ℕ, Option, Bool, length}
use Rattle.cut_words.specs.Words.{Words}
use Rattle.cut_words.specs.Runs.{keeps_from}
use Rattle.cut_words.specs.Fuses.{Makes}
use Rattle.cut_words.proofs.runs.keep_from.Given as goal

-- the effect on the rest is the effect on the whole
abbrev pub invariant-loop-place : goal.invariant-loop-place
invariant-loop-place g l = record {
  inside : l.base + l.count ≤ length (g.W.WordSpace.words l.words).kept;
  same : length (g.W.WordSpace.words l.words).kept ≡ length (g.W.WordSpace.words l.initial.words).kept;
  beside : g.W.WordSpace.beside l.words ≡ g.W.WordSpace.beside l.initial.words;
  small : length (g.W.WordSpace.words l.words).kept < 2 ^ 60;
  within : l.place ≤ l.base + l.count;
  on : (w : Words) (f : Option ℕ) (made : Bool) → Makes (g.W.WordSpace.words l.words) w l.fuse f (keeps_from l.place (l.base + l.count - l.place)) made
      → Makes (g.W.WordSpace.words l.initial.words) w l.initial.fuse f (keeps_from l.base l.count) made;
}

abbrev pub decreases-loop-place : goal.decreases-loop-place
decreases-loop-place g l = l.base + l.count - l.place
