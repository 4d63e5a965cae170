use Rattle.std.proofs.Common.{ℕ, ◌*◌, ◌≤◌, take}
use Rattle.std.specs.List.{All}
use Rattle.namespace_words.specs.Source.{AreWithin}
use Rattle.namespace_words.proofs.LoadedArenas.{EndsBy}
use Rattle.namespace_words.proofs.loading.end_of_all.Given as goal

abbrev pub invariant-loop-arena : goal.invariant-loop-arena
invariant-loop-arena l = record {
  each : All (EndsBy l.end) (take l.arena-index l.arenas);
  within : (bytes : ℕ) → AreWithin bytes l.arenas → 8 * l.end ≤ bytes;
}
