use Rattle.std.proofs.Common.{◌≡◌, ◌+◌, ◌-◌, ◌*◌, ◌%◌, ◌≤◌, ℕ, List, [], length}
use Rattle.std.specs.Prelude.{MatchBool}
use Rattle.power_cut.specs.Namespace.{raw_bytes}
use Rattle.namespace_words.specs.Source.{Reveals, bytes_by, words_by}
use Rattle.shell_check.proofs.Following.{IsSoFar}
use Rattle.shell_check.proofs.Mending.{MendsSoFar}
use Rattle.shell_check.proofs.chain.check_chain.Given as goal

abbrev pub invariant-arenas : goal.invariant-arenas
invariant-arenas g l = record {
  whole : l.at % 512 ≡ 0;
  inside : 8 * l.at + 4096 ≤ raw_bytes l.extent;
  ahead : l.k ≤ l.at;
  few : l.count ≤ length l.text.items;
  same : g.S.ImageSource.held l.images ≡ g.S.ImageSource.held l.fn.images;
  later : g.S.ImageSource.faults l.fn.images ≤ g.S.ImageSource.faults l.images;
  -- if the source reveals its contents, this is what was found so far
  so_far : (contents : List (List ℕ)) → Reveals (g.S.ImageSource.held l.fn.images) l.extent.set contents
      → IsSoFar l.head l.repair (g.B.BadWords.bad l.bad) (words_by l.extent contents) l.uuid l.k l.count l.at l.text.items;
  -- and these runs repair it
  mends : (contents : List (List ℕ)) → Reveals (g.S.ImageSource.held l.fn.images) l.extent.set contents
      → MatchBool l.repair (MendsSoFar (g.B.BadWords.bad l.bad) (bytes_by l.extent contents) l.uuid l.k l.at l.runs.items) (l.runs.items ≡ []);
}

abbrev pub decreases-arenas : goal.decreases-arenas
decreases-arenas g l = raw_bytes l.extent - 8 * l.at
