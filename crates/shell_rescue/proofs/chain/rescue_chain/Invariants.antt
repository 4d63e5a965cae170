use Rattle.std.proofs.Common.{◌≡◌, ◌+◌, ◌-◌, ◌*◌, ◌%◌, ◌≤◌, ℕ, List}
use Rattle.std.specs.Prelude.{All}
use Rattle.power_cut.specs.Namespace.{raw_bytes}
use Rattle.namespace_words.specs.Source.{Reveals, words_by}
use Rattle.shell_rescue.specs.Reading.{IsReadable}
use Rattle.shell_rescue.proofs.Following.{IsSoFar}
use Rattle.shell_rescue.proofs.chain.rescue_chain.Given as goal

abbrev pub invariant-chain : goal.invariant-chain
invariant-chain g l = record {
  whole : l.at % 512 ≡ 0;
  inside : 8 * l.at + 4096 ≤ raw_bytes l.extent;
  ahead : l.k ≤ l.at;
  few : l.count ≤ l.at;
  same : g.S.ImageSource.held l.images ≡ g.S.ImageSource.held l.fn.images;
  later : g.S.ImageSource.faults l.fn.images ≤ g.S.ImageSource.faults l.images;
  readable : All (IsReadable (raw_bytes l.extent)) l.arenas;
  -- if the source reveals its contents, this is what was read so far
  so_far : (contents : List (List ℕ)) → Reveals (g.S.ImageSource.held l.fn.images) l.extent.set contents
      → IsSoFar l.listing (g.B.BadWords.bad l.bad) (words_by l.extent contents) l.uuid l.k l.at l.count l.arenas l.text.items l.refused;
}

abbrev pub decreases-chain : goal.decreases-chain
decreases-chain g l = raw_bytes l.extent - 8 * l.at
