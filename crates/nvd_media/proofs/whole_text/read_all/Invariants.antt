use Rattle.std.proofs.Common.{◌≡◌, ◌≤◌, ◌+◌, ◌-◌, vec_len}
use Rattle.std.specs.Io.KnownBytes.{Consumes}
use Rattle.nvd_media.proofs.whole_text.read_all.Given as goal

abbrev pub invariant-loop-source : goal.invariant-loop-source
invariant-loop-source g l = record {
  later : g.T.TextSource.faults l.initial.source ≤ g.T.TextSource.faults l.source;
  so_far : Consumes (g.T.TextSource.left l.initial.source) (g.T.TextSource.left l.source) l.all.items;
  room : vec_len l.buffer ≡ 65536;
}

abbrev pub decreases-loop-source : goal.decreases-loop-source
decreases-loop-source g l = l.limit + 1 - vec_len l.all
