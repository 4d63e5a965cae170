use Rattle.std.proofs.Common.{◌≡◌, ◌≤◌, drop, length, take}
use Rattle.namespace_words.specs.Source.{Reveals, words_by}
use Rattle.shell_rescue.specs.Rescue.{arenas_bytes}
use Rattle.shell_rescue.proofs.Rest.{PrintsTo}
use Rattle.shell_rescue.proofs.print.print_all.Given as goal

abbrev pub invariant-loop-arena : goal.invariant-loop-arena
invariant-loop-arena g l = record {
  filled : l.filled ≤ length l.buffer;
  buffer : length l.buffer ≡ 262144;
  same : g.S.ImageSource.held l.images ≡ g.S.ImageSource.held l.fn.images;
  later : g.S.ImageSource.faults l.fn.images ≤ g.S.ImageSource.faults l.images;
  later_text : g.O.TextSink.faults l.fn.text ≤ g.O.TextSink.faults l.text;
  printed : PrintsTo (Reveals (g.S.ImageSource.held l.fn.images) l.extent.set)
      (λ contents. arenas_bytes (words_by l.extent contents) l.arenas) (λ contents. arenas_bytes (words_by l.extent contents) (drop l.arena-index l.arenas))
      (g.O.TextSink.written l.fn.text) (g.O.TextSink.written l.text) (g.O.TextSink.kept l.fn.text) (g.O.TextSink.kept l.text) (take l.filled l.buffer);
}
