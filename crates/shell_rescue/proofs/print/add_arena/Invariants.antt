use Rattle.std.proofs.Common.{◌≡◌, ◌≤◌, ◌++◌, drop, length, take}
use Rattle.namespace_words.specs.Source.{Reveals, words_by}
use Rattle.shell_rescue.specs.Rescue.{arena_bytes, entries_bytes}
use Rattle.shell_rescue.proofs.Rest.{PrintsTo}
use Rattle.shell_rescue.proofs.print.add_arena.Given as goal

abbrev pub invariant-loop-sector : goal.invariant-loop-sector
invariant-loop-sector g l = record {
  filled : l.end ≤ length l.buffer;
  buffer : length l.buffer ≡ 262144;
  same : g.S.ImageSource.held l.images ≡ g.S.ImageSource.held l.fn.images;
  later : g.S.ImageSource.faults l.fn.images ≤ g.S.ImageSource.faults l.images;
  later_text : g.O.TextSink.faults l.fn.text ≤ g.O.TextSink.faults l.text;
  printed : PrintsTo (Reveals (g.S.ImageSource.held l.fn.images) l.extent.set)
      (λ contents. take l.fn.filled l.fn.buffer ++ arena_bytes (words_by l.extent contents) l.arena)
      (λ contents. entries_bytes l.arena.layout (drop l.arena.at (words_by l.extent contents)) l.sector (drop l.sector l.arena.entries))
      (g.O.TextSink.written l.fn.text) (g.O.TextSink.written l.text) (g.O.TextSink.kept l.fn.text) (g.O.TextSink.kept l.text) (take l.end l.buffer);
}
