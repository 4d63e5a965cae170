use Rattle.std.proofs.Common.{◌≡◌, ◌≤◌, ◌-◌, ◌/◌, length, take}
use Rattle.cut_words.specs.WordBytes.{bytes_of}
use Rattle.namespace_words.specs.Source.{Reveals, words_by}
use Rattle.power_cut.specs.Namespace.{raw_bytes}
use Rattle.shell_export.specs.Printing.{PrintsAll}
use Rattle.shell_export.proofs.raw.print_pieces.Given as goal

abbrev pub invariant-loop-at : goal.invariant-loop-at
invariant-loop-at g l = record {
  inside : l.at ≤ raw_bytes l.extent / 8;
  piece : length l.piece ≡ 262144;
  same : g.S.ImageSource.held l.images ≡ g.S.ImageSource.held l.fn.images;
  later : g.S.ImageSource.faults l.fn.images ≤ g.S.ImageSource.faults l.images;
  later_text : g.O.TextSink.faults l.fn.text ≤ g.O.TextSink.faults l.text;
  printed : PrintsAll (Reveals (g.S.ImageSource.held l.fn.images) l.extent.set) (λ contents. bytes_of (take l.at (words_by l.extent contents)))
      (g.O.TextSink.written l.fn.text) (g.O.TextSink.written l.text) (g.O.TextSink.kept l.fn.text) (g.O.TextSink.kept l.text);
}

abbrev pub decreases-loop-at : goal.decreases-loop-at
decreases-loop-at g l = raw_bytes l.extent / 8 - l.at
