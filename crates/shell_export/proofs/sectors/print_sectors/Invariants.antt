use Rattle.std.proofs.Common.{◌≡◌, ◌≤◌, length, map, take}
use Rattle.std.specs.List.{flat_map, range_with_len}
use Rattle.arena_open.specs.Chain.{state_at}
use Rattle.namespace_words.specs.Source.{words_by}
use Rattle.shell_export.specs.Export.{sector_bytes}
use Rattle.shell_export.specs.Printing.{KnowsAll, PrintsBut}
use Rattle.shell_export.proofs.sectors.print_sectors.Given as goal

abbrev pub invariant-loop-sector : goal.invariant-loop-sector
invariant-loop-sector g l = record {
  filled : l.filled ≤ length l.buffer;
  buffer : length l.buffer ≡ 262144;
  same : g.S.ImageSource.held l.images ≡ g.S.ImageSource.held l.fn.images;
  later : g.S.ImageSource.faults l.fn.images ≤ g.S.ImageSource.faults l.images;
  later_text : g.O.TextSink.faults l.fn.text ≤ g.O.TextSink.faults l.text;
  printed : PrintsBut (KnowsAll (g.S.ImageSource.held l.fn.images) l.extent l.arenas)
      (λ contents. flat_map (sector_bytes (map (state_at (words_by l.extent contents)) l.arenas)) (range_with_len 0 l.sector))
      (g.O.TextSink.written l.fn.text) (g.O.TextSink.written l.text) (g.O.TextSink.kept l.fn.text) (g.O.TextSink.kept l.text) (take l.filled l.buffer);
}
