use Rattle.std.proofs.Common.{◌≡◌, ◌≤◌, ◌+◌, Ok, length}
use Rattle.session_script.specs.Lines.{lines_in, lines_read}
use Rattle.session_script.specs.Schedule.{none_counted, with_line}
use Rattle.session_script.proofs.reading.count_lines.Given as goal

abbrev pub invariant-loop-rest : goal.invariant-loop-rest
invariant-loop-rest l = record {
  calls : l.counted.calls ≤ 65536;
  number : l.number + length l.rest ≤ length l.text + 1;
  same : lines_read with_line l.number (lines_in l.rest) (Ok l.counted) ≡ lines_read with_line 1 (lines_in l.text) (Ok none_counted);
}

abbrev pub decreases-loop-rest : goal.decreases-loop-rest
decreases-loop-rest l = length l.rest
