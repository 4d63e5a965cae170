use Rattle.std.proofs.Common.{◌≡◌, ◌≤◌, ◌+◌, Ok, length}
use Rattle.session_script.specs.Lines.{lines_in, lines_read}
use Rattle.session_script.specs.Script.{nothing_said, sessions_of, with_line}
use Rattle.session_script.proofs.sessions.read_script.Given as goal

abbrev pub invariant-loop-rest : goal.invariant-loop-rest
invariant-loop-rest l = record {
  calls : l.read.calls ≤ 65536;
  sessions : length (sessions_of l.read) ≤ 1024;
  number : l.number + length l.rest ≤ length l.text + 1;
  same : lines_read with_line l.number (lines_in l.rest) (Ok l.read) ≡ lines_read with_line 1 (lines_in l.text) (Ok nothing_said);
}

abbrev pub decreases-loop-rest : goal.decreases-loop-rest
decreases-loop-rest l = length l.rest
