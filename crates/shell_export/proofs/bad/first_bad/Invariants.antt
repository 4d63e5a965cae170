use Rattle.std.proofs.Common.{◌≡◌, drop, take}
use Rattle.std.specs.Prelude.{sum_by}
use Rattle.namespace_bytes.specs.Bad.{bad_from}
use Rattle.namespace_bytes.proofs.Flagged.{link_sectors}
use Rattle.shell_export.proofs.bad.first_bad.Given as goal

abbrev pub invariant-loop-arena : goal.invariant-loop-arena
invariant-loop-arena l = record {
  before : l.before ≡ sum_by link_sectors (take l.arena-index l.arenas);
  rest : bad_from l.before (drop l.arena-index l.arenas) ≡ bad_from 0 l.arenas;
}
