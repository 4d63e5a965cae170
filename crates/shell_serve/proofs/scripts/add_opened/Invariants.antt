use Rattle.std.proofs.Common.{◌≡◌, ◌++◌, take}
use Rattle.std.specs.Prelude.{filter_map}
use Rattle.shell_serve.specs.Scripts.{opens}
use Rattle.shell_serve.proofs.scripts.add_opened.Given as goal

abbrev pub invariant-loop-line : goal.invariant-loop-line
invariant-loop-line l = l.uuids.items ≡ l.initial.uuids.items ++ filter_map opens (take l.line-index l.lines)
