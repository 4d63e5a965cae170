use Rattle.std.proofs.Common.{◌≡◌, take}
use Rattle.std.specs.Prelude.{filter_map, flat_map}
use Rattle.shell_serve.specs.Scripts.{opens}
use Rattle.shell_serve.proofs.scripts.open_lines.Given as goal

abbrev pub invariant-loop-session : goal.invariant-loop-session
invariant-loop-session l = l.uuids.items ≡ flat_map (λ session. filter_map opens session.calls) (take l.session-index l.session-items)
