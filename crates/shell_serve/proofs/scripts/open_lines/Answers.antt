use Rattle.std.proofs.Common.{◌∙◌, ◌++◌, List, ap}
use Rattle.std.specs.Prelude.{filter_map}
use Rattle.session_script.specs.declared.script.Line.{Line}
use Rattle.shell_serve.specs.Scripts.{opens}
use Rattle.shell_serve.proofs.ScriptLines.{one_session}
use Rattle.shell_serve.proofs.scripts.open_lines.Goals as goal

pub loop-session-preserved : goal.loop-session-preserved
loop-session-preserved c =
    one_session c.as_slice-session-items.result.now c.loop-session.session-index c.session-item.result c.loop-session.uuids.items _ c.loop-session-test.true c.session-item.is (c.in_ok-add_opened.ensures ∙ ap (λ (ls : List Line). c.loop-session.uuids.items ++ filter_map opens ls) c.as_slice.ensures)
    c.loop-session.invariant
