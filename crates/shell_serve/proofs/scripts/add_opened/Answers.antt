use Rattle.std.proofs.Common.{◌∙◌, ℕ, List, Vec, Global, ap}
use Rattle.shell_serve.proofs.ScriptLines.{one_opens, one_passes}
use Rattle.shell_serve.proofs.scripts.add_opened.Goals as goal
use Rattle.shell_serve.proofs.scripts.add_opened.Goals.{in-None, in-Some+in_ok-push-in-Some}

pub loop-line-preserved : goal.loop-line-preserved
loop-line-preserved c = elim c.match-opens.branch [
  | in-Some+in_ok-push-in-Some w ↦ ap (λ (v : Vec (List ℕ) Global). v.items) w.uuids-is ∙ one_opens c.args.lines.now c.loop-line.line-index c.line-item.result c.opens.result w.in-Some.uuid c.args.uuids.now.items c.loop-line.uuids.items _
      c.loop-line-test.true c.line-item.is c.opens.ensures w.in-Some.is w.in_ok-push-in-Some.ensures.items c.loop-line.invariant
  | in-None w ↦ ap (λ (v : Vec (List ℕ) Global). v.items) w.uuids-is ∙ one_passes c.args.lines.now c.loop-line.line-index c.line-item.result c.opens.result c.args.uuids.now.items c.loop-line.uuids.items c.loop-line-test.true c.line-item.is c.opens.ensures w.in-None.is
      c.loop-line.invariant
]
