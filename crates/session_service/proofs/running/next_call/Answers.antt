use Rattle.std.proofs.Common.{get_or, sym, ap, ◌∙◌}
use Rattle.session_script.specs.declared.script.SessionLines.{SessionLines}
use Rattle.session_service.proofs.Steps as steps
use Rattle.session_service.proofs.running.next_call.Goals as goal

pub make_line-made-requires : goal.make_line-made-requires
make_line-made-requires g c =
    let replies = c.requires.next.0 in
    let running = c.requires.next.1 in (
      c.type_bounds.sync-G,
      (
        c.args.script.now,
        c.args.q,
        replies,
        steps.line_next c.args.service.now c.args.script.now c.args.q replies c.args.runner.now c.index-sessions-q.result c.as_slice-calls.result.now c.args.runner.now.session.caller.call c.index-calls-call.result running c.requires.there
            (c.index-sessions-q.is ∙ ap (λ xs. get_or xs c.args.q c.index-sessions-q.result) c.as_slice-sessions.ensures) (c.as_slice-calls.ensures ∙ ap (λ (s : SessionLines). s.calls) (sym c.index-sessions-q.is)) running.at.call c.index-calls-call.is c.requires.next.2,
      ),
    )
