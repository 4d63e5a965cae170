use Rattle.std.proofs.Common.{◌≡◌, List, length}
use Rattle.session_account.specs.declared.reply.Reply.{Reply}
use Rattle.session_service.specs.Runners.{IsRunning}
use Rattle.session_service.proofs.running.run_at.Given as goal

abbrev pub invariant-loop-call : goal.invariant-loop-call
invariant-loop-call g l = record {
  replies : List Reply;
  running : IsRunning l.service l.script l.q replies l.runner;
  count : length replies ≡ l._call;
}
