use Rattle.std.proofs.Common.{[], refl}
use Rattle.session_service.proofs.running.run_at.Goals as goal

pub loop-call-init : goal.loop-call-init
loop-call-init g c = record {
  replies = [];
  running = c.requires.ready;
  count = refl;
}
