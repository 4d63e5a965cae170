use Rattle.std.proofs.Common.{◌≡◌, take}
use Rattle.session_service.specs.Made.{limits_of}
use Rattle.session_service.proofs.service.limits_for.Given as goal

abbrev pub invariant-loop-session : goal.invariant-loop-session
invariant-loop-session l = l.limits.items ≡ limits_of (take l.session-index l.sessions)
