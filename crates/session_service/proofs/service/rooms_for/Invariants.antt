use Rattle.std.proofs.Common.{◌≡◌, ◌+◌, ◌^◌, ◌<◌, ℕ, get_or, length, take}
use Rattle.session_service.specs.Made.{rooms_of}
use Rattle.session_service.proofs.service.rooms_for.Given as goal

abbrev pub invariant-loop-session : goal.invariant-loop-session
invariant-loop-session l = record {
  rooms : l.rooms.items ≡ rooms_of (take l.session-index l.sessions);
  short : (q : ℕ) (d : _) → q < l.session-index → length (get_or l.sessions q d).calls + 1 < 2 ^ 32;
}
