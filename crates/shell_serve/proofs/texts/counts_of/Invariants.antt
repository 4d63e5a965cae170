use Rattle.std.proofs.Common.{◌≡◌, ◌+◌, ◌*◌, ◌^◌, ◌≤◌, take}
use Rattle.std.specs.Prelude.{count_by, sum_by}
use Rattle.shell_serve.specs.Texts.{is_read, is_write}
use Rattle.shell_serve.proofs.texts.counts_of.Given as goal

abbrev pub invariant-loop-session : goal.invariant-loop-session
invariant-loop-session l = record {
  reads : l.counts.reads ≡ sum_by (λ session. count_by is_read session.calls) (take l.session-index l.session-items);
  writes : l.counts.writes ≡ sum_by (λ session. count_by is_write session.calls) (take l.session-index l.session-items);
  few : l.counts.reads + l.counts.writes ≤ l.calls;
  all : l.calls ≤ 2 ^ 64 * l.session-index;
}
