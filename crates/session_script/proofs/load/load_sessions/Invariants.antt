use Rattle.std.proofs.Common.{◌≡◌, ◌≤◌, ◌-◌, ◌++◌}
use Rattle.session_script.specs.Load.{load_sessions}
use Rattle.session_script.proofs.load.load_sessions.Given as goal

abbrev pub invariant-loop-q : goal.invariant-loop-q
invariant-loop-q l = record {
  bound : l.q ≤ l.spread.sessions;
  same : l.made ++ load_sessions (l.spread.sessions - l.q) l.uuid l.count l.spread.share l.spread.sessions l.q l.last
      ≡ load_sessions l.spread.sessions l.uuid l.count l.spread.share l.spread.sessions 0 l.number;
}

abbrev pub decreases-loop-q : goal.decreases-loop-q
decreases-loop-q l = l.spread.sessions - l.q
