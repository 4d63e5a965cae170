use Rattle.std.proofs.Common.{◌≡◌, ◌++◌}
use Rattle.session_script.specs.Load.{load_lines, number_after}
use Rattle.session_script.proofs.load.add_calls.Given as goal

abbrev pub invariant-loop-left : goal.invariant-loop-left
invariant-loop-left l = record {
  calls : l.calls ++ load_lines l.left l.spread.share l.spread.sessions l.q l.last ≡ l.initial.calls ++ load_lines l.count l.spread.share l.spread.sessions l.q l.number;
  last : number_after l.left l.last ≡ number_after l.count l.number;
}

abbrev pub decreases-loop-left : goal.decreases-loop-left
decreases-loop-left l = l.left
