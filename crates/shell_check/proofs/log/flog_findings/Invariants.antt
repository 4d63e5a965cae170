use Rattle.std.proofs.Common.{◌≡◌, ◌/◌, ℕ, List}
use Rattle.std.specs.List.{range_with_len}
use Rattle.arena_check.specs.Check.{flog_findings_of}
use Rattle.namespace_words.specs.Source.{AreBytesOf}
use Rattle.shell_check.proofs.log.flog_findings.Given as goal

-- the findings of the lanes so far
abbrev pub invariant-loop-lane : goal.invariant-loop-lane
invariant-loop-lane l =
    (words : List ℕ) → AreBytesOf words (l.layout.flog_off / 8) l.log → l.findings ≡ flog_findings_of l.layout words (range_with_len 0 l.lane)
