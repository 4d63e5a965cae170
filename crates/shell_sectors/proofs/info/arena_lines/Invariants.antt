use Rattle.std.proofs.Common.{◌≡◌, ◌++◌, ℕ, List, drop, map}
use Rattle.arena_open.specs.Chain.{state_at}
use Rattle.shell_reports.specs.Sectors.{arena_lines}
use Rattle.shell_sectors.proofs.info.arena_lines.Given as goal

abbrev pub invariant-loop-k : goal.invariant-loop-k
invariant-loop-k l = (words : List ℕ) → l.text.items ++ arena_lines l.k (map (state_at words) (drop l.k l.arenas)) ≡ arena_lines 0 (map (state_at words) l.arenas)
