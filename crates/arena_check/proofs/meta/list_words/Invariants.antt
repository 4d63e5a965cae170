use Rattle.std.proofs.Common.{◌≡◌, ℕ, ◌+◌, ◌++◌}
use Rattle.arena_check.specs.Check.{bad_meta}
use Rattle.arena_check.proofs.meta.list_words.Given as goal

abbrev pub invariant-loop-word : goal.invariant-loop-word
invariant-loop-word g l = (n : ℕ) → l.first + n ≡ l.word → l.findings ≡ l.initial.findings ++ bad_meta (g.B.BadWords.bad l.bad) l.first n
