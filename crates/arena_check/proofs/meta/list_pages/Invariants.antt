use Rattle.std.proofs.Common.{◌≡◌, ◌*◌, ◌++◌}
use Rattle.arena_check.specs.Check.{bad_meta}
use Rattle.arena_check.proofs.meta.list_pages.Given as goal

abbrev pub invariant-loop-page : goal.invariant-loop-page
invariant-loop-page g l = l.findings ≡ l.initial.findings ++ bad_meta (g.B.BadWords.bad l.bad) l.first (512 * l.page)
