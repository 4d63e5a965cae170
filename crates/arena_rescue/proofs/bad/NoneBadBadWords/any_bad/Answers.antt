use Rattle.std.proofs.Common.{sym}
use Rattle.arena_rescue.proofs.Areas.{never_any}
use Rattle.arena_rescue.proofs.bad.NoneBadBadWords.any_bad.Goals as goal

pub returns : goal.returns
returns c = sym (never_any c.args._first c.args._count)
