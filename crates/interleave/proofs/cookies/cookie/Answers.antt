use Rattle.std.proofs.Common.{length, take, ap, ◌∙◌, arith}
use Rattle.interleave.proofs.Entries.{entries_long}
use Rattle.interleave.proofs.cookies.cookie.Goals as goal

pub fletcher64-requires : goal.fletcher64-requires
fletcher64-requires c =
    rw (ap length c.deref.ensures.value ∙ ap length c.loop-position.invariant ∙ entries_long (take c.loop-position.position c.args.mappings.now)) (omega arith)
