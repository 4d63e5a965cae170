use Rattle.std.proofs.Common.{[], sym, subst}
use Rattle.std.specs.Prelude.{slice_get, unwrap_or}
use Rattle.arena_layout.specs.Layout.{IsLayout}
use Rattle.namespace_ops.proofs.Layouts.{layout_can}
use Rattle.namespace_ops.proofs.formatter.CountedFormatter.format.Goals as goal

pub count_of-count-requires : goal.count_of-count-requires
count_of-count-requires c =
    subst IsLayout (sym c.layout_for-layout.ensures) (layout_can (unwrap_or (slice_get c.args._sets.now c.args.spec.now.region) []) c.args.offset c.args.spec.now c.requires.place)
