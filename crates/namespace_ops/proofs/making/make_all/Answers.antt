use Rattle.std.proofs.Common.{true, refl, arith}
use Rattle.namespace_areas.specs.Went.{Went}
use Rattle.namespace_ops.proofs.Counts.{slots_kept}
use Rattle.namespace_ops.proofs.making.make_all.Goals as goal

pub refresh-requires-clause-room : goal.refresh-requires-clause-room
refresh-requires-clause-room c =
    let went : Went c.args.areas.now c.make_changes.new.areas c.args.fuse.now c.make_changes.new.fuse c.args.changes.now true = c.in_ok-make_changes.ensures in
    let same = slots_kept c.args.areas.now c.make_changes.new.areas c.args.fuse.now c.make_changes.new.fuse c.args.changes.now c.requires.current.held went in
    omega (arith, same, c.requires.current.room)

pub returns-clause-current : goal.returns-clause-current
returns-clause-current c =
    let went : Went c.args.areas.now c.make_changes.new.areas c.args.fuse.now c.make_changes.new.fuse c.args.changes.now true = c.in_ok-make_changes.ensures in
    let same = slots_kept c.args.areas.now c.make_changes.new.areas c.args.fuse.now c.make_changes.new.fuse c.args.changes.now c.requires.current.held went in
    record {
      current = record { held = went.held refl; same = c.refresh.ensures.groups; few = c.refresh.ensures.few; room = omega (arith, same, c.requires.current.room, c.refresh.ensures.room) };
      slots = same;
    }
