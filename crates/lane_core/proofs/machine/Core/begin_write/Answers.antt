use Rattle.std.proofs.Common.{refl, subst}
use Rattle.lane_core.specs.Begins.{WriteStarts}
use Rattle.lane_core.proofs.Rooms.{room_core, write_by}
use Rattle.lane_core.proofs.machine.Core.begin_write.Goals as goal

pub returns-clause-core : goal.returns-clause-core
returns-clause-core c = λ o is. c.start_write.ensures.core o (room_core o c.args.self.now c.make_room.new.self (c.if-not-make_room.ensures.room refl) is)

pub returns-clause-begun : goal.returns-clause-begun
returns-clause-begun c = λ e.
    let old = c.args.self.now in
    let made = write_by old c.make_room.new.self c.start_write.new.self c.args.lane c.args.tag c.args.sector c.from_vec.result (c.if-not-make_room.ensures.room refl) c.start_write.ensures.begun in
    subst (λ ws. WriteStarts old c.start_write.new.self c.args.lane c.args.tag c.args.sector ws) c.from_vec.ensures made
