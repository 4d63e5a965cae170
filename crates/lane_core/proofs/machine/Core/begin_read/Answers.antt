use Rattle.std.proofs.Common.{replicate, refl, subst}
use Rattle.lane_core.specs.Begins.{ReadStarts}
use Rattle.lane_core.proofs.Rooms.{room_core, read_by}
use Rattle.lane_core.proofs.machine.Core.begin_read.Goals as goal

pub returns-clause-core : goal.returns-clause-core
returns-clause-core c = λ o is. c.start_read.ensures.core o (room_core o c.args.self.now c.make_room.new.self (c.if-not-make_room.ensures.room refl) is)

pub returns-clause-begun : goal.returns-clause-begun
returns-clause-begun c = λ e.
    let old = c.args.self.now in
    let made = read_by old c.make_room.new.self c.start_read.new.self c.args.lane c.args.tag c.args.sector c.in-Some.words c.in-Some.cell (c.if-not-make_room.ensures.room refl) c.start_read.ensures.begun in
    subst (λ ws. ReadStarts old c.start_read.new.self c.args.lane c.args.tag c.args.sector ws (replicate old.shape.width 0)) c.in-Some.ensures.0
    (subst (λ cs. ReadStarts old c.start_read.new.self c.args.lane c.args.tag c.args.sector c.in-Some.words cs) c.in-Some.ensures.1 made)
