use Rattle.std.proofs.Common.{refl}
use Rattle.lane_calls.proofs.Ends.{may_stop}
use Rattle.lane_calls.proofs.Sessions.{knows_in}
use Rattle.lane_table.specs.Kits.{kit_in}
use Rattle.lane_calls.proofs.ending.hand_in.Goals as goal

pub stop-requires-clause-may : goal.stop-requires-clause-may
stop-requires-clause-may g c =
    let may = c.requires.may in
    may_stop c.args.sectors.now may.q may.parts c.args.place c.args.kept (kit_in c.args.end) c.args.session.now may.on c.args.end refl _ refl refl

pub returns-clause-knows : goal.returns-clause-knows
returns-clause-knows g c = λ q parts on.
    let o = c.stop.ensures.own on.pool on.seated.pool_is in
    knows_in c.args.sectors.now q parts c.args.place c.args.kept (kit_in c.args.end) c.args.session.now _ on refl c.stop.ensures.pass.0 c.stop.ensures.pass.1 c.stop.ensures.outside c.args.end refl _ refl refl refl refl c.args.off c.stop.result o.0 o.1 o.2

pub returns-clause-pool : goal.returns-clause-pool
returns-clause-pool g c = λ m is.
    let o = c.stop.ensures.own m is in
    (o.0, o.1, (_, c.stop.result, o.2))
