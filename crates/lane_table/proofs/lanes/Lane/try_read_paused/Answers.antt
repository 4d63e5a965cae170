use Rattle.std.proofs.Common.{refl, sym, subst}
use Rattle.lane_table.specs.declared.table.Call.{Call}
use Rattle.lane_table.specs.Logs.{IsLogOf}
use Rattle.lane_table.specs.Reads.{calling, read_logged}
use Rattle.lane_table.proofs.Logs.{read_added}
use Rattle.lane_table.proofs.lanes.Lane.try_read_paused.Goals as goal

pub kit_of-kit-requires-clause-logged : goal.kit_of-kit-requires-clause-logged
kit_of-kit-requires-clause-logged g c =
    let s = c.args.self in
    let me = s.kit.seat.me in
    let t : Call = record { tag = c.args.tag; sector = c.args.sector } in
    let kind = c.in-Got.kind in
    let log = c.read-fate.new.supplies.log in
    let a = c.in-Got.ensures.answers in
    let more = c.in-Got.ensures.log in
    subst (λ m. IsLogOf log.calls m.0.lane.log) (sym a.3.0)
    (read_added s.kit.log.calls log.calls me.0.lane.log me.0.number (calling t me.0.lane) (read_logged t kind) s.kit.logged more.0 kind c.read-fate.new.into refl)
