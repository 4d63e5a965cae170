use Rattle.std.proofs.Common.{Some, refl, arith}
use Rattle.lane_calls.proofs.Ends.{know_most}
use Rattle.lane_calls.proofs.Sessions.{know_as}
use Rattle.lane_calls.proofs.ending.put_away.Goals as goal

pub returns-then-kept-lt-KEPT_CALLS-clause-knows : goal.returns-then-kept-lt-KEPT_CALLS-clause-knows
returns-then-kept-lt-KEPT_CALLS-clause-knows g c = λ q parts know.
    let s = c.args.sectors.now in
    let session = c.args.session.now in
    let a = c.if-kept-lt-KEPT_CALLS.true in
    know_as s q parts 63 (Some c.args.kept) session _ refl refl refl (know_most s q parts 64 63 c.args.kept session (omega (arith, a)) know)
