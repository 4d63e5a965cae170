use Rattle.std.proofs.Common.{◌∙◌, Some, sym}
use Rattle.lane_calls.proofs.Ends.{know_put}
use Rattle.lane_calls.proofs.beginning.set_for_call.Goals as goal

pub returns-in-Some-clause-knows : goal.returns-in-Some-clause-knows
returns-in-Some-clause-knows g c = λ parts know.
    know_put c.args.sectors.now c.args.session.now.number parts c.args.session.now c.take.new.self (Some c.in-Some.kept) (sym c.take.ensures.value ∙ c.in-Some.is) know
