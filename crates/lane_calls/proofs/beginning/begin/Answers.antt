use Rattle.std.proofs.Common.{ℕ, Some, sym, subst}
use Rattle.lane_calls.specs.Sessions.{KnowWith}
use Rattle.lane_calls.proofs.Begins.{began_after, may_start}
use Rattle.lane_calls.proofs.beginning.begin.Goals as goal

pub set_for_call-requires : goal.set_for_call-requires
set_for_call-requires g c = record { may = record { parts = c.requires.may.parts; know = c.requires.may.know; pool = c.requires.may.pool } }

pub start-requires : goal.start-requires
start-requires g c =
    let same = c.set_for_call.ensures.same in
    record { may = may_start c.args.sectors.now c.args.place c.args.session.now c.set_for_call.new.session c.in-Some.kept c.requires.may same.number same.kept c.in-Some.ensures.knows c.in-Some.ensures.spends }

pub returns-in-Some-clause-began : goal.returns-in-Some-clause-began
returns-in-Some-clause-began g c = λ parts know.
    let s = c.args.sectors.now in
    let session = c.args.session.now in
    let mid = c.set_for_call.new.session in
    let same = c.set_for_call.ensures.same in
    let knows : KnowWith s mid.number parts 63 (Some c.in-Some.kept) mid = subst (λ (n : ℕ). KnowWith s n parts 63 (Some c.in-Some.kept) mid) (sym same.number) (c.in-Some.ensures.knows parts know) in
    began_after s c.args.place parts c.in-Some.kept c.start.result.kept c.start.result.lane.kit session mid c.start.new.session same.number same.left c.in-Some.ensures.spends c.start.ensures.caller.1 (c.start.ensures.on parts knows)
