use Rattle.std.proofs.Common.{◌∙◌, None, refl, sym, subst}
use Rattle.lane_pool.specs.declared.pool.PoolPart.{PoolPart}
use Rattle.lane_calls.specs.Calls.{MayMakeOne}
use Rattle.lane_calls.proofs.Begins.{in_some, knows_taken, spends_taken}
use Rattle.lane_calls.proofs.beginning.new_set.Goals as goal

pub returns-in-Got-clause-knows : goal.returns-in-Got-clause-knows
returns-in-Got-clause-knows g c = λ parts know.
    let session = c.args.session.now in
    let may = c.requires.may in
    let o = c.in-Got.ensures.got c.in-Got.set refl know.pool know.seated.pool_is in
    knows_taken c.args.sectors.now session.number parts session _ know (subst (λ (m : PoolPart). MayMakeOne None m) (in_some (sym may.know.seated.pool_is ∙ know.seated.pool_is)) may.pool) c.in-Got.set o.0 o.2 o.1 refl refl
    c.in-Got.ensures.pass.0 c.in-Got.ensures.pass.1 c.in-Got.ensures.outside

pub returns-in-Got-clause-spends : goal.returns-in-Got-clause-spends
returns-in-Got-clause-spends g c = λ m is.
    let o = c.in-Got.ensures.got c.in-Got.set refl m is in
    (o.0, o.1, spends_taken c.in-Got.set m o.0 o.2)
