use Rattle.std.proofs.Common.{◌≤◌, ◌∙◌, refl, subst, sym}
use Rattle.lane_pool.specs.declared.pool.PoolPart.{PoolPart}
use Rattle.lane_calls.proofs.Begins.{in_some}
use Rattle.lane_calls.proofs.Ends.{may_give, spends_given}
use Rattle.lane_calls.proofs.Sessions.{knows_rest}
use Rattle.lane_calls.proofs.ending.give_up.Goals as goal

pub give_back-requires-clause-may : goal.give_back-requires-clause-may
give_back-requires-clause-may g c =
    let may = c.requires.may in
    may_give c.args.sectors.now may.q may.parts 64 c.args.kept c.args.session.now may.know

pub returns-clause-knows : goal.returns-clause-knows
returns-clause-knows g c = λ q parts know.
    knows_rest c.args.sectors.now q parts 64 c.args.kept c.args.session.now _ know refl refl c.give_back.ensures.pass.0 c.give_back.ensures.pass.1 c.give_back.ensures.outside (c.give_back.ensures.own know.pool know.seated.pool_is)

pub returns-clause-spends : goal.returns-clause-spends
returns-clause-spends g c = λ m is.
    let know = c.requires.may.know in
    let few = subst (λ (y : PoolPart). c.args.kept.made ≤ y.left) (in_some (sym know.seated.pool_is ∙ is)) know.out.has_room.few in
    (_, c.give_back.ensures.own m is, spends_given c.args.kept.made m few)
