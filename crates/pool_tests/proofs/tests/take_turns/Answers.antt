use Rattle.std.proofs.Common.{◌+◌, ◌-◌, ◌∙◌, arith}
use Rattle.pool_tests.proofs.Turns.{has_place, has_turns, may_give, may_take, told_place}
use Rattle.pool_tests.proofs.tests.take_turns.Goals as goal

pub take-requires-clause-may : goal.take-requires-clause-may
take-requires-clause-may g c = may_take (c.args.turns - c.loop-turn._turn) c.loop-turn.pass c.loop-turn.invariant.may

pub give_back-requires-clause-may : goal.give_back-requires-clause-may
give_back-requires-clause-may g c =
    let lt = c.loop-turn-test.true in
    may_give (c.args.turns - c.loop-turn._turn) (omega (arith, lt)) c.in-Got.set c.loop-turn.pass c.take.new.pass c.loop-turn.invariant.may (c.take.ensures.got c.in-Got.set (let is = c.in-Got.is in cc))

pub returns-in-Off-clause-place : goal.returns-in-Off-clause-place
returns-in-Off-clause-place g c =
    told_place (c.args.turns - c.loop-turn._turn) c.in-Off.field-0 c.loop-turn.pass c.take.new.pass c.loop-turn.invariant.may (c.take.ensures.off c.in-Off.field-0 (let is = c.in-Off.is in cc))

pub loop-turn-preserved : goal.loop-turn-preserved
loop-turn-preserved g c =
    let inv = c.loop-turn.invariant in record {
      pass = (
        c.give_back.ensures.pass.0 ∙ (c.take.ensures.pass.0 ∙ inv.pass.0),
        c.give_back.ensures.pass.1 ∙ (c.take.ensures.pass.1 ∙ inv.pass.1),
      );
      outside = c.give_back.ensures.outside;
      may = has_turns (c.args.turns - c.loop-turn._turn) (c.args.turns - (c.loop-turn._turn + 1)) (omega arith) c.in-Got.set c.loop-turn.pass c.take.new.pass c.give_back.new.pass inv.may
          (c.take.ensures.got c.in-Got.set (let is = c.in-Got.is in cc))
          c.give_back.ensures.own;
    }

pub returns-clause-place : goal.returns-clause-place
returns-clause-place g c = has_place (c.args.turns - c.loop-turn._turn) c.loop-turn.pass c.loop-turn.invariant.may
