use Rattle.std.proofs.Common.{refl}
use Rattle.lane_core.specs.declared.history.Act.TheVariants as act
use Rattle.session_parts.specs.Parts.{stand_at}
use Rattle.lane_calls.specs.Calls.{none_at_least, write_at_least}
use Rattle.lane_session_tests.proofs.Going.{between, goes_on, may_write}
use Rattle.lane_session_tests.proofs.calls.put.Goals as goal

pub write-requires-after_bounds : goal.write-requires-after_bounds
write-requires-after_bounds g c = λ _ _. may_write c.args.sectors.now c.args.session.now c.requires.may c.args.sector c.requires.sector _ refl

pub returns-in-Done-clause-done : goal.returns-in-Done-clause-done
returns-in-Done-clause-done g c = λ _ n may.
    goes_on c.args.sectors.now write_at_least (stand_at c.args.session.now.caller.call c.args.sector (act.Write _)) c.args.session.now c.write.new.session c.write.ensures.next (c.in-Done.ensures.done refl) (c.in-Done.ensures.spent refl) refl n may

pub returns-in-Done-clause-between : goal.returns-in-Done-clause-between
returns-in-Done-clause-between g c = between c.args.sectors.now write_at_least _ c.args.session.now c.write.new.session c.write.ensures.next (c.in-Done.ensures.done refl) 1 c.requires.may

pub returns-in-Cut-clause-between : goal.returns-in-Cut-clause-between
returns-in-Cut-clause-between g c = between c.args.sectors.now none_at_least _ c.args.session.now c.write.new.session c.write.ensures.next (c.in-Cut.ensures.cut refl) 1 c.requires.may
