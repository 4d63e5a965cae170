use Rattle.std.proofs.Common.{refl}
use Rattle.lane_core.specs.declared.history.Act.TheVariants as act
use Rattle.session_parts.specs.Parts.{stand_at}
use Rattle.lane_calls.specs.Calls.{none_at_least, one_at_least}
use Rattle.lane_session_tests.proofs.Going.{between, goes_on, may_read}
use Rattle.lane_session_tests.proofs.calls.get.Goals as goal

pub read-requires : goal.read-requires
read-requires g c = record { may = may_read c.args.sectors.now c.args.session.now c.requires.may c.args.sector c.requires.sector _ refl }

pub returns-in-Got-Bytes-clause-done : goal.returns-in-Got-Bytes-clause-done
returns-in-Got-Bytes-clause-done g c = λ _ _ n may.
    goes_on c.args.sectors.now one_at_least (stand_at c.args.session.now.caller.call c.args.sector (act.Read _)) c.args.session.now c.read.new.session c.read.ensures.next (c.in-Got-Bytes.ensures.done _ refl) (c.in-Got-Bytes.ensures.spent _ refl) refl n may

pub returns-in-Got-Bytes-clause-between : goal.returns-in-Got-Bytes-clause-between
returns-in-Got-Bytes-clause-between g c = between c.args.sectors.now one_at_least _ c.args.session.now c.read.new.session c.read.ensures.next (c.in-Got-Bytes.ensures.done _ refl) 1 c.requires.may

pub returns-in-Got-clause-done : goal.returns-in-Got-clause-done
returns-in-Got-clause-done g c = λ _ _ n may.
    goes_on c.args.sectors.now one_at_least (stand_at c.args.session.now.caller.call c.args.sector (act.Read _)) c.args.session.now c.read.new.session c.read.ensures.next (c.in-Got.ensures.done _ refl) (c.in-Got.ensures.spent _ refl) refl n may

pub returns-in-Got-clause-between : goal.returns-in-Got-clause-between
returns-in-Got-clause-between g c = between c.args.sectors.now one_at_least _ c.args.session.now c.read.new.session c.read.ensures.next (c.in-Got.ensures.done _ refl) 1 c.requires.may

pub returns-in-Cut-clause-between : goal.returns-in-Cut-clause-between
returns-in-Cut-clause-between g c = between c.args.sectors.now none_at_least _ c.args.session.now c.read.new.session c.read.ensures.next (c.in-Cut.ensures.cut refl) 1 c.requires.may
