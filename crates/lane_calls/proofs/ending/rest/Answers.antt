use Rattle.std.proofs.Common.{◌∙◌, Option, Some, sym, subst}
use Rattle.lane_calls.specs.declared.session.Kept.{Kept}
use Rattle.lane_calls.specs.Sessions.{KnowWith}
use Rattle.lane_calls.proofs.Ends.{know_put, may_ask, may_put}
use Rattle.lane_calls.proofs.ending.rest.Goals as goal

pub give_up-requires : goal.give_up-requires
give_up-requires g c =
    let s = c.args.sectors.now in
    let session = c.args.session.now in
    let know = c.requires.know in
    record {
      may = record {
        q = session.number;
        parts = know.0;
        know = may_put s session.number know.0 c.in-Some.kept _ (know_put s session.number know.0 session c.take.new.self (Some c.in-Some.kept) (sym c.take.ensures.value ∙ c.in-Some.is) know.1);
        none = c.take.ensures.after;
      };
    }

pub returns-in-Some-clause-knows : goal.returns-in-Some-clause-knows
returns-in-Some-clause-knows g c = λ parts know.
    let s = c.args.sectors.now in
    let session = c.args.session.now in
    subst (λ (o : Option Kept). KnowWith s session.number parts 63 o c.give_up.new.session) (sym c.give_up.ensures.same.kept)
    (c.give_up.ensures.knows session.number parts (may_put s session.number parts c.in-Some.kept _ (know_put s session.number parts session c.take.new.self (Some c.in-Some.kept) (sym c.take.ensures.value ∙ c.in-Some.is) know)))

pub returns-in-Some-clause-can_ask : goal.returns-in-Some-clause-can_ask
returns-in-Some-clause-can_ask g c =
    let s = c.args.sectors.now in
    let session = c.args.session.now in
    let know = c.requires.know in
    may_ask s session.number know.0 c.give_up.new.session
    (c.give_up.ensures.knows session.number know.0 (may_put s session.number know.0 c.in-Some.kept _ (know_put s session.number know.0 session c.take.new.self (Some c.in-Some.kept) (sym c.take.ensures.value ∙ c.in-Some.is) know.1)))
