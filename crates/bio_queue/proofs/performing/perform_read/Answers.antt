use Rattle.std.proofs.Common.{◌++◌, ◌∷◌, [], length, refl, sym, ap, ◌∙◌, subst, arith}
use Rattle.std.proofs.lemmas.List.{take_at}
use Rattle.lane_core.specs.declared.history.Act.TheVariants as act
use Rattle.session_parts.specs.Parts.{stand_at}
use Rattle.lane_table.specs.Reads.{cell_of_kind}
use Rattle.lane_calls.specs.Calls.{one_at_least}
use Rattle.bio_queue.specs.declared.op.Op.TheVariants as op
use Rattle.bio_queue.specs.declared.op.OpReply.TheVariants as reply
use Rattle.bio_queue.specs.Serving.{MayMake, stand_of}
use Rattle.bio_queue.proofs.Making.{cut_made, goes_on, in_done, may_read, switches_not}
use Rattle.bio_queue.proofs.Working.{spends_only}
use Rattle.bio_queue.proofs.performing.perform_read.Goals as goal

pub read-requires : goal.read-requires
read-requires g c = record { may = may_read c.args.sectors.now c.args.sector (length c.args.room.words.items) (length c.as_mut_slice-into.result.now) c.args.session.now (omega (arith, c.as_mut_slice-into.ensures.len)) c.requires }

pub returns-in-Got-clause-done : goal.returns-in-Got-clause-done
returns-in-Got-clause-done g c = λ r t e m w n done may.
    let call = c.args.session.now.caller.call in
    let words = take_at c.read.new.into _ c.args.room.words.len (omega (arith, c.read.auto.into, c.as_mut_slice-into.ensures.len)) in
    let is = ap (λ ws. reply.Got (cell_of_kind c.in-Got.kind ws)) (sym words) ∙ (in_done (sym c.two_replies.ensures ∙ e)).0 in
    subst (λ x. MayMake c.args.sectors.now m w n (done ++ stand_of call (op.Read c.args.sector) x ∷ []) c.read.new.session) is
    (goes_on c.args.sectors.now one_at_least (stand_at call c.args.sector (act.Read (cell_of_kind c.in-Got.kind c.read.new.into))) c.args.session.now c.read.new.session c.read.ensures.next (c.in-Got.ensures.done c.in-Got.kind refl) (c.in-Got.ensures.spent c.in-Got.kind refl) refl m w n done may)

pub returns-in-Cut-clause-off : goal.returns-in-Cut-clause-off
returns-in-Cut-clause-off g c = λ _ m w n done may. cut_made c.args.sectors.now c.args.session.now c.read.new.session c.read.ensures.next (c.in-Cut.ensures.cut refl) done may.made

pub returns-in-Got-clause-power : goal.returns-in-Got-clause-power
returns-in-Got-clause-power g c = spends_only _ _ _ c.args.session.now c.read.new.session (c.in-Got.ensures.spent c.in-Got.kind refl)

pub returns-in-Cut-clause-power : goal.returns-in-Cut-clause-power
returns-in-Cut-clause-power g c = switches_not c.args.session.now c.read.new.session c.requires.may.no_fuse (c.in-Cut.ensures.told refl).1
