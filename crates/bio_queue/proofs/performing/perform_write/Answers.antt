use Rattle.std.proofs.Common.{◌++◌, ◌∷◌, [], refl, subst}
use Rattle.lane_core.specs.declared.history.Act.TheVariants as act
use Rattle.session_parts.specs.Parts.{stand_at}
use Rattle.lane_calls.specs.Calls.{write_at_least}
use Rattle.bio_queue.specs.Serving.{MayMake}
use Rattle.bio_queue.proofs.Making.{cut_made, goes_on, may_write, switches_not}
use Rattle.bio_queue.proofs.Working.{spends_only}
use Rattle.bio_queue.proofs.performing.perform_write.Goals as goal

pub write-requires : goal.write-requires
write-requires g c = (c.type_bounds.sync-G, may_write c.args.sectors.now c.args.sector c.args.words.now c.as_slice.result.now c.requires.0 c.args.session.now c.as_slice.ensures c.requires.1)

pub returns-in-Done-clause-done : goal.returns-in-Done-clause-done
returns-in-Done-clause-done g c = λ r t e m w n done may.
    let call = c.args.session.now.caller.call in
    subst (λ ws. MayMake c.args.sectors.now m w n (done ++ stand_at call c.args.sector (act.Write ws) ∷ []) c.write.new.session) c.as_slice.ensures
    (goes_on c.args.sectors.now write_at_least (stand_at call c.args.sector (act.Write c.as_slice.result.now)) c.args.session.now c.write.new.session c.write.ensures.next (c.in-Done.ensures.done refl) (c.in-Done.ensures.spent refl) refl m w n done may)

pub returns-in-Cut-clause-off : goal.returns-in-Cut-clause-off
returns-in-Cut-clause-off g c = λ _ m w n done may.
    cut_made c.args.sectors.now c.args.session.now c.write.new.session c.write.ensures.next
    (c.in-Cut.ensures.off refl (switches_not c.args.session.now c.write.new.session may.no_fuse (c.in-Cut.ensures.told refl).1)) done may.made

pub returns-in-Done-clause-power : goal.returns-in-Done-clause-power
returns-in-Done-clause-power g c = spends_only _ _ _ c.args.session.now c.write.new.session (c.in-Done.ensures.spent refl)

pub returns-in-Cut-clause-power : goal.returns-in-Cut-clause-power
returns-in-Cut-clause-power g c = switches_not c.args.session.now c.write.new.session c.requires.1.may.no_fuse (c.in-Cut.ensures.told refl).1
