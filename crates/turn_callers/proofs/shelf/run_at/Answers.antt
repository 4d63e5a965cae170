use Rattle.std.proofs.Common.{map, sym, ap, ◌∙◌, subst}
use Rattle.turn_lock.specs.Passes.{lock_id}
use Rattle.turn_callers.specs.Sessions.{IsReady, IsDone}
use Rattle.turn_lock.proofs.Places.{items_at_is}
use Rattle.turn_callers.proofs.shelf.run_at.Goals as goal

pub run_session-requires-clause-ready : goal.run_session-requires-clause-ready
run_session-requires-clause-ready g c =
    let same = c.as_slice.ensures.value ∙ ap (λ v. v.items) c.index-scripts-i.is ∙ sym (items_at_is c.args.scripts.now c.args.i c.index-scripts-i.result c.requires.inside) in
    subst (λ cs. IsReady (map lock_id c.args.turns.now) cs c.args.session.now) (sym same) c.requires.ready.1

pub returns : goal.returns
returns g c =
    let same = c.as_slice.ensures.value ∙ ap (λ v. v.items) c.index-scripts-i.is ∙ sym (items_at_is c.args.scripts.now c.args.i c.index-scripts-i.result c.requires.inside) in
    (c.run_session.ensures.number ∙ c.requires.ready.0, subst (λ cs. IsDone (map lock_id c.args.turns.now) cs c.run_session.new.session) same c.run_session.ensures.done)
