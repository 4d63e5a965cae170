use Rattle.std.proofs.Common.{refl, sym, ap, ◌∙◌, subst}
use Rattle.turn_lock.specs.Passes.{lock_id, number_of}
use Rattle.turn_lock.specs.Rows.{items_at}
use Rattle.turn_callers.specs.Scripts.{IsScriptReady}
use Rattle.turn_lock.proofs.Places.{items_at_is}
use Rattle.turn_callers.proofs.Ready.{done_same}
use Rattle.turn_callers.proofs.script.run_at.Goals as goal

pub run_session-requires : goal.run_session-requires
run_session-requires g c =
    let same = c.as_slice.ensures.value ∙ ap (λ v. v.items) c.index-scripts-i.is ∙ sym (items_at_is c.args.scripts.now c.args.i c.index-scripts-i.result c.requires.inside) in
    let h = subst (λ cs. IsScriptReady (lock_id c.args.turn.now) cs c.args.i c.args.session.now) (sym same) c.requires.ready in
    (h.0, refl, h.2, h.3, h.4, h.5)

pub returns : goal.returns
returns g c =
    let same = c.as_slice.ensures.value ∙ ap (λ v. v.items) c.index-scripts-i.is ∙ sym (items_at_is c.args.scripts.now c.args.i c.index-scripts-i.result c.requires.inside) in
    done_same (lock_id c.args.turn.now) c.as_slice.result.now (items_at c.args.scripts.now c.args.i) (number_of c.args.session.now.pass) c.args.i c.run_session.new.session same c.requires.ready.1 c.run_session.ensures
