use Rattle.std.proofs.Common.{sym, ap, ◌∙◌, subst, length}
use Rattle.turn_lock.specs.Passes.{lock_id}
use Rattle.pool_tests.specs.Callers.{AreOf, HasPlace, HasTurns}
use Rattle.pool_tests.proofs.Fresh.{Passes, lent}
use Rattle.pool_tests.proofs.tests.run_all.Goals as goal

pub run_callers-requires-clause-may : goal.run_callers-requires-clause-may
run_callers-requires-clause-may g c κs within =
    subst (λ (ps : Passes). AreOf (lock_id c.args.pool.now.turn) (HasTurns 20000) ps) (sym c.as_mut_slice.ensures.value) c.requires.may

pub returns-clause-place : goal.returns-clause-place
returns-clause-place g c =
    let same = c.run_callers.ensures.count ∙ ap (λ (ps : Passes). length ps) c.as_mut_slice.ensures.value in
    subst (λ (ps : Passes). AreOf (lock_id c.args.pool.now.turn) HasPlace ps) (sym (lent c.args.passes.len c.args.passes.items c.run_callers.new.passes c.args.passes.ok.0 same)) c.run_callers.ensures.place
