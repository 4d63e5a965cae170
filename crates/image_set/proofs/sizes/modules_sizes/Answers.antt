use Rattle.std.proofs.Common.{◌+◌, Err, ap, ◌∙◌, refl, sym, arith, subst}
use Rattle.std.proofs.lemmas.Result.{err_from_is_err_and}
use Rattle.image_set.proofs.Counting.{Counted, counted_none, counted_on, counted_stops, counted_all, are_sized}
use Rattle.image_set.proofs.sizes.modules_sizes.Goals as goal

pub loop-module-init : goal.loop-module-init
loop-module-init g c = record {
  same = refl;
  later = omega arith;
  counted = subst (λ all. Counted (g.S.ImageSource.held c.args.images.now) all 0 0 c.args.count) (sym c.new-all.ensures) (counted_none (g.S.ImageSource.held c.args.images.now) c.args.count);
}

pub loop-module-preserved : goal.loop-module-preserved
loop-module-preserved g c = record {
  same = c.module_sizes.ensures.source.same ∙ c.loop-module.invariant.same;
  later = let a = c.module_sizes.ensures.source.later in let b = c.loop-module.invariant.later in omega arith;
  counted = subst (λ all. Counted (g.S.ImageSource.held c.args.images.now) all (c.loop-module.before + c.in_ok-sizes.sizes.contents) (c.loop-module.module + 1) c.args.count)
      (sym c.in_ok-push.ensures.ok)
      (counted_on _ (g.S.ImageSource.held c.loop-module.images) c.loop-module.all c.loop-module.before c.loop-module.module c.args.count c.in_ok-sizes.sizes c.module_sizes.result
      c.loop-module.invariant.counted c.loop-module.invariant.same c.loop-module-test.true c.in_ok-sizes.was c.in_ok-sizes.ensures.sized c.in_ok-sizes.ensures.few
      c.module_sizes.ensures.told);
}

pub returns-in_err-sizes-clause-told : goal.returns-in_err-sizes-clause-told
returns-in_err-sizes-clause-told g c =
    let p = err_from_is_err_and c.from_residual.result c.from_residual.ensures.1 in
    counted_stops _ (g.S.ImageSource.held c.loop-module.images) c.loop-module.all c.loop-module.before c.loop-module.module c.args.count c.in_err-sizes.field-0.0 c.module_sizes.result c.from_residual.result
    c.loop-module.invariant.counted c.loop-module.invariant.same c.loop-module-test.true c.in_err-sizes.was (p.1 ∙ ap (λ f. Err f) p.2) c.module_sizes.ensures.told

pub returns-clause-told : goal.returns-clause-told
returns-clause-told g c = λ set told no_read no_memory.
    counted_all _ c.loop-module.all c.loop-module.before c.loop-module.module c.args.count _ c.loop-module.invariant.counted c.loop-module-test.false refl set told

pub returns-clause-sized : goal.returns-clause-sized
returns-clause-sized g c = are_sized _ c.loop-module.all c.loop-module.before c.loop-module.module c.args.count c.loop-module.invariant.counted
