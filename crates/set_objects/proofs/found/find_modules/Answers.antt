use Rattle.std.proofs.Common.{◌∷◌, [], length, arith, ap, ◌∙◌}
use Rattle.std.proofs.lemmas.List.{length-append}
use Rattle.image_set.proofs.Filled.{list_on}
use Rattle.set_objects.specs.Found.{found_in}
use Rattle.set_objects.proofs.found.find_modules.Goals as goal

pub loop-module-preserved : goal.loop-module-preserved
loop-module-preserved g c = record {
  same = c.find_module.ensures.source.same ∙ c.loop-module.invariant.same;
  later = let a = c.find_module.ensures.source.later in let b = c.loop-module.invariant.later in omega arith;
  within = omega arith;
  count = ap length c.in_ok-push.ensures.ok ∙ length-append c.loop-module.found (c.in_ok-of_module.of_module ∷ []) ∙ (let a = c.loop-module.invariant.count in omega arith);
  told = λ set told.
      c.in_ok-push.ensures.ok
      ∙ list_on (found_in set) c.loop-module.found c.in_ok-of_module.of_module c.loop-module.module (c.loop-module.invariant.told set told)
      (c.in_ok-of_module.ensures.told set (c.loop-module.invariant.same ∙ told));
}
