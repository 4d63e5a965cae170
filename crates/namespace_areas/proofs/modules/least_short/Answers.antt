use Rattle.std.proofs.Common.{◌≡◌, ℕ, ◌<◌, length, get_or, ap, arith}
use Rattle.std.specs.Prelude.{nat_lt}
use Rattle.label_set.specs.Rules.{modules_of}
use Rattle.label_set.proofs.Twice.{module_there, length_modules}
use Rattle.namespace_areas.specs.Refusals.{area_summary_at}
use Rattle.namespace_areas.proofs.Room.{least_more}
use Rattle.namespace_areas.proofs.modules.least_short.Goals as goal

pub loop-position-preserved : goal.loop-position-preserved
loop-position-preserved c =
    let at : c.module_at-module.result ≡ get_or (modules_of c.args.set.now) c.loop-position.position c.module_at-module.result =
    module_there c.args.set.now c.loop-position.position c.module_at-module.result (omega arith) c.module_at-module.ensures in
    let lt : c.loop-position.position < length (modules_of c.args.set.now) = omega (arith, length_modules c.args.set.now) in
    least_more (λ (number : ℕ). nat_lt (area_summary_at c.args.areas.now number).free c.args.wanted) (modules_of c.args.set.now) (modules_of c.args.set.now) c.loop-position.position c.module_at-module.result
    c.loop-position.least c.lesser_of-least.result _ lt at (ap (λ (n : ℕ). nat_lt n c.args.wanted) c.free_slots.ensures) c.lesser_of-least.ensures c.loop-position.invariant
