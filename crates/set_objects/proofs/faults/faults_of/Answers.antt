use Rattle.std.proofs.Common.{◌<◌, get_or, None, arith}
use Rattle.set_objects.specs.declared.found.Found.{Found}
use Rattle.set_objects.proofs.Lengths.{counted_more, found_at}
use Rattle.set_objects.proofs.faults.faults_of.Goals as goal

abbrev none : Found
none = record { labels = None; contents = None; bad = None }

pub loop-module-preserved : goal.loop-module-preserved
loop-module-preserved c = record {
  within = omega arith;
  small = let lt : c.unwrap_or.result < 18446744073709551616 = c.unwrap_or.type_inv in let was = c.loop-module.invariant.small in omega arith;
  told = λ set are.
      counted_more c.args.regions.now set c.loop-module.faults c.push_faults.new.faults c.loop-module.before c.loop-module.module c.unwrap_or.result
      (get_or c.args.found.now c.loop-module.module none) (c.loop-module.invariant.told set are) (found_at set c.args.found.now c.loop-module.module none are (omega arith))
      c.in_ok-push_faults.ensures c.unwrap_or.ensures;
}
