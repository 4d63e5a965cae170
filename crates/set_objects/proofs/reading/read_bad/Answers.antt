use Rattle.std.proofs.Common.{◌∷◌, [], length, None, arith, sym, ap, ◌∙◌}
use Rattle.std.proofs.lemmas.List.{length-append}
use Rattle.image_set.proofs.Filled.{list_on}
use Rattle.set_objects.specs.declared.found.Found.{Found}
use Rattle.set_objects.specs.Objects.{bad_there}
use Rattle.set_objects.proofs.Lengths.{found_at}
use Rattle.set_objects.proofs.reading.read_bad.Goals as goal

abbrev none : Found
none = record { labels = None; contents = None; bad = None }

pub read_ranges-requires : goal.read_ranges-requires
read_ranges-requires g c = λ set told.
    ap (λ (f : Found). f.bad) (found_at set c.args.found.now c.loop-module.module none (c.requires.there set (sym c.loop-module.invariant.same ∙ told)) (omega arith))

pub loop-module-preserved : goal.loop-module-preserved
loop-module-preserved g c = record {
  same = c.read_ranges.ensures.source.same ∙ c.loop-module.invariant.same;
  later = let a = c.read_ranges.ensures.source.later in let b = c.loop-module.invariant.later in omega arith;
  within = omega arith;
  count = ap length c.in_ok-push.ensures.ok ∙ length-append c.loop-module.bad (c.in_ok-ranges.ranges ∷ []) ∙ (let a = c.loop-module.invariant.count in omega arith);
  told = λ set told.
      c.in_ok-push.ensures.ok
      ∙ list_on (bad_there set) c.loop-module.bad c.in_ok-ranges.ranges c.loop-module.module (c.loop-module.invariant.told set told)
      (c.in_ok-ranges.ensures.told set (c.loop-module.invariant.same ∙ told));
}
