use Rattle.std.proofs.Common.{◌∷◌, [], ℕ, length, None, arith, sym, ap, ◌∙◌, subst}
use Rattle.std.specs.List.{All}
use Rattle.std.proofs.lemmas.List.Elements.{All-append}
use Rattle.std.proofs.lemmas.List.{length-append}
use Rattle.nvd_media.specs.declared.object.Object.TheVariants as object
use Rattle.image_set.specs.declared.sizes.Sizes.{Sizes}
use Rattle.image_set.specs.Sound.{IsBadRanges}
use Rattle.image_set.proofs.Counting.{all_one}
use Rattle.image_set.proofs.Filled.{list_on, sizes_at}
use Rattle.image_set.proofs.reading.read_bad.Goals as goal

abbrev none : Sizes
none = record { labels = None; contents = 0; bad = None }

pub read_ranges-requires-clause-there : goal.read_ranges-requires-clause-there
read_ranges-requires-clause-there g c = λ set told.
    ap (λ (s : Sizes). s.bad) (sizes_at set c.args.sizes.now c.loop-module.module none (c.requires.known.there set (sym c.loop-module.invariant.same ∙ told)) (omega arith))

pub loop-module-preserved : goal.loop-module-preserved
loop-module-preserved g c = record {
  same = c.read_ranges.ensures.source.same ∙ c.loop-module.invariant.same;
  later = let a = c.read_ranges.ensures.source.later in let b = c.loop-module.invariant.later in omega arith;
  within = omega arith;
  count = ap length c.in_ok-push.ensures.ok ∙ length-append c.loop-module.bad (c.in_ok-ranges.ranges ∷ []) ∙ (let a = c.loop-module.invariant.count in omega arith);
  sound = subst (All IsBadRanges) (sym c.in_ok-push.ensures.ok) (All-append IsBadRanges c.loop-module.bad (c.in_ok-ranges.ranges ∷ []) c.loop-module.invariant.sound
      (all_one IsBadRanges c.in_ok-ranges.ranges c.in_ok-ranges.ensures.sound));
  told = λ set told.
      c.in_ok-push.ensures.ok
      ∙ list_on (λ (m : ℕ). set (object.BadRanges m)) c.loop-module.bad c.in_ok-ranges.ranges c.loop-module.module (c.loop-module.invariant.told set told)
      (c.in_ok-ranges.ensures.told set (c.loop-module.invariant.same ∙ told));
}
