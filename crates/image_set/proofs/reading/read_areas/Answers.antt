use Rattle.std.proofs.Common.{◌∷◌, [], ℕ, length, map, None, arith, sym, ap, ◌∙◌, subst}
use Rattle.std.specs.Option.{option_map}
use Rattle.std.specs.List.{All}
use Rattle.std.proofs.lemmas.List.Elements.{All-append, All-get_or}
use Rattle.std.proofs.lemmas.List.{length-append}
use Rattle.nvd_media.specs.declared.object.Object.TheVariants as object
use Rattle.image_set.specs.declared.sizes.Sizes.{Sizes}
use Rattle.image_set.specs.Load.{bytes_kept}
use Rattle.image_set.specs.Sizes.{IsSized}
use Rattle.image_set.specs.Sound.{IsArea}
use Rattle.image_set.proofs.Counting.{all_one}
use Rattle.image_set.proofs.Filled.{map_on, sizes_at}
use Rattle.image_set.proofs.reading.read_areas.Goals as goal

abbrev none : Sizes
none = record { labels = None; contents = 0; bad = None }

pub read_area-requires-clause-sized : goal.read_area-requires-clause-sized
read_area-requires-clause-sized g c =
    (All-get_or IsSized c.args.sizes.now c.loop-module.module none (omega arith) c.requires.known.sized).labels

pub read_area-requires-clause-there : goal.read_area-requires-clause-there
read_area-requires-clause-there g c = λ set told.
    ap (λ (s : Sizes). s.labels) (sizes_at set c.args.sizes.now c.loop-module.module none (c.requires.known.there set (sym c.loop-module.invariant.same ∙ told)) (omega arith))

pub loop-module-preserved : goal.loop-module-preserved
loop-module-preserved g c = record {
  same = c.read_area.ensures.source.same ∙ c.loop-module.invariant.same;
  later = let a = c.read_area.ensures.source.later in let b = c.loop-module.invariant.later in omega arith;
  within = omega arith;
  room = c.read_area.ensures.room;
  count = ap length c.in_ok-push.ensures.ok ∙ length-append c.loop-module.areas (c.in_ok-area.area ∷ []) ∙ (let a = c.loop-module.invariant.count in omega arith);
  sound = subst (All IsArea) (sym c.in_ok-push.ensures.ok) (All-append IsArea c.loop-module.areas (c.in_ok-area.area ∷ []) c.loop-module.invariant.sound
      (all_one IsArea c.in_ok-area.area c.in_ok-area.ensures.sound));
  told = λ set told.
      ap (map (option_map bytes_kept)) c.in_ok-push.ensures.ok
      ∙ map_on (option_map bytes_kept) (λ (m : ℕ). set (object.Labels m)) c.loop-module.areas c.in_ok-area.area c.loop-module.module (c.loop-module.invariant.told set told)
      (c.in_ok-area.ensures.told set (c.loop-module.invariant.same ∙ told));
}
