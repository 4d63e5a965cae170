use Rattle.std.proofs.Common.{◌∷◌, [], length, map, None, arith, sym, ap, ◌∙◌, subst}
use Rattle.std.specs.Option.{option_map}
use Rattle.std.specs.List.{All}
use Rattle.std.proofs.lemmas.List.Elements.{All-append}
use Rattle.std.proofs.lemmas.List.{length-append}
use Rattle.image_set.specs.Load.{bytes_kept}
use Rattle.image_set.specs.Sound.{IsArea}
use Rattle.image_set.proofs.Counting.{all_one}
use Rattle.image_set.proofs.Filled.{map_on}
use Rattle.set_objects.specs.declared.found.Found.{Found}
use Rattle.set_objects.specs.Objects.{labels_there}
use Rattle.set_objects.proofs.Lengths.{found_at}
use Rattle.set_objects.proofs.reading.read_areas.Goals as goal

abbrev none : Found
none = record { labels = None; contents = None; bad = None }

pub read_area-requires : goal.read_area-requires
read_area-requires g c = λ set told.
    ap (λ (f : Found). f.labels) (found_at set c.args.found.now c.loop-module.module none (c.requires.there set (sym c.loop-module.invariant.same ∙ told)) (omega arith))

pub loop-module-preserved : goal.loop-module-preserved
loop-module-preserved g c = record {
  same = c.read_area.ensures.source.same ∙ c.loop-module.invariant.same;
  later = let a = c.read_area.ensures.source.later in let b = c.loop-module.invariant.later in omega arith;
  within = omega arith;
  count = ap length c.in_ok-push.ensures.ok ∙ length-append c.loop-module.areas (c.in_ok-area.area ∷ []) ∙ (let a = c.loop-module.invariant.count in omega arith);
  sound = subst (All IsArea) (sym c.in_ok-push.ensures.ok) (All-append IsArea c.loop-module.areas (c.in_ok-area.area ∷ []) c.loop-module.invariant.sound
      (all_one IsArea c.in_ok-area.area c.in_ok-area.ensures.sound));
  told = λ set told.
      ap (map (option_map bytes_kept)) c.in_ok-push.ensures.ok
      ∙ map_on (option_map bytes_kept) (labels_there set) c.loop-module.areas c.in_ok-area.area c.loop-module.module (c.loop-module.invariant.told set told)
      (c.in_ok-area.ensures.told set (c.loop-module.invariant.same ∙ told));
}
