use Rattle.std.proofs.Common.{◌∷◌, [], ℕ, map, get_or, arith, sym, ap, ◌∙◌, subst}
use Rattle.std.specs.List.{All}
use Rattle.std.proofs.lemmas.List.Elements.{All-append, All-get_or}
use Rattle.nvd_media.specs.declared.object.Object.TheVariants as object
use Rattle.nvd_media.specs.Images.{bytes_of}
use Rattle.image_set.specs.Load.{bytes_kept}
use Rattle.image_set.specs.Sizes.{IsContentsSize}
use Rattle.image_set.specs.Sound.{size_of, IsContents}
use Rattle.image_set.proofs.Copied.{size_at}
use Rattle.image_set.proofs.Counting.{all_one}
use Rattle.image_set.proofs.Filled.{map_on, contents_on, contents_sound}
use Rattle.image_set.proofs.reading.read_contents.Goals as goal

pub read_object-requires-clause-there : goal.read_object-requires-clause-there
read_object-requires-clause-there g c = λ set told.
    size_at c.args.sizes.now set c.loop-module.module (c.requires.there set (sym c.loop-module.invariant.same ∙ told)) (omega arith)

pub loop-module-preserved : goal.loop-module-preserved
loop-module-preserved g c = record {
  same = c.read_object.ensures.source.same ∙ c.loop-module.invariant.same;
  later = let a = c.read_object.ensures.source.later in let b = c.loop-module.invariant.later in omega arith;
  within = omega arith;
  room = c.read_object.ensures.room;
  sizes = ap (map size_of) c.in_ok-push.ensures.ok
      ∙ contents_on c.args.sizes.now c.loop-module.contents c.in_ok-words.words c.loop-module.module c.loop-module.invariant.sizes (omega arith) c.in_ok-words.ensures.count;
  sound = subst (All IsContents) (sym c.in_ok-push.ensures.ok) (All-append IsContents c.loop-module.contents (c.in_ok-words.words ∷ []) c.loop-module.invariant.sound
      (all_one IsContents c.in_ok-words.words (contents_sound c.in_ok-words.words (get_or c.args.sizes.now c.loop-module.module 0)
      (All-get_or IsContentsSize c.args.sizes.now c.loop-module.module 0 (omega arith) c.requires.sized) c.in_ok-words.ensures.count c.in_ok-words.ensures.settled.kept c.in_ok-words.ensures.settled.fit)));
  told = λ set told.
      ap (map bytes_kept) c.in_ok-push.ensures.ok
      ∙ map_on bytes_kept (λ (m : ℕ). bytes_of set (object.Contents m)) c.loop-module.contents c.in_ok-words.words c.loop-module.module (c.loop-module.invariant.told set told)
      (c.in_ok-words.ensures.told set (c.loop-module.invariant.same ∙ told));
}
