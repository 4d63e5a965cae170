use Rattle.std.proofs.Common.{◌≡◌, ◌≤◌, ℕ, List, length, map, refl, sym, ap, subst, ◌∙◌}
use Rattle.std.specs.Prelude.{sum}
use Rattle.nfit_reader.specs.Table.{nfit_reading}
use Rattle.image_set.specs.Sound.{AreMapped, size_of}
use Rattle.std.specs.List.{All}
use Rattle.std.proofs.lemmas.List.{length-map}
use Rattle.image_set.specs.declared.sizes.Sizes.{Sizes}
use Rattle.image_set.specs.Limits.{most_contents}
use Rattle.image_set.specs.Outline.{contents_in}
use Rattle.image_set.specs.Sizes.{IsContentsSize, contents_of}
use Rattle.image_set.proofs.Chain.{set_is}
use Rattle.image_set.proofs.Filled.{contents_sized, contents_there, known_still}
use Rattle.image_set.proofs.loading.read_set.Goals as goal

pub read_areas-requires-clause-known : goal.read_areas-requires-clause-known
read_areas-requires-clause-known g c = known_still (g.S.ImageSource.held c.args.images.now) _ c.args.nfit c.args.nfit_bytes.items c.args.sizes.now c.requires.checked refl

pub read_contents-requires-clause-sized : goal.read_contents-requires-clause-sized
read_contents-requires-clause-sized g c = subst (All IsContentsSize) (sym (c.as_slice.ensures ∙ c.in_ok-of_contents.ensures)) (contents_sized c.args.sizes.now c.requires.checked.sized.each)

pub read_contents-requires-clause-there : goal.read_contents-requires-clause-there
read_contents-requires-clause-there g c = λ set told.
    contents_there set c.args.sizes.now c.as_slice.result.now (c.as_slice.ensures ∙ c.in_ok-of_contents.ensures) (c.requires.checked.there set (sym c.read_areas.ensures.source.same ∙ told))

pub read_bad-requires : goal.read_bad-requires
read_bad-requires g c = record {
  known = known_still (g.S.ImageSource.held c.args.images.now) _ c.args.nfit c.args.nfit_bytes.items c.args.sizes.now c.requires.checked
      (c.read_contents.ensures.source.same ∙ c.read_areas.ensures.source.same);
}

pub returns-clause-told : goal.returns-clause-told
returns-clause-told g c = λ set told.
    set_is set c.args.nfit (length c.args.sizes.now) c.from_vec.result c.in_ok-labels.labels c.in_ok-contents.contents c.in_ok-bad.bad c.requires.checked.count
    (c.from_vec.ensures ∙ c.requires.checked.read set told)
    (c.in_ok-labels.ensures.told set told)
    (c.in_ok-contents.ensures.told set (c.read_areas.ensures.source.same ∙ told)
    ∙ ap (contents_in set) (ap length (c.as_slice.ensures ∙ c.in_ok-of_contents.ensures) ∙ length-map c.args.sizes.now (λ (s : Sizes). s.contents)))
    (c.in_ok-bad.ensures.told set (c.read_contents.ensures.source.same ∙ c.read_areas.ensures.source.same ∙ told))

pub returns-clause-sound : goal.returns-clause-sound
returns-clause-sound g c =
    let sizes : map size_of c.in_ok-contents.contents ≡ contents_of c.args.sizes.now = c.in_ok-contents.ensures.sizes ∙ c.as_slice.ensures ∙ c.in_ok-of_contents.ensures in
    let count = c.requires.checked.count in
    record {
      table = ap nfit_reading c.from_vec.ensures ∙ c.requires.checked.table;
      counted = c.requires.checked.counted;
      few = c.requires.checked.few;
      modules = c.requires.checked.modules;
      labels = c.in_ok-labels.ensures.count ∙ count;
      contents = sym (length-map c.in_ok-contents.contents size_of) ∙ ap length sizes ∙ length-map c.args.sizes.now (λ (s : Sizes). s.contents) ∙ count;
      bad = c.in_ok-bad.ensures.count ∙ count;
      areas = c.in_ok-labels.ensures.sound;
      words = c.in_ok-contents.ensures.sound;
      ranges = c.in_ok-bad.ensures.sound;
      total = subst (λ (xs : List ℕ). sum xs ≤ most_contents) (sym sizes) c.requires.checked.sized.total;
      mapped = subst (λ (xs : List ℕ). All (AreMapped xs) c.args.nfit.regions) (sym sizes) c.requires.mapped;
    }
