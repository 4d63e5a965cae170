use Rattle.std.proofs.Common.{◌≡◌, ◌≤◌, ℕ, sum, List, length, refl, sym, ap, subst, ◌∙◌, arith}
use Rattle.std.specs.List.{All}
use Rattle.std.proofs.lemmas.List.{length-map}
use Rattle.nfit_reader.specs.Table.{nfit_reading}
use Rattle.image_set.specs.declared.sizes.Sizes.{Sizes}
use Rattle.image_set.specs.Limits.{most_contents}
use Rattle.image_set.specs.Sizes.{IsContentsSize}
use Rattle.image_set.specs.Sound.{AreMapped}
use Rattle.image_set.proofs.Chain.{outline_is}
use Rattle.image_set.proofs.Filled.{contents_sized, contents_there, known_still}
use Rattle.image_set.proofs.outline.read_outline.Goals as goal

pub read_areas-requires-clause-known : goal.read_areas-requires-clause-known
read_areas-requires-clause-known g c = known_still (g.S.ImageSource.held c.args.images.now) _ c.args.nfit c.args.nfit_bytes.items c.args.sizes.now c.requires.checked refl

pub read_bad-requires : goal.read_bad-requires
read_bad-requires g c = record {
  known = known_still (g.S.ImageSource.held c.args.images.now) _ c.args.nfit c.args.nfit_bytes.items c.args.sizes.now c.requires.checked c.read_areas.ensures.source.same;
}

pub returns-clause-told : goal.returns-clause-told
returns-clause-told g c = λ set told.
    let long : length c.in_ok-of_contents.of_contents ≡ length c.args.sizes.now = ap length c.in_ok-of_contents.ensures ∙ length-map c.args.sizes.now (λ (s : Sizes). s.contents) in
    outline_is set c.args.nfit (length c.args.sizes.now) (length c.in_ok-of_contents.of_contents) c.from_vec.result c.in_ok-labels.labels c.in_ok-of_contents.of_contents c.in_ok-bad.bad c.requires.checked.count long
    (c.from_vec.ensures ∙ c.requires.checked.read set told)
    (c.in_ok-labels.ensures.told set told)
    (c.in_ok-bad.ensures.told set (c.read_areas.ensures.source.same ∙ told))

pub returns-clause-sizes : goal.returns-clause-sizes
returns-clause-sizes g c = λ set told. contents_there set c.args.sizes.now c.in_ok-of_contents.of_contents c.in_ok-of_contents.ensures (c.requires.checked.there set told)

pub returns-clause-loadable : goal.returns-clause-loadable
returns-clause-loadable g c = record {
  count = ap length c.in_ok-of_contents.ensures ∙ length-map c.args.sizes.now (λ (s : Sizes). s.contents) ∙ c.requires.checked.count;
  sized = subst (All IsContentsSize) (sym c.in_ok-of_contents.ensures) (contents_sized c.args.sizes.now c.requires.checked.sized.each);
  total = subst (λ (sizes : List ℕ). sum sizes ≤ most_contents) (sym c.in_ok-of_contents.ensures) c.requires.checked.sized.total;
  mapped = subst (λ (sizes : List ℕ). All (AreMapped sizes) c.args.nfit.regions) (sym c.in_ok-of_contents.ensures) c.requires.mapped;
}

pub returns-clause-sound : goal.returns-clause-sound
returns-clause-sound g c =
    let long : length c.in_ok-of_contents.of_contents ≡ length c.args.sizes.now = ap length c.in_ok-of_contents.ensures ∙ length-map c.args.sizes.now (λ (s : Sizes). s.contents) in
    record {
      table = ap nfit_reading c.from_vec.ensures ∙ c.requires.checked.table;
      counted = c.requires.checked.counted;
      regions = c.requires.checked.few;
      labels = c.in_ok-labels.ensures.count ∙ sym long;
      bad = c.in_ok-bad.ensures.count ∙ sym long;
      few = let f = c.requires.checked.modules.few in let n = c.requires.checked.count in omega arith;
      areas = c.in_ok-labels.ensures.sound;
    }
