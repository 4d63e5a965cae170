use Rattle.std.proofs.Common.{◌≡◌, ◌∙◌, List, map, subst}
use Rattle.interleave.specs.Places.{unit_of}
use Rattle.region_space.specs.declared.extent.Extent.{Extent}
use Rattle.region_space.specs.Space.{IsFirstFitAnswer}
use Rattle.namespace_map.specs.Namespaces.{extent_of}
use Rattle.namespace_areas.proofs.Fit.{first_fit_is}
use Rattle.namespace_areas.proofs.creating.fit.Goals as goal

pub returns : goal.returns
returns c =
    let same : c.in_ok-space.space ≡ map extent_of c.args.labels.now =
    c.in_ok-space.ensures ∙ c.deref.ensures.value ∙ c.in_ok-extents.ensures in
    first_fit_is c.args.set.now (map extent_of c.args.labels.now) c.args.raw c.first_fit.result c.requires.some
    (subst (λ (es : List Extent). IsFirstFitAnswer c.args.set.now es (unit_of c.args.set.now) c.args.raw c.first_fit.result) same c.first_fit.ensures)
