use Rattle.std.proofs.Common.{ℕ, map, ap, ◌∙◌}
use Rattle.std.proofs.lemmas.List.{take_all}
use Rattle.std.proofs.lemmas.Result.{IfOk-weaker}
use Rattle.nfit_reader.specs.declared.table.Region.{Region}
use Rattle.nfit_reader.specs.Table.{place_of}
use Rattle.nfit_reader.proofs.DpaRanges.{position_from-index}
use Rattle.nfit_reader.proofs.alias.region_numbers.Goals as goal

abbrev index_of : Region → ℕ
index_of r = r.index

pub returns : goal.returns
returns c =
    let keys = c.deref.ensures.value ∙ c.loop-region.invariant ∙ ap (map index_of) (take_all c.loop-region.region-index c.args.regions.now c.loop-region-test.false) in
    IfOk-weaker c.places_of.result _ _ (λ places told. λ index. told index ∙ ap (place_of index) keys ∙ position_from-index index 0 c.args.regions.now) c.places_of.ensures
