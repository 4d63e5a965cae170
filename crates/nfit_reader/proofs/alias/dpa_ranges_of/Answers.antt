use Rattle.std.proofs.Common.{◌≡◌, eqb, ◌++◌, get_or, take, sym, ap, ◌∙◌}
use Rattle.std.specs.Option.{option_to_list}
use Rattle.std.specs.List.{filter_map, position_from}
use Rattle.nfit_reader.specs.declared.structures.Link.{Link}
use Rattle.nfit_reader.specs.Table.{dpa_range_of}
use Rattle.nfit_reader.specs.Names.{IsPlaced}
use Rattle.nfit_reader.proofs.Groups.{filter_map_more}
use Rattle.nfit_reader.proofs.alias.dpa_ranges_of.Goals as goal

abbrev blank : Link
blank = record { handle = 0; range = 0; control = 0; size = 0; offset = 0; start = 0; interleave = 0; ways = 0 }

pub loop-link-preserved : goal.loop-link-preserved
loop-link-preserved c = λ structures numbered regions.
    let link = get_or c.args.links.now c.loop-link.link-index blank in
    let placed : IsPlaced c.in_ok-places.places structures =
    record { regions = λ index. c.in_ok-places.ensures index ∙ ap (λ rs. position_from (λ r. eqb r.index index) 0 rs) regions } in
    let dpa_range : c.dpa_range_of.result ≡ dpa_range_of structures link = c.dpa_range_of.ensures structures numbered placed in
    c.in_ok-push_some.ensures
    ∙ ap (λ xs. xs ++ option_to_list c.dpa_range_of.result) (c.loop-link.invariant structures numbered regions)
    ∙ ap (λ o. filter_map (dpa_range_of structures) (take c.loop-link.link-index c.args.links.now) ++ option_to_list o) dpa_range
    ∙ sym (filter_map_more (dpa_range_of structures) c.args.links.now c.loop-link.link-index blank c.loop-link-test.true)
