use Rattle.std.proofs.Common.{◌∙◌, ap}
use Rattle.std.specs.Option.{option_map}
use Rattle.namespace_map.specs.Namespaces.{status_in}
use Rattle.namespace_areas.specs.GroupSeen.{number_in}
use Rattle.namespace_areas.proofs.Named.{made}
use Rattle.namespace_areas.proofs.group_labels.namespace_with.Goals as goal

pub returns : goal.returns
returns c =
    made c.args.regions.now c.args.labels.now c.args.first.now c.shown_name.result c.number_of.result c.mode.result c.from_vec.result c.status_in-status.result
    c.shown_name.ensures (c.number_of.ensures ∙ ap (option_map number_in) c.region_of-region.ensures) c.mode.ensures (c.from_vec.ensures ∙ c.in_ok-extents_of.ensures)
    (c.status_in-status.ensures ∙ ap (λ r. status_in r c.args.labels.now c.args.first.now) c.region_of-region.ensures)
