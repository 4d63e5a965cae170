use Rattle.namespace_areas.specs.Areas.{labels_of}
use Rattle.shell_set_check.proofs.Said.{labels_said}
use Rattle.shell_set_check.proofs.namespaces.push_judged.Goals as goal

pub returns : goal.returns
returns c =
    labels_said c.push_groups.result c.args.text.now.items c.push_overlap.new.text.items c.push_groups.new.text.items c.args.sets c.in_ok-regions.regions c.in_ok-groups.groups.sorted (labels_of c.args.areas.now)
    c.push_groups.ensures c.in_ok-push_overlap.ensures c.in_ok-regions.ensures c.in_ok-groups.ensures.groups
