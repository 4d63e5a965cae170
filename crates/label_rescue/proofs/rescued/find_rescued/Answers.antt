use Rattle.std.proofs.Common.{List, sym, ap, ◌∙◌, subst}
use Rattle.nfit_reader.specs.declared.table.Mapping.{Mapping}
use Rattle.namespace_map.specs.declared.listed.Namespace.{Namespace}
use Rattle.namespace_map.specs.Changes.{placed_in_all}
use Rattle.namespace_map.specs.Namespaces.{claims_of}
use Rattle.namespace_areas.specs.Seen.{areas_seen}
use Rattle.namespace_ops.specs.Counted.{namespaces_in}
use Rattle.namespace_ops.specs.Registered.{state_of}
use Rattle.label_rescue.specs.Rescue.{IsOfLabels, namespace_at}
use Rattle.label_rescue.proofs.Placed.{of_labels}
use Rattle.label_rescue.proofs.rescued.find_rescued.Goals as goal

pub rescued_one-requires : goal.rescued_one-requires
rescued_one-requires c =
    let r = c.args.registry.now in
    let ns = namespaces_in (state_of r) in
    record {
      labels = subst (λ (sets : List (List Mapping)). IsOfLabels sets c.in-Some.namespace.now) (sym c.sets.ensures)
          (of_labels r.sets (placed_in_all (areas_seen r.areas)) (λ e. claims_of ns e.uuid) c.args.uuid.now c.in-Some.namespace.now
          (c.in-Some.ensures ∙ ap (λ (all : List Namespace). namespace_at all c.args.uuid.now) (c.as_slice-namespaces.ensures ∙ c.in_ok-namespaces.ensures)));
    }
